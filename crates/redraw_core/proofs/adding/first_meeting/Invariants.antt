use Rattle.std.proofs.Common.{take}
use Rattle.redraw_core.specs.Stored.{IsApart}
use Rattle.redraw_core.proofs.adding.first_meeting.Given as goal

abbrev pub invariant-loop-k : goal.invariant-loop-k
invariant-loop-k l = IsApart l.part (take l.k l.kept)
