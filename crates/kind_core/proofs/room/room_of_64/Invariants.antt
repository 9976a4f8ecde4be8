-- the bytes that are copied, and zeros behind them
use Rattle.std.proofs.Common.{◌≡◌, ◌-◌, ◌++◌, take}
use Rattle.std.specs.Prelude.{replicate}
use Rattle.kind_core.proofs.room.room_of_64.Given as goal

abbrev pub invariant-loop-i : goal.invariant-loop-i
invariant-loop-i l = l.cells ≡ take l.i l.bytes ++ replicate (64 - l.i) 0
