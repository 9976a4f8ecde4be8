use Rattle.std.proofs.Common.{sym, ◌∙◌}
use Rattle.redraw_core.proofs.StoreLemmas.{IsApart-more}
use Rattle.redraw_core.proofs.adding.first_meeting.Goals as goal

pub loop-k-preserved : goal.loop-k-preserved
loop-k-preserved c = IsApart-more c.args.kept.now c.args.part _ c.loop-k.k c.loop-k-test.true c.loop-k.invariant (sym c.meets.ensures ∙ c.if-meets.false)
