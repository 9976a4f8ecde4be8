use Rattle.drawing_core.proofs.FollowLemmas.{Marked-reach}
use Rattle.drawing_core.proofs.following.follow.Goals as goal

pub returns-clause-reach : goal.returns-clause-reach
returns-clause-reach c before was =
    Marked-reach before c.args.view.now c.args.shown.now c.shot.new.out c.args.touched.now.looks.items c.args.queue.now c.mark.new.queue c.requires.view c.shot.ensures.shot was c.mark.ensures
