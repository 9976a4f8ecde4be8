use Rattle.drawing_core.specs.Following.{sight_of}
use Rattle.drawing_core.specs.Marking.{is_given, is_given_touched}
use Rattle.drawing_core.proofs.FollowLemmas.{Marked-same, Marked-reach}
use Rattle.drawing_core.proofs.TouchedLemmas.{nothing_given, given-touched}
use Rattle.drawing_core.proofs.following.follow_looks.Goals as goal

pub returns : goal.returns
returns c before view is once still was =
    let shot = c.args.shown.now in
    let looks = c.args.touched.now.looks.items in
    Marked-reach before view shot shot looks c.args.queue.now c.mark_touched.new.queue is still was
    (Marked-same (is_given_touched shot looks) (is_given shot shot looks) c.args.queue.now c.mark_touched.new.queue
    (λ x y. given-touched shot looks x y (nothing_given (sight_of view) view.width view.height shot (record { valid = is.valid; windows = is.windows }) once still x y)) c.mark_touched.ensures)
