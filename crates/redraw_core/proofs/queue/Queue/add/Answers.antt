use Rattle.geom_core.specs.Rect.{in_rect}
use Rattle.redraw_core.proofs.QueueLemmas.{pixels-added, IsDirt-in}
use Rattle.redraw_core.proofs.queue.Queue.add.Goals as goal

pub returns-clause-pixels : goal.returns-clause-pixels
returns-clause-pixels c =
    let old = c.self.inside.store in
    let new = c.add.new.store in
    rw (← c.self.view_is) (pixels-added (in_rect c.args.rect) old.kept.items old.map new.kept.items new.area new.map c.add.ensures)

pub returns-clause-valid : goal.returns-clause-valid
returns-clause-valid c =
    let new = c.add.new.store in
    IsDirt-in new.kept.items new.map c.add.ensures.is.valid
