use Rattle.std.proofs.Common.{pos, List, sym, ap, ◌∙◌}
use Rattle.geom_core.specs.declared.rectangle.Rect.{Rect}
use Rattle.geom_core.specs.Pieces.{covers}
use Rattle.redraw_core.proofs.QueueLemmas.{IsDirt-in, holds_kept, holds_map}
use Rattle.redraw_core.proofs.queue.Queue.holds.Goals as goal

pub returns-then-is_kept-clause-pixel : goal.returns-then-is_kept-clause-pixel
returns-then-is_kept-clause-pixel c =
    let store = c.self.inside.store in
    holds_kept c.args.self.now store.kept.items store.map c.args.x c.args.y c.self.view_is c.requires.on_row c.requires.on_screen
    (sym (ap (λ (rs : List Rect). covers rs (pos c.args.x) (pos c.args.y)) c.deref.ensures.0) ∙ sym c.is_kept.ensures ∙ c.if-is_kept.true)

pub returns-then-is_kept-clause-valid : goal.returns-then-is_kept-clause-valid
returns-then-is_kept-clause-valid c =
    let store = c.self.inside.store in
    rw (← c.self.view_is) (IsDirt-in store.kept.items store.map c.self.invariant.valid)

pub returns-clause-pixel : goal.returns-clause-pixel
returns-clause-pixel c =
    let store = c.self.inside.store in
    c.holds.ensures.pixel ∙ holds_map c.args.self.now store.kept.items store.map c.args.x c.args.y c.self.view_is c.requires.on_row c.requires.on_screen
    (sym (ap (λ (rs : List Rect). covers rs (pos c.args.x) (pos c.args.y)) c.deref.ensures.0) ∙ sym c.is_kept.ensures ∙ c.if-is_kept.false)

pub returns-clause-valid : goal.returns-clause-valid
returns-clause-valid c =
    let store = c.self.inside.store in
    rw (← c.self.view_is) (IsDirt-in store.kept.items store.map c.self.invariant.valid)
