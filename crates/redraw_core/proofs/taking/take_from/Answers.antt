use Rattle.std.proofs.Common.{◌<◌, List, pos, arith, sym, ap, ◌∙◌}
use Rattle.std.proofs.lemmas.Bool.{or_left, or_right}
use Rattle.geom_core.specs.declared.rectangle.Rect.{Rect}
use Rattle.geom_core.specs.Pieces.{covers, total_area}
use Rattle.geom_core.proofs.RectLemmas.{rect_of}
use Rattle.geom_core.proofs.PieceLemmas.{covers-append, AreDisjoint-parts, HavePixels-parts}
use Rattle.redraw_core.proofs.JoinLemmas.{IsPiece-in_range}
use Rattle.redraw_core.proofs.TakeLemmas.{first_area, rest_fresh, drawn_fresh, Removed-front}
use Rattle.redraw_core.proofs.taking.take_from.Goals as goal

pub take_front-front-requires : goal.take_front-front-requires
take_front-front-requires c = IsPiece-in_range c.args.rect c.args.store.now.map c.requires.valid.valid c.requires.piece

pub place_from-requires-clause-disjoint : goal.place_from-requires-clause-disjoint
place_from-requires-clause-disjoint c =
    let front = c.take_front-front.result in
    rw c.deref-2.ensures.0 (AreDisjoint-parts front.drawn.items front.rest.items c.take_front-front.ensures.disjoint).1

pub place_from-requires-clause-filled : goal.place_from-requires-clause-filled
place_from-requires-clause-filled c =
    let front = c.take_front-front.result in
    rw c.deref-2.ensures.0 (HavePixels-parts front.drawn.items front.rest.items c.take_front-front.ensures.filled).1

pub place_from-requires-clause-inside : goal.place_from-requires-clause-inside
place_from-requires-clause-inside c = λ x y e.
    let front = c.take_front-front.result in
    let covered = sym (ap (λ (rs : List Rect). covers rs x y) c.deref-2.ensures.0) ∙ e in
    c.requires.piece.inside x y (sym (c.take_front-front.ensures.pixels x y) ∙ covers-append front.drawn.items front.rest.items x y ∙ or_right (covers front.drawn.items x y) (covers front.rest.items x y) covered)

pub place_from-requires-clause-fresh : goal.place_from-requires-clause-fresh
place_from-requires-clause-fresh c =
    let store = c.args.store.now in
    let front = c.take_front-front.result in
    rw c.deref-2.ensures.0 (rest_fresh front.drawn.items front.rest.items c.args.rect store.kept.items store.map c.take_front-front.ensures.pixels c.requires.fresh)

pub place_from-requires-2-clause-disjoint : goal.place_from-requires-2-clause-disjoint
place_from-requires-2-clause-disjoint c =
    let front = c.take_front-front.result in
    rw c.deref-3.ensures.0 (AreDisjoint-parts front.drawn.items front.rest.items c.take_front-front.ensures.disjoint).0

pub place_from-requires-2-clause-filled : goal.place_from-requires-2-clause-filled
place_from-requires-2-clause-filled c =
    let front = c.take_front-front.result in
    rw c.deref-3.ensures.0 (HavePixels-parts front.drawn.items front.rest.items c.take_front-front.ensures.filled).0

pub place_from-requires-2-clause-inside : goal.place_from-requires-2-clause-inside
place_from-requires-2-clause-inside c = λ x y e.
    let front = c.take_front-front.result in
    let covered = sym (ap (λ (rs : List Rect). covers rs x y) c.deref-3.ensures.0) ∙ e in
    rw (c.place_from.ensures.width, c.place_from.ensures.height)
    (c.requires.piece.inside x y (sym (c.take_front-front.ensures.pixels x y) ∙ covers-append front.drawn.items front.rest.items x y ∙ or_left (covers front.drawn.items x y) (covers front.rest.items x y) covered))

pub place_from-requires-2-clause-fresh : goal.place_from-requires-2-clause-fresh
place_from-requires-2-clause-fresh c =
    let store = c.args.store.now in
    let mid = c.place_from.new.store in
    let front = c.take_front-front.result in
    let parts = AreDisjoint-parts front.drawn.items front.rest.items c.take_front-front.ensures.disjoint in
    rw c.deref-3.ensures.0 (drawn_fresh front.drawn.items front.rest.items c.args.rect store.kept.items store.map mid.kept.items mid.area mid.map c.take_front-front.ensures.pixels parts.2 c.requires.fresh (rw c.deref-2.ensures.0 at c.place_from.ensures))

pub returns-clause-removed : goal.returns-clause-removed
returns-clause-removed c =
    let store = c.args.store.now in
    let mid = c.place_from.new.store in
    let new = c.place_from-2.new.store in
    let front = c.take_front-front.result in
    let zeros = rect_of (pos 0) (pos 0) 0 0 in
    let parts = AreDisjoint-parts front.drawn.items front.rest.items c.take_front-front.ensures.disjoint in
    let some : 0 < total_area front.drawn.items = omega (arith, c.take_front-front.ensures.drawn_area, c.whole_rows.ensures.least, c.requires.piece.some) in
    let head = first_area front.drawn.items zeros some in
    rw c.deref.ensures.0 (Removed-front c.args.n front.drawn.items front.rest.items zeros c.args.rect store.kept.items store.map mid.kept.items mid.area mid.map new.kept.items new.area new.map
    c.take_front-front.ensures.pixels parts.0 (HavePixels-parts front.drawn.items front.rest.items c.take_front-front.ensures.filled).0 parts.2 head.0
    (omega (arith, head.1, c.take_front-front.ensures.drawn_area, c.whole_rows.ensures.most))
    c.requires.piece c.requires.fresh (rw c.deref-2.ensures.0 at c.place_from.ensures) (rw c.deref-3.ensures.0 at c.place_from-2.ensures))
