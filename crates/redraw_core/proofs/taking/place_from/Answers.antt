use Rattle.std.proofs.Common.{◌≡◌, ◌+◌, ◌-◌, pos, length, get_or, drop, arith, subst}
use Rattle.geom_core.specs.Rect.{in_rect}
use Rattle.geom_core.specs.Pieces.{covers}
use Rattle.geom_core.proofs.RectLemmas.{rect_of}
use Rattle.redraw_core.specs.Stored.{Grown}
use Rattle.redraw_core.proofs.GrownLemmas.{Grown-then}
use Rattle.redraw_core.proofs.TakeLemmas.{IsPiece-drop, IsFresh-drop, drop_joined}
use Rattle.redraw_core.proofs.taking.place_from.Goals as goal

pub place-requires-clause-piece : goal.place-requires-clause-piece
place-requires-clause-piece c =
    let store = c.args.store.now in
    let now = c.loop-i.store in
    let parts = c.args.parts.now in
    IsPiece-drop parts _ _ store.map now.map c.requires.filled (omega arith) c.requires.inside c.loop-i.invariant.width c.loop-i.invariant.height

pub place-requires-clause-fresh : goal.place-requires-clause-fresh
place-requires-clause-fresh c =
    let store = c.args.store.now in
    let now = c.loop-i.store in
    let parts = c.args.parts.now in
    let k = length parts - 1 - c.loop-i.i in
    let next : length parts - c.loop-i.i ≡ k + 1 = omega arith in
    let grown = subst (λ n. Grown (covers (drop n parts)) store.kept.items store.map now.kept.items now.area now.map) next c.loop-i.invariant in
    IsFresh-drop parts c.args.from k _ store.kept.items store.map now.kept.items now.area now.map c.requires.disjoint (omega arith) (omega arith) c.requires.fresh grown

pub loop-i-preserved : goal.loop-i-preserved
loop-i-preserved c =
    let store = c.args.store.now in
    let now = c.loop-i.store in
    let new = c.place.new.store in
    let parts = c.args.parts.now in
    let zeros = rect_of (pos 0) (pos 0) 0 0 in
    let k = length parts - 1 - c.loop-i.i in
    let next : length parts - c.loop-i.i ≡ k + 1 = omega arith in
    let here : length parts - (c.loop-i.i + 1) ≡ k = omega arith in
    let grown = subst (λ n. Grown (covers (drop n parts)) store.kept.items store.map now.kept.items now.area now.map) next c.loop-i.invariant in
    rw here (Grown-then (covers (drop (k + 1) parts)) (in_rect (get_or parts k zeros)) (covers (drop k parts)) store.kept.items store.map now.kept.items now.area now.map new.kept.items new.area new.map grown c.place.ensures
    (λ x y. drop_joined parts k zeros x y (omega arith)))
