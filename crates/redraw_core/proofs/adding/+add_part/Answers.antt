use Rattle.std.proofs.Common.{◌+◌, ◌<◌, ◌≤◌, ℤ, pos, not, ◌&&◌, List, length, take, get_or, ap, ◌∙◌, arith}
use Rattle.std.proofs.lemmas.List.{length-take, take_all}
use Rattle.geom_core.specs.declared.rectangle.Rect.{Rect}
use Rattle.geom_core.specs.Rect.{in_rect}
use Rattle.geom_core.specs.Pieces.{covers, HavePixels}
use Rattle.geom_core.specs.Count.{screen_of}
use Rattle.geom_core.proofs.RectLemmas.{IsInRange-from_enclosed, IsInRange-screen, rect_of}
use Rattle.geom_core.proofs.PieceLemmas.{covers-take_more, covers-at}
use Rattle.redraw_core.proofs.GrownLemmas.{IsPiece-enclosed, IsPiece-same, IsPiece-at, IsApart-at, Grown-none, Grown-then, Grown-covered}
use Rattle.redraw_core.proofs.adding.+add_part.Goals as goal

pub cut-pieces-requires : goal.cut-pieces-requires
cut-pieces-requires t c =
    let map = c.args.store.now.map in
    let valid = c.requires.valid.valid in
    IsInRange-from_enclosed c.args.part (screen_of map.width map.height) (IsPiece-enclosed c.args.part map c.requires.piece) (IsInRange-screen map.width map.height valid.greatest_width valid.greatest_height)

pub loop-piece-init : goal.loop-piece-init
loop-piece-init t c =
    let store = c.args.store.now in
    Grown-none store.kept.items store.area store.map c.requires.valid

pub add_part-requires : goal.add_part-requires
add_part-requires t c =
    let store = c.args.store.now in
    let now = c.loop-piece.store in
    let kept = store.kept.items in
    let at = c.first_meeting-at.result in
    let zeros = rect_of (pos 0) (pos 0) 0 0 in
    let pieces = c.as_slice-piece-items.result.now in
    let i = c.loop-piece.piece-index in
    let in_pieces : i < length pieces = omega arith in
    let in_kept : at < length kept = omega (arith, c.first_meeting-at.ensures.within, ap length c.deref.ensures.0) in
    let outside = λ (x y : ℤ). ap (λ (rs : List Rect). covers rs x y) c.as_slice-piece-items.ensures.value ∙ c.cut-pieces.ensures.pixels x y ∙ ap (λ (ks : List Rect). in_rect c.args.part x y && not (in_rect (get_or ks at zeros) x y)) c.deref-2.ensures.0 in
    let filled : HavePixels pieces = rw c.as_slice-piece-items.ensures.value c.cut-pieces.ensures.filled in
    let room : length kept ≤ 256 = omega (arith, c.len.ensures.value, c.len.ensures.fits) in
    let longer : length kept ≤ length now.kept.items = omega (arith, ap length c.loop-piece.invariant.keeps, length-take (length kept) now.kept.items) in (
      omega (arith, c.decreases),
      (
        c.loop-piece.invariant.is,
        (
          IsPiece-same (get_or pieces i zeros) store.map now.map c.loop-piece.invariant.width c.loop-piece.invariant.height (IsPiece-at pieces i zeros c.args.part (get_or kept at zeros) store.map filled in_pieces outside c.requires.piece),
          (
            omega arith,
            IsApart-at pieces i zeros c.args.part kept now.kept.items at zeros in_pieces in_kept (rw (← c.deref.ensures.0) c.first_meeting-at.ensures.apart) outside c.loop-piece.invariant.keeps,
          ),
        ),
      ),
    )

pub loop-piece-preserved : goal.loop-piece-preserved
loop-piece-preserved t c =
    let store = c.args.store.now in
    let now = c.loop-piece.store in
    let new = c.add_part.new.store in
    let zeros = rect_of (pos 0) (pos 0) 0 0 in
    let pieces = c.as_slice-piece-items.result.now in
    let i = c.loop-piece.piece-index in
    Grown-then (covers (take i pieces)) (in_rect (get_or pieces i zeros)) (covers (take (i + 1) pieces)) store.kept.items store.map now.kept.items now.area now.map new.kept.items new.area new.map c.loop-piece.invariant c.add_part.ensures
    (λ x y. covers-take_more pieces i zeros x y (omega arith))

pub returns : goal.returns
returns t c =
    let store = c.args.store.now in
    let now = c.loop-piece.store in
    let kept = store.kept.items in
    let at = c.first_meeting-at.result in
    let zeros = rect_of (pos 0) (pos 0) 0 0 in
    let pieces = c.as_slice-piece-items.result.now in
    let i = c.loop-piece.piece-index in
    let in_kept : at < length kept = omega (arith, c.first_meeting-at.ensures.within, ap length c.deref.ensures.0) in
    let outside = λ (x y : ℤ). ap (λ (rs : List Rect). covers rs x y) c.as_slice-piece-items.ensures.value ∙ c.cut-pieces.ensures.pixels x y ∙ ap (λ (ks : List Rect). in_rect c.args.part x y && not (in_rect (get_or ks at zeros) x y)) c.deref-2.ensures.0 in
    let all = take_all i pieces (omega arith) in
    Grown-covered (covers (take i pieces)) c.args.part (get_or kept at zeros) kept store.map now.kept.items now.area now.map c.loop-piece.invariant
    (λ x y. ap (λ (rs : List Rect). covers rs x y) all ∙ outside x y) (λ x y. covers-at kept at zeros x y in_kept)
