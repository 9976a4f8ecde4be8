use Rattle.std.proofs.Common.{◌++◌, ◌∷◌, [], arith, ◌+◌}
use Rattle.geom_core.specs.Rect.{area_of}
use Rattle.geom_core.proofs.PieceLemmas.{total_area-append}
use Rattle.redraw_core.proofs.StoreLemmas.{IsKept-push, total_area-fits}
use Rattle.redraw_core.proofs.keeping.push.Goals as goal

pub overflow_cast-store : goal.overflow_cast-store
overflow_cast-store c =
    let store = c.args.store.now in
    let is = IsKept-push store.kept.items store.area store.map c.args.rect c.requires.valid c.requires.piece c.requires.fresh in
    omega (arith, c.area.ensures, total_area-fits (store.kept.items ++ c.args.rect ∷ []) (store.area + area_of c.args.rect) store.map is, total_area-append store.kept.items (c.args.rect ∷ []))

pub overflow_add-store : goal.overflow_add-store
overflow_add-store c =
    let store = c.args.store.now in
    let is = IsKept-push store.kept.items store.area store.map c.args.rect c.requires.valid c.requires.piece c.requires.fresh in
    omega (arith, c.area.ensures, c.requires.valid.sum, total_area-fits (store.kept.items ++ c.args.rect ∷ []) (store.area + area_of c.args.rect) store.map is, total_area-append store.kept.items (c.args.rect ∷ []))

pub returns-clause-valid : goal.returns-clause-valid
returns-clause-valid c =
    let store = c.args.store.now in
    rw (c.push.ensures.items, c.area.ensures) (IsKept-push store.kept.items store.area store.map c.args.rect c.requires.valid c.requires.piece c.requires.fresh)
