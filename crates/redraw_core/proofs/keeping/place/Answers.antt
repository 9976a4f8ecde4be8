use Rattle.redraw_core.proofs.GrownLemmas.{IsPiece-enclosed, Grown-push, Grown-mark}
use Rattle.redraw_core.proofs.keeping.place.Goals as goal

pub mark-requires : goal.mark-requires
mark-requires c = IsPiece-enclosed c.args.rect c.args.store.now.map c.requires.piece

pub returns-then-is_full : goal.returns-then-is_full
returns-then-is_full c =
    let store = c.args.store.now in
    Grown-mark store.kept.items store.area store.map c.mark.new.self c.args.rect c.requires.valid c.requires.fresh c.mark.ensures.valid c.mark.ensures.width c.mark.ensures.height c.mark.ensures.pixels

pub returns-else-is_full : goal.returns-else-is_full
returns-else-is_full c =
    let store = c.args.store.now in
    let new = c.push.new.store in
    Grown-push store.kept.items store.map new.kept.items new.area new.map c.args.rect c.push.ensures.valid c.push.ensures.kept c.push.ensures.map
