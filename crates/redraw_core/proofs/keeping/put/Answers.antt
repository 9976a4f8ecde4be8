use Rattle.redraw_core.proofs.GrownLemmas.{IsPiece-enclosed, IsPiece-same, IsKept-erase, IsFresh-erase, Grown-erase}
use Rattle.redraw_core.proofs.keeping.put.Goals as goal

pub erase-requires : goal.erase-requires
erase-requires c = IsPiece-enclosed c.args.rect c.args.store.now.map c.requires.piece

pub place-requires-clause-valid : goal.place-requires-clause-valid
place-requires-clause-valid c =
    let store = c.args.store.now in
    IsKept-erase store.kept.items store.area store.map c.erase.new.self c.args.rect c.requires.valid c.erase.ensures.valid c.erase.ensures.width c.erase.ensures.height c.erase.ensures.pixels

pub place-requires-clause-piece : goal.place-requires-clause-piece
place-requires-clause-piece c = IsPiece-same c.args.rect c.args.store.now.map c.erase.new.self c.erase.ensures.width c.erase.ensures.height c.requires.piece

pub place-requires-clause-fresh : goal.place-requires-clause-fresh
place-requires-clause-fresh c =
    let store = c.args.store.now in
    IsFresh-erase store.kept.items store.map c.erase.new.self c.args.rect c.requires.apart c.erase.ensures.width c.erase.ensures.height c.erase.ensures.pixels

pub returns : goal.returns
returns c =
    let store = c.args.store.now in
    let new = c.place.new.store in
    Grown-erase store.kept.items store.map c.erase.new.self c.args.rect new.kept.items new.area new.map c.erase.ensures.width c.erase.ensures.height c.erase.ensures.pixels c.place.ensures
