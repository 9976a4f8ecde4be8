use Rattle.std.proofs.Common.{arith}
use Rattle.redraw_core.proofs.JoinLemmas.{area-popped, IsKept-popped, IsPiece-popped, IsFresh-popped}
use Rattle.redraw_core.proofs.keeping.pop.Goals as goal

pub overflow_cast-store : goal.overflow_cast-store
overflow_cast-store c =
    let store = c.args.store.now in
    omega (arith, c.area.ensures, (area-popped store.kept.items c.pop.new.self.items store.area store.map c.in_ok-rect.rect c.requires c.in_ok-rect.ensures.items).1)

pub overflow_sub-store : goal.overflow_sub-store
overflow_sub-store c =
    let store = c.args.store.now in
    omega (arith, c.area.ensures, (area-popped store.kept.items c.pop.new.self.items store.area store.map c.in_ok-rect.rect c.requires c.in_ok-rect.ensures.items).0)

pub returns-clause-valid : goal.returns-clause-valid
returns-clause-valid c =
    let store = c.args.store.now in
    rw c.area.ensures (IsKept-popped store.kept.items c.pop.new.self.items store.area store.map c.in_ok-rect.rect c.requires c.in_ok-rect.ensures.items)

pub returns-clause-piece : goal.returns-clause-piece
returns-clause-piece c =
    let store = c.args.store.now in
    IsPiece-popped store.kept.items c.pop.new.self.items store.area store.map c.in_ok-rect.rect c.requires c.in_ok-rect.ensures.items

pub returns-clause-fresh : goal.returns-clause-fresh
returns-clause-fresh c =
    let store = c.args.store.now in
    IsFresh-popped store.kept.items c.pop.new.self.items store.area store.map c.in_ok-rect.rect c.requires c.in_ok-rect.ensures.items
