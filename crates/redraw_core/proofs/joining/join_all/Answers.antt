use Rattle.redraw_core.proofs.JoinLemmas.{Rearranged-none, Rearranged-then}
use Rattle.redraw_core.proofs.joining.join_all.Goals as goal

pub loop-init : goal.loop-init
loop-init c =
    let store = c.args.store.now in
    Rearranged-none store.kept.items store.area store.map c.requires

pub loop-preserved : goal.loop-preserved
loop-preserved c =
    let store = c.args.store.now in
    let now = c.loop.store in
    let new = c.join_last.new.store in
    Rearranged-then store.kept.items store.map now.kept.items now.area now.map new.kept.items new.area new.map c.loop.invariant c.join_last.ensures.same

pub returns : goal.returns
returns c =
    let store = c.args.store.now in
    let now = c.loop.store in
    let new = c.join_last.new.store in
    Rearranged-then store.kept.items store.map now.kept.items now.area now.map new.kept.items new.area new.map c.loop.invariant c.join_last.ensures.same
