use Rattle.std.proofs.Common.{length, arith, ap, ◌∙◌}
use Rattle.std.proofs.lemmas.List.{length_push}
use Rattle.redraw_core.proofs.JoinLemmas.{IsFresh-before, AreDisjoint-two, Rearranged-two}
use Rattle.redraw_core.proofs.joining.join_last.Goals as goal

pub rejoin-requires-clause-room : goal.rejoin-requires-clause-room
rejoin-requires-clause-room c =
    let two = ap length c.in-Some.ensures.kept ∙ length_push c.pop.new.store.kept.items c.in-Some.last in
    let one = ap length c.in-Some-pop.ensures.kept ∙ length_push c.pop-2.new.store.kept.items c.in-Some-pop.before in
    omega (arith, two, one, c.len.ensures.value, c.len.ensures.fits)

pub rejoin-requires-clause-clean_too : goal.rejoin-requires-clause-clean_too
rejoin-requires-clause-clean_too c =
    let first = c.pop.new.store in
    let second = c.pop-2.new.store in
    IsFresh-before c.in-Some-pop.before c.in-Some.last first.kept.items second.kept.items first.map second.map c.in-Some.ensures.fresh c.in-Some-pop.ensures.kept c.pop-2.ensures.map

pub rejoin-requires-clause-disjoint : goal.rejoin-requires-clause-disjoint
rejoin-requires-clause-disjoint c =
    let first = c.pop.new.store in
    let second = c.pop-2.new.store in
    AreDisjoint-two c.in-Some-pop.before c.in-Some.last first.kept.items second.kept.items first.map c.in-Some.ensures.piece c.in-Some.ensures.fresh c.in-Some-pop.ensures.kept

pub returns-clause-same : goal.returns-clause-same
returns-clause-same c =
    let store = c.args.store.now in
    let first = c.pop.new.store in
    let second = c.pop-2.new.store in
    let new = c.rejoin.new.store in
    Rearranged-two c.in-Some-pop.before c.in-Some.last store.kept.items first.kept.items second.kept.items store.map second.map new.kept.items new.area new.map
    c.in-Some.ensures.kept c.in-Some-pop.ensures.kept (c.pop-2.ensures.map ∙ c.pop.ensures.map) c.rejoin.ensures.grown
