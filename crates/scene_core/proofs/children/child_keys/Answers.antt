use Rattle.std.proofs.Common.{◌≡◌, ◌∙◌, ◌+◌, ◌++◌, List, ℕ, sym, ap, arith, subst}
use Rattle.scene_core.specs.Children.{one_or_none}
use Rattle.scene_core.proofs.ChildNumbers.{AreFound, found_none, found_more, found_all}
use Rattle.scene_core.proofs.children.child_keys.Goals as goal

pub loop-index-init : goal.loop-index-init
loop-index-init c = rw c.new-keys.ensures (found_none c.args.tree.now c.args.id.key)

pub loop-index-preserved : goal.loop-index-preserved
loop-index-preserved c =
    let more = found_more c.args.tree.now c.args.id.key c.loop-index.index c.loop-index.keys.items c.child_at.ensures.valid c.loop-index.invariant in
    let P : List ℕ → Type 0 = λ keys. AreFound c.args.tree.now c.args.id.key (c.loop-index.index + 1) keys in
    subst P (ap (λ o. c.loop-index.keys.items ++ one_or_none o) (sym c.child_at.ensures.found) ∙ sym c.push_key.ensures) more

pub returns-clause-children : goal.returns-clause-children
returns-clause-children c =
    let P : ℕ → Type 0 = λ n. AreFound c.args.tree.now c.args.id.key n c.loop-index.keys.items in
    let end : c.loop-index.index ≡ c.cells_of-index-end.result = omega arith in
    found_all c.args.tree.now c.args.id.key c.kind.result c.loop-index.keys.items c.kind.ensures.valid c.kind.ensures.kind
    (subst P (end ∙ c.cells_of-index-end.ensures.count) c.loop-index.invariant)

pub returns-clause-few : goal.returns-clause-few
returns-clause-few c = omega (arith, c.loop-index.invariant.few, c.cells_of-index-end.ensures.within)
