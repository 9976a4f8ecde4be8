use Rattle.scene_core.proofs.ChildNumbers.{AreFound}
use Rattle.scene_core.proofs.children.child_keys.Given as goal

abbrev pub invariant-loop-index : goal.invariant-loop-index
invariant-loop-index l = AreFound l.tree l.id.key l.index l.keys.items
