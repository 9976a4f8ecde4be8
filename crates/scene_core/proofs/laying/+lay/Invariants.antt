use Rattle.std.proofs.Common.{◌≡◌, ◌-◌, ◌<◌, ℕ, Some, slice_get}
use Rattle.widget_model.specs.Widgets.{place_at}
use Rattle.scene_core.specs.Known.{AreKnown}
use Rattle.scene_core.specs.Laid.{due, IsBelow, AreReplaced}
use Rattle.scene_core.proofs.laying.+lay.Given as goal

abbrev pub decreases-lay : goal.decreases-lay
decreases-lay l = l.most

abbrev pub invariant-loop-key : goal.invariant-loop-key
invariant-loop-key l = record {
  replaced : AreReplaced l.fn.tree l.id.key l.tree;
  own : place_at l.tree l.id.key ≡ due l.fn.tree l.id.key;
  known : AreKnown l.fn.tree l.known;
  under : (i : ℕ) (kid : ℕ) → i < l.key-index → slice_get l.key-items i ≡ Some kid → (other : ℕ) → IsBelow (l.most - 1) l.fn.tree kid other → place_at l.tree other ≡ due l.fn.tree other;
}
