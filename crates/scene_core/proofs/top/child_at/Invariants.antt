use Rattle.std.proofs.Common.{◌≡◌, ℕ, ◌<◌, get_or, false}
use Rattle.geom_core.specs.Rect.{in_rect}
use Rattle.widget_model.specs.Widgets.{rows_of}
use Rattle.scene_model.specs.Placing.{place_in}
use Rattle.scene_core.specs.Children.{row_for}
use Rattle.scene_core.proofs.top.child_at.Given as goal

abbrev pub invariant-loop-key : goal.invariant-loop-key
invariant-loop-key l = (k : ℕ) → k < l.key-index → in_rect (place_in (rows_of l.view.tree.now) (row_for l.view.tree.now (get_or l.key-items k 0))) l.x l.y ≡ false
