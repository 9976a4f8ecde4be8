use Rattle.std.proofs.Common.{◌∙◌}
use Rattle.widget_model.specs.Widgets.{rows_of}
use Rattle.scene_core.specs.Children.{row_for}
use Rattle.scene_core.proofs.PlaceSteps.{place-of-spans}
use Rattle.scene_core.proofs.places.child_place.Goals as goal

pub returns : goal.returns
returns c =
    c.rect_of.ensures
    ∙ place-of-spans (rows_of c.args.tree.now) (row_for c.args.tree.now c.args.child.now.key) c.child_span-across.result c.child_span-down.result c.child_span-across.ensures c.child_span-down.ensures
