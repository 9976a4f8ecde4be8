use Rattle.std.proofs.Common.{◌∙◌, sym}
use Rattle.scene_model.specs.declared.axis.Axis.TheVariants.{Across, Down}
use Rattle.scene_model.specs.Placing.{window_span}
use Rattle.scene_core.specs.Children.{row_for}
use Rattle.scene_core.proofs.Roots.{window-placed}
use Rattle.scene_core.proofs.PlaceSteps.{rect-of-spans}
use Rattle.scene_core.proofs.places.window_place.Goals as goal

pub returns : goal.returns
returns c =
    let row = row_for c.args.tree.now c.args.id.key in
    c.rect_of.ensures
    ∙ rect-of-spans c.window_span-across.result c.window_span-down.result (window_span Across row) (window_span Down row) c.window_span-across.ensures c.window_span-down.ensures
    ∙ sym (window-placed c.args.tree.now c.args.id.key c.requires.valid c.requires.window)
