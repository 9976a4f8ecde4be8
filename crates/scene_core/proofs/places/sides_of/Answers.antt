use Rattle.std.proofs.Common.{◌∙◌}
use Rattle.widget_model.specs.Widgets.{rows_of}
use Rattle.scene_model.specs.declared.axis.Axis.TheVariants.{Across, Down}
use Rattle.scene_core.specs.Children.{row_for}
use Rattle.scene_core.proofs.PlaceSteps.{span-of-place}
use Rattle.scene_core.proofs.places.sides_of.Goals as goal

pub side_of-requires-clause-span : goal.side_of-requires-clause-span
side_of-requires-clause-span c = c.span_of-across.ensures ∙ span-of-place (rows_of c.args.tree.now) Across (row_for c.args.tree.now c.args.id.key) c.args.place c.requires.place

pub side_of-requires-2-clause-span : goal.side_of-requires-2-clause-span
side_of-requires-2-clause-span c = c.span_of-down.ensures ∙ span-of-place (rows_of c.args.tree.now) Down (row_for c.args.tree.now c.args.id.key) c.args.place c.requires.place

pub side_of-requires-clause-tracks : goal.side_of-requires-clause-tracks
side_of-requires-clause-tracks c = λ grid. (c.requires.tracks grid).across

pub side_of-requires-2-clause-tracks : goal.side_of-requires-2-clause-tracks
side_of-requires-2-clause-tracks c = λ grid. (c.requires.tracks grid).down
