-- An inner word of the proofs: one axis of a widget that has children.
use Rattle.std.specs.Prelude.{ℕ, ◌≡◌, ◌≤◌, take}
use Rattle.kind_core.specs.declared.kinds.Kind.TheVariants.{Grid, Frame}
use Rattle.widget_model.specs.Widgets.{Widgets, rows_of}
use Rattle.scene_model.specs.declared.axis.Axis.{Axis}
use Rattle.scene_model.specs.Placing.{span_along}
use Rattle.scene_model.specs.Tracks.{rules_of, tracks_used, track_lengths}
use Rattle.scene_model.specs.Values.{offset_of}
use Rattle.scene_core.specs.Children.{row_for, needs_for}
use Rattle.scene_core.specs.declared.sides.Side.{Side}

-- the tracks of a Grid that has this side
pub record HasTracks (axis : Axis) (widgets : Widgets) (id : ℕ) (side : Side) : Type 0 where
  pub few : side.used ≤ 16
  pub used : side.used ≡ tracks_used (needs_for axis widgets id) (rules_of axis (row_for widgets id))
  pub lengths : take side.used side.lengths ≡ track_lengths (needs_for axis widgets id) (rules_of axis (row_for widgets id)) side.span.len

pub record IsSide (axis : Axis) (widgets : Widgets) (id : ℕ) (side : Side) : Type 0 where
  pub kind : side.kind ≡ (row_for widgets id).kind
  pub span : side.span ≡ span_along (rows_of widgets) axis (row_for widgets id)
  pub offset : (row_for widgets id).kind ≡ Frame → side.offset ≡ offset_of axis (rows_of widgets) (row_for widgets id)
  pub tracks : (row_for widgets id).kind ≡ Grid → HasTracks axis widgets id side
