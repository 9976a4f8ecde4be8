-- What is proved of the sizes of least lengths, tracks and places: all of them stay in the range of rectangles.
use Rattle.std.specs.Prelude.{◌≡◌, ◌≤◌, ℕ, List, Some, All}
use Rattle.geom_core.specs.Rect.{IsNear, IsInRange}
use Rattle.widget_model.specs.Rows.{Row}
use Rattle.widget_model.specs.Keys.{key_of, row_of}
use Rattle.scene_model.specs.declared.axis.Axis.{Axis}
use Rattle.scene_model.specs.declared.axis.Span.{Span}
use Rattle.scene_model.specs.Fit.{AreFit}
use Rattle.scene_model.specs.Least.{least_of}
use Rattle.scene_model.specs.Tracks.{needs_of, rules_of, track_leasts, track_weights, track_lengths}
use Rattle.scene_model.specs.Placing.{span_along, place_in}
use Rattle.scene_model.specs.Scene.{Scene}
use Rattle.scene_model.specs.Showing.{place_of}

-- a widget needs at most 4,096 pixels of an axis
abbrev pub LeastsAreSmall : Type 0
LeastsAreSmall = (rows : List Row) (axis : Axis) (row : Row) → AreFit rows → row_of rows (key_of row) ≡ Some row → least_of rows axis row ≤ 4096

-- A Grid's tracks each need at most 4,128 pixels and weigh at most 1,000, and are no longer than that where the Grid isn't.
pub record AreSmallTracks (rows : List Row) (axis : Axis) (grid : Row) : Type 0 where
  pub leasts : All (λ n. n ≤ 4128) (track_leasts (needs_of (least_of rows axis) axis rows grid) (rules_of axis grid))
  pub weights : All (λ n. n ≤ 1000) (track_weights (needs_of (least_of rows axis) axis rows grid) (rules_of axis grid))
  pub lengths : (room : ℕ) → room ≤ 4128 → All (λ n. n ≤ 4128) (track_lengths (needs_of (least_of rows axis) axis rows grid) (rules_of axis grid) room)

abbrev pub TracksAreSmall : Type 0
TracksAreSmall = (rows : List Row) (axis : Axis) (grid : Row) → AreFit rows → row_of rows (key_of grid) ≡ Some grid → AreSmallTracks rows axis grid

-- a span is at most 4,128 pixels long, and in the range of rectangles
pub record IsSmallSpan (span : Span) : Type 0 where
  pub length : span.len ≤ 4128
  pub near : IsNear span.from span.len

abbrev pub SpansAreSmall : Type 0
SpansAreSmall = (rows : List Row) (axis : Axis) (row : Row) → AreFit rows → row_of rows (key_of row) ≡ Some row → IsSmallSpan (span_along rows axis row)

-- a place is at most 4,128 pixels wide and high, and in the range of rectangles
pub record IsSmallPlace (rows : List Row) (row : Row) : Type 0 where
  pub width : (place_in rows row).w ≤ 4128
  pub height : (place_in rows row).h ≤ 4128
  pub in_range : IsInRange (place_in rows row)

abbrev pub PlacesAreInRange : Type 0
PlacesAreInRange = (rows : List Row) (row : Row) → AreFit rows → row_of rows (key_of row) ≡ Some row → IsSmallPlace rows row

-- and so is that of any key
abbrev pub PlacesOfKeysAreInRange : Type 0
PlacesOfKeysAreInRange = (scene : Scene) (key : ℕ × List ℕ) → AreFit scene.rows → IsInRange (place_of scene key)
