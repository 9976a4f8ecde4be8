-- What is proved of what places depend on: a client's on its own rows alone, and a child's on its parent's place and
-- row, and on what the children ask for.
use Rattle.std.specs.Prelude.{◌≡◌, List, Some}
use Rattle.widget_model.specs.Rows.{Row}
use Rattle.widget_model.specs.Named.{own_rows}
use Rattle.widget_model.specs.Keys.{key_of, row_of}
use Rattle.widget_model.specs.Planted.{IsPlanted}
use Rattle.scene_model.specs.declared.axis.Axis.{Axis}
use Rattle.scene_model.specs.Values.{offset_of}
use Rattle.scene_model.specs.Tracks.{needs_of}
use Rattle.scene_model.specs.Least.{least_of}
use Rattle.scene_model.specs.Placing.{parent_row, span_along, place_in}

-- Two lists of rows with the same rows of a client give each row of that client the same least lengths and place.
pub record IsPlacedAlike (a b : List Row) (row : Row) : Type 0 where
  pub leasts : (axis : Axis) → least_of a axis row ≡ least_of b axis row
  pub spans : (axis : Axis) → span_along a axis row ≡ span_along b axis row
  pub places : place_in a row ≡ place_in b row

abbrev pub PlacesDependOnOwnRows : Type 0
PlacesDependOnOwnRows = (a b : List Row) (row : Row) → own_rows row.client a ≡ own_rows row.client b → IsPlacedAlike a b row

-- What a parent gives to the place of a child, in two lists of rows: on each axis the children ask for the same tracks
-- and room there, the child's least length is the same, and so is a Frame's offset.
pub record IsHeldAlike (a b : List Row) (axis : Axis) (parent child : Row) : Type 0 where
  pub needs : needs_of (least_of a axis) axis a parent ≡ needs_of (least_of b axis) axis b parent
  pub least : least_of a axis child ≡ least_of b axis child
  pub offset : offset_of axis a parent ≡ offset_of axis b parent

-- Where a row hangs in one row in both, which has one place in both, it has one place in both.
abbrev pub PlacesComeFromParents : Type 0
PlacesComeFromParents =
    (a b : List Row) (parent child : Row) → IsPlanted a → IsPlanted b
    → row_of a (key_of child) ≡ Some child → row_of b (key_of child) ≡ Some child
    → parent_row a child ≡ Some parent → parent_row b child ≡ Some parent
    → ((axis : Axis) → IsHeldAlike a b axis parent child)
    → place_in a parent ≡ place_in b parent → place_in a child ≡ place_in b child
