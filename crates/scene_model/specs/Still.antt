-- Inner words of the proofs: changes of rows that move nothing. Each row keeps its name, kind and cell, what it needs by
-- itself, the rules of its tracks, for a Frame its offset, and for a Window its own span. Then each widget keeps its place.
use Rattle.std.specs.Prelude.{◌≡◌, ℕ, List, Some, map, slice_get}
use Rattle.kind_core.specs.declared.kinds.Kind.TheVariants.{Frame}
use Rattle.widget_model.specs.Rows.{Row}
use Rattle.scene_model.specs.declared.axis.Axis.{Axis}
use Rattle.scene_model.specs.Values.{offset_of}
use Rattle.scene_model.specs.Tracks.{rules_of}
use Rattle.scene_model.specs.Least.{own_size}
use Rattle.scene_model.specs.Placing.{window_span, place_in}

-- what layout asks of one row is the same of the row as it is changed
pub record AsksTheSame (before after : List Row) (row changed : Row) : Type 0 where
  pub size : own_size row.kind after changed ≡ own_size row.kind before row
  pub rules : (axis : Axis) → rules_of axis changed ≡ rules_of axis row
  pub offset : (axis : Axis) → row.kind ≡ Frame → offset_of axis after changed ≡ offset_of axis before row
  pub span : (axis : Axis) → window_span axis changed ≡ window_span axis row

pub record MovesNothing (change : Row → Row) (rows : List Row) : Type 0 where
  pub client : (row : Row) → (change row).client ≡ row.client
  pub name : (row : Row) → (change row).name ≡ row.name
  pub kind : (row : Row) → (change row).kind ≡ row.kind
  pub attached : (row : Row) → (change row).attached ≡ row.attached
  pub asks : (i : ℕ) (row : Row) → slice_get rows i ≡ Some row → AsksTheSame rows (map change rows) row (change row)

abbrev pub StillPlaces : Type 0
StillPlaces =
    (change : Row → Row) (rows : List Row) → MovesNothing change rows → (i : ℕ) (row : Row) → slice_get rows i ≡ Some row
    → place_in (map change rows) (change row) ≡ place_in rows row
