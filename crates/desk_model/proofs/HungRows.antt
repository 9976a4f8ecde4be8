-- Changes of a row that leave its key and what it hangs in, and so all rows where they hang.
use Rattle.std.proofs.Common.{◌≡◌, ℕ, ℤ, Bool, true, false, cond, List, [], ◌∷◌, map, Option, refl, ap, ap₂}
use Rattle.kind_core.specs.declared.kinds.Attr.{Attr}
use Rattle.kind_core.specs.declared.values.Value as value
use Rattle.cmd_words.specs.declared.commands.ConfigOption.{ConfigOption}
use Rattle.scene_model.specs.declared.axis.Axis.{Axis}
use Rattle.scene_model.specs.declared.axis.Axis.TheVariants.{Across, Down}
use Rattle.widget_model.specs.Rows.{Row, with_attr}
use Rattle.widget_model.specs.Named.{has_name, with_named}
use Rattle.widget_model.proofs.Hanging.{LeavesNames}
use Rattle.desk_model.specs.AttrOptions.{with_attrs}
use Rattle.desk_model.specs.Tracks.{with_track}
use Rattle.desk_model.specs.InPlace.{hung_of}

abbrev pub LeavesHung : (Row → Row) → Type 0
LeavesHung change = (row : Row) → hung_of (change row) ≡ hung_of row

pub LeavesNames-hung : (change : Row → Row) → LeavesHung change → LeavesNames change
LeavesNames-hung change leaves =
    record {
      client = λ row. ap (λ (hung : (ℕ × List ℕ) × Option (List ℕ)). hung.0.0) (leaves row);
      name = λ row. ap (λ (hung : (ℕ × List ℕ) × Option (List ℕ)). hung.0.1) (leaves row);
    }

pub LeavesHung-attrs : (options : List (Attr × value.Value)) → LeavesHung (with_attrs options)
LeavesHung-attrs [] row = refl
LeavesHung-attrs (option ∷ options) row = LeavesHung-attrs options (with_attr option.0 option.1 row)

pub LeavesHung-track : (axis : Axis) (index : ℕ) (options : List (ConfigOption × ℤ)) → LeavesHung (with_track axis index options)
LeavesHung-track Across index options row = refl
LeavesHung-track Down index options row = refl

pub hung-map : (change : Row → Row) (rows : List Row) → LeavesHung change → map hung_of (map change rows) ≡ map hung_of rows
hung-map change [] leaves = refl
hung-map change (row ∷ rows) leaves = ap₂ (λ hung others. hung ∷ others) (leaves row) (hung-map change rows leaves)

-- a change of the named row alone
pub hung-named : (client : ℕ) (name : List ℕ) (change : Row → Row) (rows : List Row) → LeavesHung change → map hung_of (with_named client name change rows) ≡ map hung_of rows
hung-named client name change rows leaves = hung-map (λ row. cond (has_name client name row) (change row) row) rows (λ row. by row (has_name client name row))
  where
    by : (row : Row) (named : Bool) → hung_of (cond named (change row) row) ≡ hung_of row
    by row true = leaves row
    by row false = refl
