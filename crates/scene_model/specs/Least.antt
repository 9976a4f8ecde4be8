-- The least size of a widget: what it needs to show all that it has.
use Rattle.std.specs.Prelude.{ℕ, zero, suc, ◌+◌, ◌*◌, Bool, true, false, List, length, if◌then◌else◌}
use Rattle.std.specs.Option.{option_map_or}
use Rattle.kind_core.specs.declared.kinds.Kind.{Kind}
use Rattle.kind_core.specs.declared.kinds.Kind.TheVariants.{Window, Grid, Frame, Button, Label, Entry, Scale, Scrollbar, Variable, VScreen}
use Rattle.kind_core.specs.declared.kinds.Attr.TheVariants.{W, H, Text, Cols}
use Rattle.widget_model.specs.Rows.{Row}
use Rattle.widget_model.specs.Trees.{most_levels}
use Rattle.scene_model.specs.declared.axis.Axis.{Axis}
use Rattle.scene_model.specs.Spans.{along}
use Rattle.scene_model.specs.Values.{count_of, text_of, label_of, is_vertical}
use Rattle.scene_model.specs.Tracks.{needs_of, rules_of, grid_least}

-- A Scale or Scrollbar is 64 by 12, or 12 by 64.
abbrev pub bar_size : Bool → ℕ × ℕ
bar_size true = (12, 64)
bar_size false = (64, 12)

-- The width and height that a widget of this kind needs by itself. A byte of text is 6 pixels wide. A Grid needs what
-- its tracks need, and a Variable is never shown.
abbrev pub own_size : Kind → List Row → Row → ℕ × ℕ
own_size Label rows row = (6 * length (label_of rows row) + 4, 12)
own_size Button rows row = (6 * length (text_of Text row) + 8, 16)
own_size Entry rows row = (6 * count_of Cols row + 4, 12)
own_size Scale rows row = bar_size (is_vertical row)
own_size Scrollbar rows row = bar_size (is_vertical row)
own_size VScreen rows row = option_map_or (λ film. (film.width, film.height)) row.film (16, 16)
own_size Frame rows row = (16, 16)
own_size Window rows row = (count_of W row, count_of H row)
own_size Grid rows row = (0, 0)
own_size Variable rows row = (0, 0)

abbrev pub is_grid : Kind → Bool
is_grid Grid = true
is_grid _ = false

-- the least length of a widget along the axis, from those of its children
unfoldable pub least_by : (Row → ℕ) → Axis → List Row → Row → ℕ
least_by least axis rows row =
    if is_grid row.kind
    then grid_least (needs_of least axis rows row) (rules_of axis row)
    else along axis (own_size row.kind rows row).0 (own_size row.kind rows row).1

-- The same, going down so many levels at the most.
abbrev pub least_in : ℕ → List Row → Axis → Row → ℕ
least_in zero rows axis row = 0
least_in (suc most) rows axis row = least_by (least_in most rows axis) axis rows row

-- the least length of a widget: its width across, its height down
unfoldable pub least_of : List Row → Axis → Row → ℕ
least_of rows axis row = least_in most_levels rows axis row
