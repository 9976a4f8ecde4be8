-- An inner word of the proofs: the row of a number, the least size of that row, and the numbers of a widget's children.
use Rattle.std.specs.Prelude.{ℕ, ◌≡◌, ◌≤◌, ◌-◌, false, List, [], ◌∷◌, Some, Option, None}
use Rattle.std.specs.List.{All, Contains}
use Rattle.std.specs.Option.{option_map_or}
use Rattle.kind_core.specs.declared.kinds.Kind.TheVariants.{Variable}
use Rattle.widget_model.specs.Rows.{Row, new_row}
use Rattle.widget_model.specs.Widgets.{Widgets, rows_of, row_at}
use Rattle.widget_model.specs.Relatives.{parent_id}
use Rattle.scene_model.specs.declared.axis.Axis.{Axis}
use Rattle.scene_model.specs.declared.axis.Axis.TheVariants.{Across, Down}
use Rattle.scene_model.specs.Least.{least_of}
use Rattle.scene_model.specs.Tracks.{Need, cell_of, needs_of}
use Rattle.vscreen_core.specs.FilmState.{FilmState}
use Rattle.widget_model.specs.Trees.{ends_within, most_levels}
use Rattle.scene_core.specs.declared.child.Child.{Child}
use Rattle.scene_core.specs.declared.size.Size.{Size}

abbrev pub blank_row : Row
blank_row = new_row 0 [] Variable

-- the row with this number; a number that names no row has a blank one
unfoldable pub row_for : Widgets → ℕ → Row
row_for widgets id = option_map_or (λ row. row) (row_at widgets.entries id) blank_row

-- the least size of a row
abbrev pub size_of : List Row → Row → Size
size_of rows row = record { w = least_of rows Across row; h = least_of rows Down row }

abbrev pub size_for : Widgets → ℕ → Size
size_for widgets id = size_of (rows_of widgets) (row_for widgets id)

-- the numbered widget as a measured child
abbrev pub child_for : Widgets → ℕ → Child
child_for widgets id = record { key = id; cell = cell_of (row_for widgets id); least = size_for widgets id }

-- a list of the one that there is, or an empty one
abbrev pub one_or_none : Option ℕ → List ℕ
one_or_none None = []
one_or_none (Some id) = id ∷ []

-- these are the numbers of the widgets that hang in the numbered one
pub record AreChildren (widgets : Widgets) (id : ℕ) (keys : List ℕ) : Type 0 where
  pub each : All (λ kid. parent_id widgets kid ≡ Some id) keys
  pub all : (kid : ℕ) → parent_id widgets kid ≡ Some id → Contains keys kid

-- what the children of the numbered widget ask for along the axis
abbrev pub needs_for : Axis → Widgets → ℕ → List Need
needs_for axis widgets id = needs_of (least_of (rows_of widgets) axis) axis (rows_of widgets) (row_for widgets id)

-- the size of a film, 16 by 16 where there is none
abbrev pub film_size : Option FilmState → ℕ × ℕ
film_size film = option_map_or (λ film. (film.width, film.height)) film (16, 16)

-- so many levels are enough to go down from the numbered widget: it is so deep that no tree has more below it
pub record IsDeep (widgets : Widgets) (most id : ℕ) : Type 0 where
  pub upper : ends_within (most_levels - most) (rows_of widgets) (row_for widgets id).client (row_for widgets id).name ≡ false
  pub within : most ≤ most_levels
