-- How widgets hang in one another. A row's attached names its parent, of the same client, and the cell in it. Where
-- a definition goes up or down, `most` is how many levels it goes at the most; no tree has more than 12.
use Rattle.std.specs.Prelude.{ℕ, zero, suc, ◌+◌, max, Bool, true, false, ◌&&◌, ◌||◌, not, nat_eq, nat_lt, List, [], ◌∷◌, Option, if◌then◌else◌}
use Rattle.std.specs.List.{find, list_any}
use Rattle.std.specs.Option.{option_map, option_map_or, option_and_then}
use Rattle.std.specs.Str.{bytes_eq}
use Rattle.kind_core.specs.declared.kinds.Kind.{Kind}
use Rattle.kind_core.specs.declared.kinds.Kind.TheVariants.{Window, Grid, Frame, Variable}
use Rattle.widget_model.specs.Rows.{Row}
use Rattle.widget_model.specs.Named.{row_named}

-- Windows, Grids and Frames have children.
abbrev pub has_children : Kind → Bool
has_children Window = true
has_children Grid = true
has_children Frame = true
has_children _ = false

-- A Window stands for itself, and a Variable isn't shown; every other kind can be a child.
abbrev pub can_be_child : Kind → Bool
can_be_child Window = false
can_be_child Variable = false
can_be_child _ = true

-- whether the row hangs in another
abbrev pub hangs : Row → Bool
hangs row = option_map_or (λ attached. true) row.attached false

-- the name of the widget's parent
abbrev pub parent_of : List Row → ℕ → List ℕ → Option (List ℕ)
parent_of rows client name = option_and_then (λ row. option_map (λ attached. attached.0) row.attached) (row_named rows client name)

-- whether the row is a child of the named widget
abbrev pub is_child : ℕ → List ℕ → Row → Bool
is_child client name row = nat_eq client row.client && option_map_or (λ attached. bytes_eq name attached.0) row.attached false

-- whether the row is the child in that column and row of the named widget
abbrev pub stands_at : ℕ → List ℕ → ℕ → ℕ → Row → Bool
stands_at client name column line row =
    nat_eq client row.client && option_map_or (λ attached. bytes_eq name attached.0 && (nat_eq column attached.1.column && nat_eq line attached.1.row)) row.attached false

-- the child in that column and row
abbrev pub child_in : List Row → ℕ → List ℕ → ℕ → ℕ → Option Row
child_in rows client name column line = find (stands_at client name column line) rows

-- The depth counts from 1 at a widget without a parent.
abbrev pub depth_in : ℕ → List Row → ℕ → List ℕ → ℕ
depth_in zero rows client name = 0
depth_in (suc most) rows client name = 1 + option_map_or (depth_in most rows client) (parent_of rows client name) 0

-- whether `upper` is the named widget, its parent, the parent of that, and so on
abbrev pub is_above_in : ℕ → List Row → ℕ → List ℕ → List ℕ → Bool
is_above_in zero rows client upper name = false
is_above_in (suc most) rows client upper name = bytes_eq upper name || option_map_or (is_above_in most rows client upper) (parent_of rows client name) false

-- the greatest number that `measure` gives a child of the named widget, 0 where it has none
abbrev pub greatest_child : (List ℕ → ℕ) → ℕ → List ℕ → List Row → ℕ
greatest_child measure client name [] = 0
greatest_child measure client name (row ∷ rows) = max (if is_child client name row then measure row.name else 0) (greatest_child measure client name rows)

-- The height counts from 1 at a widget without children.
abbrev pub height_in : ℕ → List Row → ℕ → List ℕ → ℕ
height_in zero rows client name = 0
height_in (suc most) rows client name = 1 + greatest_child (height_in most rows client) client name rows

-- the widget without a parent that is above the named one, or itself
abbrev pub root_in : ℕ → List Row → ℕ → List ℕ → List ℕ
root_in zero rows client name = name
root_in (suc most) rows client name = option_map_or (root_in most rows client) (parent_of rows client name) name

-- whether going up from the named widget ends after so many levels at the most
abbrev pub ends_within : ℕ → List Row → ℕ → List ℕ → Bool
ends_within zero rows client name = false
ends_within (suc most) rows client name = option_map_or (ends_within most rows client) (parent_of rows client name) true

-- a tree has at most 12 levels
unfoldable pub most_levels : ℕ
most_levels = 12

abbrev pub depth_of : List Row → ℕ → List ℕ → ℕ
depth_of rows client name = depth_in most_levels rows client name

abbrev pub is_above : List Row → ℕ → List ℕ → List ℕ → Bool
is_above rows client upper name = is_above_in most_levels rows client upper name

abbrev pub height_of : List Row → ℕ → List ℕ → ℕ
height_of rows client name = height_in most_levels rows client name

abbrev pub root_of : List Row → ℕ → List ℕ → List ℕ
root_of rows client name = root_in most_levels rows client name

-- whether another row than the named one is linked to it
abbrev pub links_to : ℕ → List ℕ → Row → Bool
links_to client name row = nat_eq client row.client && (option_map_or (bytes_eq name) row.link false && not (bytes_eq name row.name))

-- whether the row has a film with a period: a VScreen that is admitted
abbrev pub is_admitted : Row → Bool
is_admitted row = option_map_or (λ film. nat_lt 0 film.period) row.film false

-- whether the row hangs in another, or has a child, or is linked by another, or is admitted
abbrev pub is_used : List Row → Row → Bool
is_used rows row =
    hangs row || (list_any (is_child row.client row.name) rows || (list_any (links_to row.client row.name) rows || is_admitted row))
