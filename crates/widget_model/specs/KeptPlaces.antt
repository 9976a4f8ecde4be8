-- The places that are kept of the widgets: a slot for each of the numbers, 0 to 2,047, has the place of the widget with
-- that number, or none.
use Rattle.std.specs.Prelude.{ℕ, zero, suc, ◌+◌, List, replicate, slice_index_or, slice_set, Option, None}
use Rattle.geom_core.specs.declared.rectangle.Rect.{Rect}
use Rattle.widget_model.specs.Nodes.{first_number}

unfoldable pub most_numbers : ℕ
most_numbers = 2048

abbrev pub no_places : List (Option Rect)
no_places = replicate most_numbers None

-- the place in the slot of the number
abbrev pub place_in : List (Option Rect) → ℕ → Option Rect
place_in places id = slice_index_or places id None

-- the places with that one in the slot of the number
abbrev pub placed : ℕ → Option Rect → List (Option Rect) → List (Option Rect)
placed id place places = slice_set places id place

-- the places with so many slots emptied, from the first one on
abbrev pub emptied : ℕ → ℕ → List (Option Rect) → List (Option Rect)
emptied zero first places = places
emptied (suc count) first places = slice_set (emptied count first places) (first + count) None

-- the places without those of the client's 128 numbers
unfoldable pub unplaced : ℕ → List (Option Rect) → List (Option Rect)
unplaced client places = emptied 128 (first_number client) places
