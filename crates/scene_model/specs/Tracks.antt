-- The tracks of a Grid: a track is a column, across, or a row, down; both are numbered from 1. A track needs the room
-- that its children and its rule ask for. Those in use are 1 to the last one that has a child or a rule.
use Rattle.std.specs.Prelude.{ℕ, ◌+◌, ◌-◌, ◌*◌, max, min, pos, ◌+ℤ◌, ◌||◌, ◌==◌, nat_lt, List, [], ◌∷◌, map, sum, take, slice_index_or, if◌then◌else◌}
use Rattle.std.specs.List.{filter, range_with_len}
use Rattle.std.specs.Option.{option_map_or}
use Rattle.kind_core.specs.declared.shapes.Cell.{Cell}
use Rattle.grid_layout.specs.Spread.{widths_of}
use Rattle.widget_model.specs.Rows.{Row}
use Rattle.widget_model.specs.Trees.{is_child}
use Rattle.scene_model.specs.declared.axis.Axis.{Axis}
use Rattle.scene_model.specs.declared.axis.Span.{Span}
use Rattle.scene_model.specs.Spans.{along}

-- what a child asks for: a track, and room in it
pub record Need : Type 0 where
  pub track : ℕ
  pub room : ℕ

-- the cell of a widget that hangs in another
abbrev pub cell_of : Row → Cell
cell_of row = option_map_or (λ attached. attached.1) row.attached (record { column = 0; row = 0; pad = 0 })

abbrev pub track_in : Axis → Cell → ℕ
track_in axis cell = along axis cell.column cell.row

-- the children of a widget, in the order of making
abbrev pub children_of : List Row → Row → List Row
children_of rows parent = filter (is_child parent.client parent.name) rows

-- A child asks for its least length and its pad on both ends, in the track of its cell.
abbrev pub need_of : (Row → ℕ) → Axis → Row → Need
need_of least axis child = record { track = track_in axis (cell_of child); room = least child + 2 * (cell_of child).pad }

abbrev pub needs_of : (Row → ℕ) → Axis → List Row → Row → List Need
needs_of least axis rows parent = map (need_of least axis) (children_of rows parent)

abbrev pub greatest : List ℕ → ℕ
greatest [] = 0
greatest (n ∷ ns) = max n (greatest ns)

-- the rules of the tracks, each a size and a weight
abbrev pub rules_of : Axis → Row → List (ℕ × ℕ)
rules_of axis row = along axis row.column_rules row.row_rules

abbrev pub rule_of : List (ℕ × ℕ) → ℕ → ℕ × ℕ
rule_of rules track = slice_index_or rules (track - 1) (0, 0)

-- the most room that a child asks for in this track
abbrev pub asked_in : List Need → ℕ → ℕ
asked_in needs track = greatest (map (λ need. need.room) (filter (λ need. need.track == track) needs))

-- the last track with a child, 0 where there is none
abbrev pub last_asked : List Need → ℕ
last_asked needs = greatest (map (λ need. need.track) needs)

-- the last track with a size or a weight, 0 where there is none; the first of these rules is that of `track`
abbrev pub last_ruled : ℕ → List (ℕ × ℕ) → ℕ
last_ruled track [] = 0
last_ruled track (rule ∷ rules) = max (if nat_lt 0 rule.0 || nat_lt 0 rule.1 then track else 0) (last_ruled (track + 1) rules)

-- how many tracks are in use
unfoldable pub tracks_used : List Need → List (ℕ × ℕ) → ℕ
tracks_used needs rules = max (last_asked needs) (last_ruled 1 rules)

-- the least length of a track: its size, and the most that a child asks for
abbrev pub track_least : List Need → List (ℕ × ℕ) → ℕ → ℕ
track_least needs rules track = max (rule_of rules track).0 (asked_in needs track)

-- the least lengths and the weights of the tracks in use
unfoldable pub track_leasts : List Need → List (ℕ × ℕ) → List ℕ
track_leasts needs rules = map (track_least needs rules) (range_with_len 1 (tracks_used needs rules))

unfoldable pub track_weights : List Need → List (ℕ × ℕ) → List ℕ
track_weights needs rules = map (λ track. (rule_of rules track).1) (range_with_len 1 (tracks_used needs rules))

-- the lengths of the tracks in use, where the Grid has so much room for them
unfoldable pub track_lengths : List Need → List (ℕ × ℕ) → ℕ → List ℕ
track_lengths needs rules room = widths_of (track_leasts needs rules) (track_weights needs rules) room

-- the least length of a Grid: what its tracks need, and at most 4,096
unfoldable pub grid_least : List Need → List (ℕ × ℕ) → ℕ
grid_least needs rules = min (sum (track_leasts needs rules)) 4096

-- the span of a track, where the tracks have these lengths and the first begins where the Grid's span begins
unfoldable pub track_span : List ℕ → Span → ℕ → Span
track_span lengths span track =
    record { from = span.from +ℤ pos (sum (take (track - 1) lengths)); len = slice_index_or lengths (track - 1) 0 }
