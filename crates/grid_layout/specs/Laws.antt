-- The shares of what is left add up to it, and the widths fill the room.
use Rattle.std.specs.Prelude.{◌≡◌, ℕ, ◌+◌, ◌<◌, ◌≤◌, max, List, sum, take, length, slice_index}
use Rattle.grid_layout.specs.Spread.{left_over, part_before, shares_of, width_of, widths_of}

-- where there is a column, the shares add up to what is left
abbrev pub SharesAddUp : Type 0
SharesAddUp = (weights : List ℕ) (extra : ℕ) → 0 < length weights → sum (shares_of weights extra) ≡ extra

-- where there is a column, the widths fill the room, or take what the least widths need
abbrev pub WidthsFillTheRoom : Type 0
WidthsFillTheRoom = (least weights : List ℕ) (room : ℕ) → length weights ≡ length least → 0 < length least
    → sum (widths_of least weights room) ≡ max room (sum least)

-- where a column has a weight, the first columns have their least widths and their part of what is left
abbrev pub FirstWidths : Type 0
FirstWidths = (least weights : List ℕ) (room count : ℕ) → length weights ≡ length least → 0 < sum weights → count ≤ length least
    → sum (take count (widths_of least weights room)) ≡ sum (take count least) + part_before weights (left_over least room) count

-- a column is no wider than the room or than its least width
abbrev pub WidthsStayWithin : Type 0
WidthsStayWithin = (least weights : List ℕ) (room index : ℕ) → length weights ≡ length least → index < length least
    → width_of least weights room index ≤ max room (slice_index least index)
