-- Room is spread over columns (or rows) by their weights: each gets its least width and its share of what is left.
use Rattle.std.specs.Prelude.{ℕ, ◌+◌, ◌-◌, ◌*◌, ◌/◌, List, sum, take, map, length, slice_index, ◌==◌, if◌then◌else◌}
use Rattle.std.specs.List.{range_with_len}

-- what the least widths leave of the room, which is 0 where they need all of it and more
abbrev pub left_over : List ℕ → ℕ → ℕ
left_over least room = room - sum least

-- the part of `extra` that goes to the first `count` columns, in proportion to their weights and rounded down
abbrev pub part_before : List ℕ → ℕ → ℕ → ℕ
part_before weights extra count = extra * sum (take count weights) / sum weights

-- the share of column `index`, from 0: what the columns up to it get, less what those before it get. Where no column
-- has a weight, the last one gets all
abbrev pub share_of : List ℕ → ℕ → ℕ → ℕ
share_of weights extra index =
    if sum weights == 0
    then (if index + 1 == length weights then extra else 0)
    else (part_before weights extra (index + 1) - part_before weights extra index)

-- the shares of all columns
abbrev pub shares_of : List ℕ → ℕ → List ℕ
shares_of weights extra = map (share_of weights extra) (range_with_len 0 (length weights))

-- the width of column `index`: its least width and its share
abbrev pub width_of : List ℕ → List ℕ → ℕ → ℕ → ℕ
width_of least weights room index = slice_index least index + share_of weights (left_over least room) index

-- the widths of all columns
abbrev pub widths_of : List ℕ → List ℕ → ℕ → List ℕ
widths_of least weights room = map (width_of least weights room) (range_with_len 0 (length least))
