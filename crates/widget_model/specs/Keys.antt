-- A widget's key is its client and its own name: no two widgets have one.
use Rattle.std.specs.Prelude.{ℕ, Bool, ◌&&◌, nat_eq, List, Option}
use Rattle.std.specs.Option.{option_map}
use Rattle.std.specs.Str.{bytes_eq}
use Rattle.widget_model.specs.Rows.{Row}
use Rattle.widget_model.specs.Named.{row_named}
use Rattle.widget_model.specs.Trees.{parent_of, root_of}

abbrev pub key_of : Row → ℕ × List ℕ
key_of row = (row.client, row.name)

abbrev pub same_key : ℕ × List ℕ → ℕ × List ℕ → Bool
same_key a b = nat_eq a.0 b.0 && bytes_eq a.1 b.1

-- the row with this key
abbrev pub row_of : List Row → ℕ × List ℕ → Option Row
row_of rows key = row_named rows key.0 key.1

-- the key of its parent, of the widget in which it hangs
abbrev pub parent_key : List Row → ℕ × List ℕ → Option (ℕ × List ℕ)
parent_key rows key = option_map (λ name. (key.0, name)) (parent_of rows key.0 key.1)

-- the key of the widget without a parent that is above it, or its own
abbrev pub root_key : List Row → ℕ × List ℕ → ℕ × List ℕ
root_key rows key = (key.0, root_of rows key.0 key.1)
