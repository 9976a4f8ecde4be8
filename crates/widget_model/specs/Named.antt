-- Rows under their names: a row is named by its client and its own name.
use Rattle.std.specs.Prelude.{ℕ, ◌≡◌, Bool, false, ◌&&◌, not, nat_eq, List, [], ◌∷◌, map, Option, if◌then◌else◌}
use Rattle.std.specs.List.{find, filter, count_by, list_any}
use Rattle.std.specs.Option.{option_map_or}
use Rattle.std.specs.Str.{bytes_eq}
use Rattle.kind_core.specs.declared.kinds.Kind.{Kind}
use Rattle.widget_model.specs.Rows.{Row}

-- whether the row has this client and name
abbrev pub has_name : ℕ → List ℕ → Row → Bool
has_name client name row = nat_eq client row.client && bytes_eq name row.name

-- the row with this client and name
abbrev pub row_named : List Row → ℕ → List ℕ → Option Row
row_named rows client name = find (has_name client name) rows

-- the rows with the named one changed
abbrev pub with_named : ℕ → List ℕ → (Row → Row) → List Row → List Row
with_named client name change rows = map (λ row. if has_name client name row then change row else row) rows

-- the rows without the named one
abbrev pub without_named : ℕ → List ℕ → List Row → List Row
without_named client name rows = filter (λ row. not (has_name client name row)) rows

-- the rows of all other clients
abbrev pub rows_of_others : ℕ → List Row → List Row
rows_of_others client rows = filter (λ row. not (nat_eq client row.client)) rows

-- how many rows of the client have a kind that passes the test
abbrev pub rows_counted : ℕ → (Kind → Bool) → List Row → ℕ
rows_counted client test rows = count_by (λ row. nat_eq client row.client && test row.kind) rows

-- whether there is such a row, of a kind that passes the test
abbrev pub is_kind_of : (Kind → Bool) → Option Row → Bool
is_kind_of test row = option_map_or (λ row. test row.kind) row false

-- the rows of the client
abbrev pub own_rows : ℕ → List Row → List Row
own_rows client rows = filter (λ row. nat_eq client row.client) rows

-- No two rows of one client have one name.
abbrev pub AreNamedApart : List Row → Type 0
AreNamedApart [] = Unit {0}
AreNamedApart (row ∷ rows) = (list_any (has_name row.client row.name) rows ≡ false) × AreNamedApart rows
