-- Numbered rows and their nodes: what is under a number after a row is put last or changed, and after rows are taken
-- out by a test.
use Rattle.std.proofs.Common.{◌≡◌, ◌≤◌, ◌+◌, ℕ, Bool, true, false, cond, not, ◌&&◌, nat_eq, nat_le, nat_lt, List, [], ◌∷◌, ◌++◌, Some, None, refl, ap, arith}
use Rattle.std.proofs.lemmas.Bool.{eqb-true}
use Rattle.std.proofs.lemmas.Bool.Decides.{nat_tests}
use Rattle.std.proofs.lemmas.List.Sums.{sum_by-cons}
use Rattle.std.specs.List.{filter}
use Rattle.std.specs.Option.{option_map, option_and_then}
use Rattle.kind_core.specs.declared.kinds.Kind.{Kind}
use Rattle.widget_model.specs.Rows.{Row}
use Rattle.widget_model.specs.Nodes.{node_of, node_at}
use Rattle.widget_model.specs.Named.{rows_counted, rows_of_others}
use Rattle.widget_model.specs.Widgets.{row_at, with_row, without_row, nodes, rows_in}
use Rattle.widget_model.specs.Forest.{HaveOwnNumbers}

-- nodes are those of the rows, and a change that leaves a row's node leaves all
pub node_at-nodes : (es : List (ℕ × Row)) (id : ℕ) → node_at (nodes es) id ≡ option_map node_of (row_at es id)
node_at-nodes [] id = refl
node_at-nodes (e ∷ es) id = grind (arith, node_at-nodes es id)

pub nodes-push : (es : List (ℕ × Row)) (id : ℕ) (row : Row) → nodes (es ++ (id, row) ∷ []) ≡ nodes es ++ (id, node_of row) ∷ []
nodes-push [] id row = refl
nodes-push (e ∷ es) id row = rw (nodes-push es id row) refl

pub nodes-with_row : (es : List (ℕ × Row)) (id : ℕ) (change : Row → Row) → ((row : Row) → node_of (change row) ≡ node_of row) → nodes (with_row id change es) ≡ nodes es
nodes-with_row [] id change same = refl
nodes-with_row (e ∷ es) id change same = by (nodes-with_row es id change same) (nat_eq id e.0)
  where
    by : nodes (with_row id change es) ≡ nodes es → (b : Bool) → nodes (cond b (e.0, change e.1) e ∷ with_row id change es) ≡ nodes (e ∷ es)
    by rest true = rw (same e.1, rest) refl
    by rest false = rw rest refl

pub row_at-absent : (es : List (ℕ × Row)) (id : ℕ) → node_at (nodes es) id ≡ None → row_at es id ≡ None
row_at-absent [] id h = refl
row_at-absent (e ∷ es) id h = grind (arith, row_at-absent es id)

-- a row put last
pub row_at-push : (es : List (ℕ × Row)) (id : ℕ) (row : Row) (other : ℕ) → nat_eq other id ≡ false → row_at (es ++ (id, row) ∷ []) other ≡ row_at es other
row_at-push [] id row other apart = rw apart refl
row_at-push (e ∷ es) id row other apart = ap (cond (nat_eq other e.0) (Some e.1)) (row_at-push es id row other apart)

pub row_at-last : (es : List (ℕ × Row)) (id : ℕ) (row : Row) → row_at es id ≡ None → row_at (es ++ (id, row) ∷ []) id ≡ Some row
row_at-last [] id row absent = grind (arith, nat_tests)
row_at-last (e ∷ es) id row absent = grind (arith, row_at-last es id row)

-- a row that changed
pub row_at-with_row : (es : List (ℕ × Row)) (id : ℕ) (change : Row → Row) (other : ℕ) → row_at (with_row id change es) other ≡ option_map (λ (row : Row). cond (nat_eq id other) (change row) row) (row_at es other)
row_at-with_row [] id change other = refl
row_at-with_row (e ∷ es) id change other = grind (arith, nat_tests, row_at-with_row es id change other)

-- rows that are taken out: one, or those that fail a test
pub row_at-without_row : (es : List (ℕ × Row)) (id other : ℕ) → row_at (without_row id es) other ≡ cond (nat_eq id other) None (row_at es other)
row_at-without_row [] id other = grind arith
row_at-without_row (e ∷ es) id other = grind (arith, nat_tests, row_at-without_row es id other)

pub without_row-absent : (es : List (ℕ × Row)) (id : ℕ) → row_at es id ≡ None → without_row id es ≡ es
without_row-absent [] id absent = refl
without_row-absent (e ∷ es) id absent = grind (arith, without_row-absent es id)

pub without_row-filter : (es : List (ℕ × Row)) (id : ℕ) → without_row id es ≡ filter (λ (e : ℕ × Row). not (nat_eq id e.0)) es
without_row-filter [] id = refl
without_row-filter (e ∷ es) id = grind (arith, without_row-filter es id)

module _ (p : ℕ × Row → Bool) where
  row_at-filter_none : (es : List (ℕ × Row)) (id : ℕ) → row_at es id ≡ None → row_at (filter p es) id ≡ None
  row_at-filter_none [] id h = refl
  row_at-filter_none (e ∷ es) id h = grind (arith, row_at-filter_none es id)

  node_at-filter_none : (es : List (ℕ × Row)) (id : ℕ) → node_at (nodes es) id ≡ None → node_at (nodes (filter p es)) id ≡ None
  node_at-filter_none [] id h = refl
  node_at-filter_none (e ∷ es) id h = grind (arith, node_at-filter_none es id)

  pub own_numbers-filter : (es : List (ℕ × Row)) → HaveOwnNumbers (nodes es) → HaveOwnNumbers (nodes (filter p es))
  own_numbers-filter [] own = tt
  own_numbers-filter (e ∷ es) own = by (p e) (own_numbers-filter es own.1)
    where
      by : (b : Bool) → HaveOwnNumbers (nodes (filter p es)) → HaveOwnNumbers (nodes (cond b (e ∷ filter p es) (filter p es)))
      by true rest = (node_at-filter_none es e.0 own.0, rest)
      by false rest = rest

  pub row_at-filter : (es : List (ℕ × Row)) (id : ℕ) → HaveOwnNumbers (nodes es) → row_at (filter p es) id ≡ option_and_then (λ (row : Row). cond (p (id, row)) (Some row) None) (row_at es id)
  row_at-filter [] id own = refl
  row_at-filter (e ∷ es) id own =
      let absent = row_at-filter_none es e.0 (row_at-absent es e.0 own.0) in
      grind (arith, nat_tests, row_at-filter es id own.1, absent)

-- how many a row counts for, at the head of rows, and when it is taken out
pub rows_counted-cons : (client : ℕ) (test : Kind → Bool) (row : Row) (rows : List Row) → rows_counted client test (row ∷ rows) ≡ cond (nat_eq client row.client && test row.kind) 1 0 + rows_counted client test rows
rows_counted-cons client test row rows = sum_by-cons (λ (row : Row). cond (nat_eq client row.client && test row.kind) 1 0) row rows

pub rows_counted-without_row : (client : ℕ) (test : Kind → Bool) (es : List (ℕ × Row)) (id : ℕ) (row : Row) → HaveOwnNumbers (nodes es) → row_at es id ≡ Some row → rows_counted client test (rows_in es) ≡ cond (nat_eq client row.client && test row.kind) 1 0 + rows_counted client test (rows_in (without_row id es))
rows_counted-without_row client test [] id row own there = absurd (cc)
rows_counted-without_row client test (e ∷ es) id row own there = by (rows_counted-without_row client test es id row own.1) (nat_eq id e.0) refl there
  where
    by : (row_at es id ≡ Some row → rows_counted client test (rows_in es) ≡ cond (nat_eq client row.client && test row.kind) 1 0 + rows_counted client test (rows_in (without_row id es))) → (b : Bool) → nat_eq id e.0 ≡ b → cond b (Some e.1) (row_at es id) ≡ Some row → rows_counted client test (rows_in (e ∷ es)) ≡ cond (nat_eq client row.client && test row.kind) 1 0 + rows_counted client test (rows_in (cond b (without_row id es) (e ∷ without_row id es)))
    by rest true q h =
        let same : e.1 ≡ row = cc in
        let absent : row_at es id ≡ None = row_at-absent es id (rw (eqb-true id e.0 q) own.0) in
        rw (without_row-absent es id absent, ← same) (rows_counted-cons client test e.1 (rows_in es))
    by rest false q h = omega (arith, rest h, rows_counted-cons client test e.1 (rows_in es), rows_counted-cons client test e.1 (rows_in (without_row id es)))

-- with the rows of one client taken out, the others have as many as before
pub rows_counted-others : (client : ℕ) (test : Kind → Bool) (rows : List Row) (gone : ℕ) → rows_counted client test (rows_of_others gone rows) ≡ cond (nat_eq client gone) 0 (rows_counted client test rows)
rows_counted-others client test [] gone = grind arith
rows_counted-others client test (row ∷ rows) gone = grind (arith, nat_tests, rows_counted-others client test rows gone, rows_counted-cons client test row rows, rows_counted-cons client test row (rows_of_others gone rows))

-- the numbers from `first` up to `id` are out
abbrev pub is_left : ℕ → ℕ → ℕ → Bool
is_left first id other = not (nat_le first other && nat_lt other id)

pub left-none : (es : List (ℕ × Row)) (first : ℕ) → filter (λ (e : ℕ × Row). is_left first first e.0) es ≡ es
left-none [] first = refl
left-none (e ∷ es) first = grind (arith, nat_tests, left-none es first)

pub left-next : (es : List (ℕ × Row)) (first id : ℕ) → first ≤ id → without_row id (filter (λ (e : ℕ × Row). is_left first id e.0) es) ≡ filter (λ (e : ℕ × Row). is_left first (id + 1) e.0) es
left-next [] first id low = refl
left-next (e ∷ es) first id low = grind (arith, nat_tests, left-next es first id low)
