-- There is room for one more number of a kind of which each client has at most 8 widgets.
use Rattle.std.proofs.Common.{◌≡◌, ℕ, zero, suc, ◌+◌, ◌*◌, ◌≤◌, ◌<◌, Bool, true, false, cond, ◌&&◌, nat_eq, nat_le, nat_lt, List, [], ◌∷◌, length, Some, refl, sym, ap, ◌∙◌, arith}
use Rattle.std.proofs.lemmas.Bool.{true≢false, eqb-true, eq-eqb, le-leb, lt-ltb, and_parts, and_from, or_right}
use Rattle.std.proofs.lemmas.Bool.Decides.{nat_tests}
use Rattle.std.proofs.lemmas.List.Sums.{sum_by-cons}
use Rattle.std.specs.List.{list_all, count_by}
use Rattle.kind_core.specs.declared.kinds.Kind.{Kind}
use Rattle.stack_core.specs.Stack.{holds_key, AreDistinct}
use Rattle.widget_model.specs.Rows.{Row}
use Rattle.widget_model.specs.Kinds.{counts_with}
use Rattle.widget_model.specs.Named.{rows_counted}
use Rattle.widget_model.specs.Clients.{is_joined, is_client}
use Rattle.widget_model.specs.Widgets.{Widgets, rows_in, rows_of, row_at}
use Rattle.widget_model.specs.Forest.{IsWidgets}
use Rattle.widget_model.proofs.Hanging.{all_at, all_from}
use Rattle.tree_core.proofs.ForestLemmas.{joined_in_range}
use Rattle.desk_commands.proofs.Counting.{no_longer}

module _ (alike : Kind) where
  -- the number names a widget that is counted with the kind
  pub record IsAlike (w : Widgets) (key : ℕ) : Type 0 where
    pub row : Row
    pub there : row_at w.entries key ≡ Some row
    pub counts : counts_with alike row.kind ≡ true

  -- the numbers of such widgets
  kind_numbers : List (ℕ × Row) → List ℕ
  kind_numbers [] = []
  kind_numbers (e ∷ es) = cond (counts_with alike e.1.kind) (e.0 ∷ kind_numbers es) (kind_numbers es)

  kind-held : (es : List (ℕ × Row)) (key : ℕ) (row : Row) → row_at es key ≡ Some row → counts_with alike row.kind ≡ true → holds_key (kind_numbers es) key ≡ true
  unfolding kind_numbers
  kind-held [] key row there counts = absurd (cc)
  kind-held (e ∷ es) key row there counts = by (kind-held es key row) (nat_eq key e.0) refl (counts_with alike e.1.kind) refl there
    where
      by : (row_at es key ≡ Some row → counts_with alike row.kind ≡ true → holds_key (kind_numbers es) key ≡ true) → (b : Bool) → nat_eq key e.0 ≡ b → (d : Bool) → counts_with alike e.1.kind ≡ d → cond b (Some e.1) (row_at es key) ≡ Some row → holds_key (cond d (e.0 ∷ kind_numbers es) (kind_numbers es)) key ≡ true
      by rest true q true r h = rw (eq-eqb e.0 key (sym (eqb-true key e.0 q))) refl
      by rest true q false r h = let same : e.1 ≡ row = cc in absurd (true≢false (sym counts ∙ ap (λ (r : Row). counts_with alike r.kind) (sym same) ∙ r))
      by rest false q true r h = or_right (nat_eq e.0 key) _ (rest h counts)
      by rest false q false r h = rest h counts

  -- how many there are of the clients from `first` on
  abbrev within : ℕ → ℕ → ℕ → Bool
  within first n client = nat_le first client && nat_lt client (first + n)

  abbrev one_in : ℕ → ℕ → Row → ℕ
  one_in first n row = cond (within first n row.client && counts_with alike row.kind) 1 0

  abbrev count_in : ℕ → ℕ → List Row → ℕ
  count_in first n rows = count_by (λ (row : Row). within first n row.client && counts_with alike row.kind) rows

  count_in-none : (first : ℕ) (rows : List Row) → count_in first 0 rows ≡ 0
  count_in-none first [] = refl
  count_in-none first (row ∷ rows) = omega (arith, none (counts_with alike row.kind), count_in-none first rows, sum_by-cons (one_in first 0) row rows)
    where
      none : (b : Bool) → cond {A = ℕ} (within first 0 row.client && b) 1 0 ≡ 0
      none b = grind (arith, nat_tests)

  count_in-more : (first n : ℕ) (rows : List Row) → count_in first (suc n) rows ≤ rows_counted first (counts_with alike) rows + count_in (first + 1) n rows
  count_in-more first n [] = omega arith
  count_in-more first n (row ∷ rows) =
      omega (
        arith,
        more (counts_with alike row.kind),
        count_in-more first n rows,
        sum_by-cons (one_in first (suc n)) row rows,
        sum_by-cons (λ (row : Row). cond (nat_eq first row.client && counts_with alike row.kind) 1 0) row rows,
        sum_by-cons (one_in (first + 1) n) row rows,
      )
    where
      more : (b : Bool) → cond (within first (suc n) row.client && b) 1 0 ≤ cond (nat_eq first row.client && b) 1 0 + cond (within (first + 1) n row.client && b) 1 0
      more b = grind (arith, nat_tests)

  count_in-le : (n first : ℕ) (rows : List Row) → ((client : ℕ) → rows_counted client (counts_with alike) rows ≤ 8) → count_in first n rows ≤ 8 * n
  count_in-le zero first rows few = omega (arith, count_in-none first rows)
  count_in-le (suc n) first rows few = omega (arith, count_in-more first n rows, count_in-le n (first + 1) rows few, few first)

  length-kind_numbers : (clients : List ℕ) (es : List (ℕ × Row)) → list_all is_client clients ≡ true → list_all (λ (row : Row). is_joined clients row.client) (rows_in es) ≡ true → length (kind_numbers es) ≤ count_in 1 16 (rows_in es)
  unfolding kind_numbers
  length-kind_numbers clients [] ranges owners = omega arith
  length-kind_numbers clients (e ∷ es) ranges owners = by (length-kind_numbers clients es ranges parts.1) (counts_with alike e.1.kind) refl
    where
      parts : (is_joined clients e.1.client ≡ true) × (list_all (λ (row : Row). is_joined clients row.client) (rows_in es) ≡ true)
      parts = and_parts (is_joined clients e.1.client) (list_all (λ (row : Row). is_joined clients row.client) (rows_in es)) owners

      by : length (kind_numbers es) ≤ count_in 1 16 (rows_in es) → (b : Bool) → counts_with alike e.1.kind ≡ b → length (cond b (e.0 ∷ kind_numbers es) (kind_numbers es)) ≤ count_in 1 16 (rows_in (e ∷ es))
      by rest true q =
          let range = joined_in_range clients e.1.client parts.0 ranges in
          let one : one_in 1 16 e.1 ≡ 1 = rw (q, le-leb 1 e.1.client range.0, lt-ltb e.1.client 17 (omega arith)) refl in
          omega (arith, rest, one, sum_by-cons (one_in 1 16) e.1 (rows_in es))
      by rest false q = omega (arith, rest, sum_by-cons (one_in 1 16) e.1 (rows_in es))

  -- there are at most 8 of each of 16 clients, and one that isn't in the list is one more than those that are
  pub room_for_one : (w : Widgets) (keys : List ℕ) (key : ℕ) (names : ℕ → Bool) → IsWidgets w → AreDistinct keys → list_all names keys ≡ true → ((k : ℕ) → names k ≡ true → IsAlike w k) → IsAlike w key → holds_key keys key ≡ false → length keys < 128
  room_for_one w keys key names valid distinct all each one new =
      let held : (k : ℕ) → IsAlike w k → holds_key (kind_numbers w.entries) k ≡ true = λ k is. kind-held w.entries k is.row is.there is.counts in
      let rest = all_from (holds_key (kind_numbers w.entries)) keys (λ i k there. held k (each k (all_at names keys i k all there))) in
      let few = no_longer (key ∷ keys) (kind_numbers w.entries) (new, distinct) (and_from _ _ (held key one) rest) in
      omega (arith, few, length-kind_numbers w.clients w.entries valid.clients valid.rows.owners, count_in-le 16 1 (rows_of w) (λ client. valid.rows.most_alike client alike))
