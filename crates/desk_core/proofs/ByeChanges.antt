-- What a client that leaves changes: something exactly where it has a widget.
use Rattle.std.proofs.Common.{◌≡◌, ◌↔◌, IsTrue, ℕ, zero, suc, ◌+◌, ◌<◌, Bool, true, false, cond, ◌&&◌, not, nat_eq, List, [], ◌∷◌, Some, None, refl, sym, ap, ◌∙◌, arith}
use Rattle.std.proofs.lemmas.Bool.{true≢false, and_parts, eqb-true}
use Rattle.std.proofs.lemmas.List.Sums.{sum_by-cons}
use Rattle.std.specs.List.{list_all, filter}
use Rattle.std.specs.Str.{bytes_eq}
use Rattle.widget_model.specs.Rows.{Row}
use Rattle.widget_model.specs.Kinds.{any_kind, is_window_kind}
use Rattle.widget_model.specs.Named.{row_named, rows_of_others, rows_counted, is_kind_of}

module _ (client : ℕ) where
  count-cons : (row : Row) (rows : List Row) → rows_counted client any_kind (row ∷ rows) ≡ cond (nat_eq client row.client && true) 1 0 + rows_counted client any_kind rows
  count-cons row rows = sum_by-cons (λ (r : Row). cond (nat_eq client r.client && any_kind r.kind) 1 0) row rows

  -- none of the client's is among the others'
  count-others : (rows : List Row) → rows_counted client any_kind (rows_of_others client rows) ≡ 0
  count-others [] = refl
  count-others (row ∷ rows) = by (count-others rows) (nat_eq client row.client) refl
    where
      by : rows_counted client any_kind (rows_of_others client rows) ≡ 0 → (b : Bool) → nat_eq client row.client ≡ b → rows_counted client any_kind (cond (not b) (row ∷ rows_of_others client rows) (rows_of_others client rows)) ≡ 0
      by rest true q = rest
      by rest false q =
          let here : ◌≡◌ {A = ℕ} (cond (nat_eq client row.client && true) 1 0) 0 = rw q refl in
          omega (arith, here, rest, count-cons row (rows_of_others client rows))

  -- where it has none, the others' are all
  others-same : (rows : List Row) → rows_counted client any_kind rows ≡ 0 → rows_of_others client rows ≡ rows
  others-same [] none = refl
  others-same (row ∷ rows) none = by (others-same rows) (nat_eq client row.client) refl
    where
      by : (rows_counted client any_kind rows ≡ 0 → rows_of_others client rows ≡ rows) → (b : Bool) → nat_eq client row.client ≡ b → cond (not b) (row ∷ rows_of_others client rows) (rows_of_others client rows) ≡ row ∷ rows
      by rest true q =
          let here : ◌≡◌ {A = ℕ} (cond (nat_eq client row.client && true) 1 0) 1 = rw q refl in
          absurd (omega (arith, here, none, count-cons row rows))
      by rest false q =
          let here : ◌≡◌ {A = ℕ} (cond (nat_eq client row.client && true) 1 0) 0 = rw q refl in
          ap (λ (rs : List Row). row ∷ rs) (rest (omega (arith, here, none, count-cons row rows)))

  -- and no name of its own finds a row
  none_named : (rows : List Row) (name : List ℕ) → rows_counted client any_kind rows ≡ 0 → row_named rows client name ≡ None
  none_named [] name none = refl
  none_named (row ∷ rows) name none = by (none_named rows name) (nat_eq client row.client) refl
    where
      by : (rows_counted client any_kind rows ≡ 0 → row_named rows client name ≡ None) → (b : Bool) → nat_eq client row.client ≡ b → cond (b && bytes_eq name row.name) (Some row) (row_named rows client name) ≡ None
      by rest true q =
          let here : ◌≡◌ {A = ℕ} (cond (nat_eq client row.client && true) 1 0) 1 = rw q refl in
          absurd (omega (arith, here, none, count-cons row rows))
      by rest false q =
          let here : ◌≡◌ {A = ℕ} (cond (nat_eq client row.client && true) 1 0) 0 = rw q refl in
          rest (omega (arith, here, none, count-cons row rows))

  -- so no window of its own is open
  windows-same : (rows : List Row) (windows : List (ℕ × List ℕ)) → rows_counted client any_kind rows ≡ 0 → list_all (λ (window : ℕ × List ℕ). is_kind_of is_window_kind (row_named rows window.0 window.1)) windows ≡ true → filter (λ (window : ℕ × List ℕ). not (nat_eq client window.0)) windows ≡ windows
  windows-same rows [] none all = refl
  windows-same rows (window ∷ windows) none all = by (windows-same rows windows none parts.1) (nat_eq client window.0) refl
    where
      parts : (is_kind_of is_window_kind (row_named rows window.0 window.1) ≡ true) × (list_all (λ (window : ℕ × List ℕ). is_kind_of is_window_kind (row_named rows window.0 window.1)) windows ≡ true)
      parts = and_parts (is_kind_of is_window_kind (row_named rows window.0 window.1)) (list_all (λ (window : ℕ × List ℕ). is_kind_of is_window_kind (row_named rows window.0 window.1)) windows) all

      by : filter (λ (window : ℕ × List ℕ). not (nat_eq client window.0)) windows ≡ windows → (b : Bool) → nat_eq client window.0 ≡ b → cond (not b) (window ∷ filter (λ (window : ℕ × List ℕ). not (nat_eq client window.0)) windows) (filter (λ (window : ℕ × List ℕ). not (nat_eq client window.0)) windows) ≡ window ∷ windows
      by rest true q =
          let same : client ≡ window.0 = eqb-true client window.0 q in
          let absent : row_named rows window.0 window.1 ≡ None = ap (λ (c : ℕ). row_named rows c window.1) (sym same) ∙ none_named rows window.1 none in
          absurd (true≢false (sym parts.0 ∙ ap (is_kind_of is_window_kind) absent))
      by rest false q = ap (λ (ws : List (ℕ × List ℕ)). window ∷ ws) rest

  -- the count tells whether rows or windows change
  pub tells_bye : (rows : List Row) (windows : List (ℕ × List ℕ)) (changed : Bool) → (IsTrue changed ↔ 0 < rows_counted client any_kind rows) → list_all (λ (window : ℕ × List ℕ). is_kind_of is_window_kind (row_named rows window.0 window.1)) windows ≡ true → IsTrue changed ↔ ((rows_of_others client rows ≡ rows) × (filter (λ (window : ℕ × List ℕ). not (nat_eq client window.0)) windows ≡ windows) → ⊥)
  tells_bye rows windows true had all =
      (λ e same. omega (arith, had.0 refl, sym (ap (rows_counted client any_kind) same.0) ∙ count-others rows), λ h. refl)
  tells_bye rows windows false had all =
      let none : rows_counted client any_kind rows ≡ 0 = by (rows_counted client any_kind rows) refl in
      (λ e. absurd (true≢false (sym e)), λ h. absurd (h (others-same rows none, windows-same rows windows none all)))
    where
      by : (n : ℕ) → rows_counted client any_kind rows ≡ n → rows_counted client any_kind rows ≡ 0
      by zero q = q
      by (suc n) q = absurd (true≢false (sym (had.1 (omega (arith, q)))))
