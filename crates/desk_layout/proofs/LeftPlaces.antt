-- What is left where a widget or a client goes: rows that were there, in the places that they had.
use Rattle.std.proofs.Common.{◌≡◌, ◌+◌, ◌≤◌, ℕ, Bool, true, false, cond, not, nat_eq, List, Option, Some, None, refl, sym, ap, ◌∙◌}
use Rattle.std.proofs.lemmas.Bool.{false≢true, eqb-false, le-leb, lt-ltb, and_from}
use Rattle.std.proofs.lemmas.List.{get_or-set_other}
use Rattle.std.specs.Option.{option_and_then}
use Rattle.widget_model.specs.Rows.{Row}
use Rattle.widget_model.specs.Named.{rows_of_others}
use Rattle.widget_model.specs.Nodes.{first_number, is_number_of}
use Rattle.widget_model.specs.Widgets.{Widgets, rows_of, row_at, place_at, without_row, removed, departed}
use Rattle.widget_model.specs.Forest.{IsWidgets}
use Rattle.widget_model.proofs.Naming.{rows_of-departed}
use Rattle.widget_model.proofs.Slots.{unplaced-other}
use Rattle.row_store.proofs.UnderNumbers.{row_at-filter, row_at-without_row}
use Rattle.tree_core.proofs.ForestLemmas.{number-client}
use Rattle.desk_model.proofs.OthersRows.{filter-filter}
use Rattle.desk_layout.specs.Placed.{HaveDuePlaces}
use Rattle.desk_layout.specs.Numbers.{KeepsNumbers}
use Rattle.desk_layout.proofs.KeyNumbers.{numbers-fewer, others-due}
use Rattle.desk_layout.proofs.Layouts.{own-number}

-- a row that is left is another than the one that went
pub record IsLeft (gone : Bool) (before : Option Row) (row : Row) : Type 0 where
  pub apart : gone ≡ false
  pub was : before ≡ Some row

left-by : (gone : Bool) (before : Option Row) (row : Row) → cond gone None before ≡ Some row → IsLeft gone before row
left-by true before row h = absurd (cc)
left-by false before row h = record { apart = refl; was = h }

pub without-left : (es : List (ℕ × Row)) (key id : ℕ) (row : Row) → row_at (without_row key es) id ≡ Some row → IsLeft (nat_eq key id) (row_at es id) row
without-left es key id row there = left-by (nat_eq key id) (row_at es id) row (sym (row_at-without_row es key id) ∙ there)

pub removed-place : (w : Widgets) (key id : ℕ) (row : Row) → row_at (without_row key w.entries) id ≡ Some row → place_at (removed key w) id ≡ place_at w id
removed-place w key id row there =
    get_or-set_other w.places key id None None (λ e. eqb-false key id (without-left w.entries key id row there).apart (sym e))

-- the same of a client that goes
departed-left : (w : Widgets) (client id : ℕ) (row : Row) → IsWidgets w → 1 ≤ client → row_at (departed client w).entries id ≡ Some row → IsLeft (is_number_of client id) (row_at w.entries id) row
departed-left w client id row valid low there =
    by (row_at w.entries id) refl (sym (row_at-filter (λ (e : ℕ × Row). not (nat_eq client e.1.client)) w.entries id valid.numbered.own_numbers) ∙ there)
  where
    other : (r : Row) (b : Bool) → nat_eq client r.client ≡ b → cond (not b) (Some r) None ≡ Some row → (nat_eq client r.client ≡ false) × (r ≡ row)
    other r true is h = absurd (cc)
    other r false is h = (is, cc)

    by : (o : Option Row) → row_at w.entries id ≡ o → option_and_then (λ (r : Row). cond (not (nat_eq client r.client)) (Some r) None) o ≡ Some row → IsLeft (is_number_of client id) (row_at w.entries id) row
    by None at h = absurd (cc)
    by (Some r) at h =
        let left = other r (nat_eq client r.client) refl h in
        record { apart = number-client client r.client id low (own-number w id r valid at) ∙ left.0; was = at ∙ ap Some left.1 }

departed-number : (w : Widgets) (client id : ℕ) (row : Row) → IsWidgets w → 1 ≤ client → row_at (departed client w).entries id ≡ Some row → is_number_of client id ≡ false
departed-number w client id row valid low there = (departed-left w client id row valid low there).apart

departed-place : (w : Widgets) (client id : ℕ) (row : Row) → IsWidgets w → 1 ≤ client → row_at (departed client w).entries id ≡ Some row → place_at (departed client w) id ≡ place_at w id
departed-place w client id row valid low there =
    unplaced-other client w.places id
    (λ from to. false≢true
    (sym (departed-number w client id row valid low there)
    ∙ and_from _ _ (le-leb 1 client low) (and_from _ _ (le-leb (first_number client) id from) (lt-ltb id (first_number client + 128) to))))

-- numbers stay with those that are left
pub departed-numbers : (w : Widgets) (client : ℕ) → IsWidgets w → 1 ≤ client → KeepsNumbers w.entries (departed client w).entries
departed-numbers w client valid low = numbers-fewer w.entries (departed client w).entries valid.rows.names (λ other r is. (departed-left w client other r valid low is).was)

-- so the places of those that are left are due
pub departed-due : (w : Widgets) (client : ℕ) → IsWidgets w → 1 ≤ client → IsWidgets (departed client w) → HaveDuePlaces w → HaveDuePlaces (departed client w)
departed-due w client valid low sound due = record {
  each = λ id row there.
      let was = (departed-left w client id row valid low there).was in
      others-due client w (departed client w) valid sound due
      (departed-numbers w client valid low)
      (λ other r is. departed-place w client other r valid low is)
      (ap (rows_of_others client) (rows_of-departed w client) ∙ filter-filter (λ (r : Row). not (nat_eq client r.client)) (rows_of w))
      id row there
      (sym (number-client client row.client id low (own-number w id row valid was)) ∙ departed-number w client id row valid low there);
}
