-- One change after another, and changes that are none.
use Rattle.std.proofs.Common.{◌≡◌, ℕ, Bool, true, false, cond, nat_eq, List, [], ◌∷◌, Option, Some, None, refl, ap, ◌∙◌}
use Rattle.std.specs.Option.{option_map}
use Rattle.widget_model.specs.Rows.{Row}
use Rattle.row_store.proofs.UnderNumbers.{row_at-with_row}
use Rattle.widget_model.specs.Widgets.{Widgets, row_at, row_kind, with_row, edited}

with_row-same : (es : List (ℕ × Row)) (id : ℕ) (change : Row → Row) → ((row : Row) → change row ≡ row) → with_row id change es ≡ es
with_row-same [] id change same = refl
with_row-same (e ∷ es) id change same = by (with_row-same es id change same) (nat_eq id e.0)
  where
    by : with_row id change es ≡ es → (b : Bool) → cond b (e.0, change e.1) e ∷ with_row id change es ≡ e ∷ es
    by rest true = rw (rest, same e.1) refl
    by rest false = rw rest refl

pub edited-same : (w : Widgets) (id : ℕ) (change : Row → Row) → ((row : Row) → change row ≡ row) → edited id change w ≡ w
edited-same w id change same = ap (λ (es : List (ℕ × Row)). record w { entries = es }) (with_row-same w.entries id change same)

with_row-with_row : (es : List (ℕ × Row)) (id : ℕ) (first second both : Row → Row) → ((row : Row) → second (first row) ≡ both row) → with_row id second (with_row id first es) ≡ with_row id both es
with_row-with_row [] id first second both same = refl
with_row-with_row (e ∷ es) id first second both same = by (with_row-with_row es id first second both same) (nat_eq id e.0) refl
  where
    by : with_row id second (with_row id first es) ≡ with_row id both es → (b : Bool) → nat_eq id e.0 ≡ b → with_row id second (cond b (e.0, first e.1) e ∷ with_row id first es) ≡ cond b (e.0, both e.1) e ∷ with_row id both es
    by rest true q = rw (q, rest, same e.1) refl
    by rest false q = rw (q, rest) refl

pub edited-edited : (w : Widgets) (id : ℕ) (first second both : Row → Row) → ((row : Row) → second (first row) ≡ both row) → edited id second (edited id first w) ≡ edited id both w
edited-edited w id first second both same = ap (λ (es : List (ℕ × Row)). record w { entries = es }) (with_row-with_row w.entries id first second both same)

-- a change that leaves a row's kind leaves all kinds
pub row_kind-with_row : (es : List (ℕ × Row)) (id : ℕ) (change : Row → Row) (other : ℕ) → ((row : Row) → (change row).kind ≡ row.kind) → row_kind (with_row id change es) other ≡ row_kind es other
row_kind-with_row es id change other same = ap (option_map (λ (row : Row). row.kind)) (row_at-with_row es id change other) ∙ by (row_at es other) (nat_eq id other)
  where
    by : (o : Option Row) (b : Bool) → option_map (λ (row : Row). row.kind) (option_map (λ (row : Row). cond b (change row) row) o) ≡ option_map (λ (row : Row). row.kind) o
    by None b = refl
    by (Some row) true = ap Some (same row)
    by (Some row) false = refl
