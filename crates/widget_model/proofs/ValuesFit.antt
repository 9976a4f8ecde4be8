-- Values fit the table: those of a new row, and those of one of whose attributes the value was changed to one that the
-- table takes.
use Rattle.std.proofs.Common.{◌≡◌, ◌<◌, ◌⊎◌, inl, inr, ℕ, Bool, true, cond, nat_eq, length, get_or, List, [], ◌∷◌, Some, None, Ok, is_ok, refl, sym, ap, ◌∙◌, arith}
use Rattle.std.proofs.Math.ListN.{set, length-set}
use Rattle.std.proofs.lemmas.Bool.{eqb-true, eq-eqb, and_parts, and_from, cases_eq}
use Rattle.std.proofs.lemmas.List.{get_or-set_same, get_or-set_other}
use Rattle.std.specs.List.{list_all}
use Rattle.kind_core.specs.declared.kinds.Kind.{Kind}
use Rattle.kind_core.specs.declared.kinds.Kind.TheVariants.{Window, Grid, Frame, Button, Label, Entry, Scale, Scrollbar, Variable, VScreen}
use Rattle.kind_core.specs.declared.kinds.Attr.{Attr}
use Rattle.kind_core.specs.declared.kinds.Attr.TheVariants.{X, Y, W, H, Title, Text, Caret, Cols, Value, Max, Real, View, Vert}
use Rattle.kind_core.specs.declared.values.Value as value
use Rattle.kind_core.specs.Attributes.{domain_of, judged}
use Rattle.widget_model.specs.Rows.{Row, all_attrs, attr_of, attr_slot, with_attr, new_row, first_values, default_at}
use Rattle.widget_model.specs.Fitting.{fits_attr, fits_table}

pub fits_table-new : (client : ℕ) (name : List ℕ) (kind : Kind) → fits_table (new_row client name kind) ≡ true
unfolding new_row first_values default_at
fits_table-new client name Window = refl
fits_table-new client name Grid = refl
fits_table-new client name Frame = refl
fits_table-new client name Button = refl
fits_table-new client name Label = refl
fits_table-new client name Entry = refl
fits_table-new client name Scale = refl
fits_table-new client name Scrollbar = refl
fits_table-new client name Variable = refl
fits_table-new client name VScreen = refl

-- each attribute has a place of its own
attr_at : ℕ → Attr
attr_at n =
    cond (nat_eq n 0) X (cond (nat_eq n 1) Y (cond (nat_eq n 2) W (cond (nat_eq n 3) H (cond (nat_eq n 4) Title (cond (nat_eq n 5) Text (cond (nat_eq n 6) Caret
    (cond (nat_eq n 7) Cols (cond (nat_eq n 8) Value (cond (nat_eq n 9) Max (cond (nat_eq n 10) Real (cond (nat_eq n 11) View Vert)))))))))))

attr_at-place : (attr : Attr) → attr_at (attr_slot attr) ≡ attr
unfolding attr_at
attr_at-place X = refl
attr_at-place Y = refl
attr_at-place W = refl
attr_at-place H = refl
attr_at-place Title = refl
attr_at-place Text = refl
attr_at-place Caret = refl
attr_at-place Cols = refl
attr_at-place Value = refl
attr_at-place Max = refl
attr_at-place Real = refl
attr_at-place View = refl
attr_at-place Vert = refl

attr_slot-within : (attr : Attr) → attr_slot attr < 13
attr_slot-within X = omega arith
attr_slot-within Y = omega arith
attr_slot-within W = omega arith
attr_slot-within H = omega arith
attr_slot-within Title = omega arith
attr_slot-within Text = omega arith
attr_slot-within Caret = omega arith
attr_slot-within Cols = omega arith
attr_slot-within Value = omega arith
attr_slot-within Max = omega arith
attr_slot-within Real = omega arith
attr_slot-within View = omega arith
attr_slot-within Vert = omega arith

list_all-imply : {X : Type 0} (p q : X → Bool) → ((x : X) → p x ≡ true → q x ≡ true) → (xs : List X) → list_all p xs ≡ true → list_all q xs ≡ true
list_all-imply p q imply [] h = refl
list_all-imply p q imply (x ∷ xs) h =
    let parts = and_parts (p x) (list_all p xs) h in
    and_from (q x) (list_all q xs) (imply x parts.0) (list_all-imply p q imply xs parts.1)

-- a value that the table takes
pub fits_table-with_attr : (row : Row) (attr : Attr) (v : value.Value) → judged (domain_of row.kind attr) v ≡ Ok tt → fits_table row ≡ true → fits_table (with_attr attr v row) ≡ true
fits_table-with_attr row attr v taken h =
    let parts = and_parts (nat_eq (length row.values) 13) (list_all (λ (a : Attr). fits_attr row.kind a (attr_of row a)) all_attrs) h in
    let len : length row.values ≡ 13 = eqb-true (length row.values) 13 parts.0 in
    and_from (nat_eq (length (set row.values (attr_slot attr) (Some v))) 13) (list_all (λ (a : Attr). fits_attr row.kind a (attr_of (with_attr attr v row) a)) all_attrs)
    (eq-eqb (length (set row.values (attr_slot attr) (Some v))) 13 (length-set row.values (attr_slot attr) (Some v) ∙ len))
    (list_all-imply (λ (a : Attr). fits_attr row.kind a (attr_of row a)) (λ (a : Attr). fits_attr row.kind a (attr_of (with_attr attr v row) a)) (λ other k. by len other k (cases_eq (attr_slot other) (attr_slot attr))) all_attrs parts.1)
  where
    by : length row.values ≡ 13 → (other : Attr) → fits_attr row.kind other (attr_of row other) ≡ true → (attr_slot other ≡ attr_slot attr) ⊎ (attr_slot other ≡ attr_slot attr → ⊥) → fits_attr row.kind other (attr_of (with_attr attr v row) other) ≡ true
    by len other k (inl same) =
        let one : other ≡ attr = sym (attr_at-place other) ∙ ap attr_at same ∙ attr_at-place attr in
        let within : attr_slot attr < length row.values = omega (arith, attr_slot-within attr, len) in
        let here : attr_of (with_attr attr v row) other ≡ Some v = ap (λ (n : ℕ). get_or (set row.values (attr_slot attr) (Some v)) n None) same ∙ get_or-set_same row.values (attr_slot attr) (Some v) None within in
        ap (fits_attr row.kind other) here ∙ ap (λ (a : Attr). fits_attr row.kind a (Some v)) one ∙ ap is_ok taken
    by len other k (inr apart) = ap (fits_attr row.kind other) (get_or-set_other row.values (attr_slot attr) (attr_slot other) (Some v) None apart) ∙ k
