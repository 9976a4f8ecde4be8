-- A change of one client's widgets leaves the other clients' rows.
use Rattle.std.proofs.Common.{◌≡◌, ℕ, Bool, true, false, cond, ◌&&◌, not, nat_eq, List, [], ◌∷◌, ◌++◌, refl, sym, ◌∙◌}
use Rattle.std.proofs.lemmas.Bool.{true≢false, eqb-false, eq-eqb, ne_eqb}
use Rattle.std.proofs.Math.Bool.{or-false}
use Rattle.std.proofs.lemmas.List.{append-nil}
use Rattle.std.proofs.lemmas.List.Elements.{filter-append}
use Rattle.std.proofs.lemmas.List.Folds.{list_any-append}
use Rattle.std.specs.List.{filter, list_any}
use Rattle.std.specs.Str.{bytes_eq}
use Rattle.kind_core.specs.declared.kinds.Kind.{Kind}
use Rattle.kind_core.specs.declared.kinds.Attr.{Attr}
use Rattle.kind_core.specs.declared.values.Value as value
use Rattle.widget_model.specs.Rows.{Row, new_row, with_attr}
use Rattle.widget_model.specs.Named.{with_named, without_named, rows_of_others}
use Rattle.desk_model.specs.AttrOptions.{with_attrs}
use Rattle.desk_model.specs.Desk.{is_window}
use Rattle.desk_model.specs.Windows.{without_window}
use Rattle.desk_model.specs.OwnPart.{windows_of_others}

-- What a filter keeps, it keeps again.
pub filter-filter : {X : Type 0} (p : X → Bool) (xs : List X) → filter p (filter p xs) ≡ filter p xs
filter-filter p [] = refl
filter-filter p (x ∷ xs) = by (filter-filter p xs) (p x) refl
  where
    by : filter p (filter p xs) ≡ filter p xs → (b : Bool) → p x ≡ b → filter p (cond b (x ∷ filter p xs) (filter p xs)) ≡ cond b (x ∷ filter p xs) (filter p xs)
    by rest true e = rw (e, rest) refl
    by rest false e = rest

-- What passes a test is among what passes a wider one.
pub filter-within : {X : Type 0} (p q : X → Bool) → ((x : X) → q x ≡ true → p x ≡ true) → (xs : List X) → filter q (filter p xs) ≡ filter q xs
filter-within p q wider [] = refl
filter-within {X} p q wider (x ∷ xs) = by (filter-within p q wider xs) (p x) refl (q x) refl
  where
    by : filter q (filter p xs) ≡ filter q xs → (kept : Bool) → p x ≡ kept → (wanted : Bool) → q x ≡ wanted → filter q (cond kept (x ∷ filter p xs) (filter p xs)) ≡ cond wanted (x ∷ filter q xs) (filter q xs)
    by rest true e true f = rw (f, rest) refl
    by rest true e false f = rw (f, rest) refl
    by rest false e true f = absurd (true≢false (sym (wider x f) ∙ e))
    by rest false e false f = rest

-- the others' rows after a change of one row that leaves its client
pub rows_of_others-with_named : (client : ℕ) (name : List ℕ) (change : Row → Row) (rows : List Row) → ((row : Row) → (change row).client ≡ row.client) → rows_of_others client (with_named client name change rows) ≡ rows_of_others client rows
rows_of_others-with_named client name change [] same = refl
rows_of_others-with_named client name change (row ∷ rows) same = by (rows_of_others-with_named client name change rows same) (nat_eq client row.client) (bytes_eq name row.name) refl
  where
    by : rows_of_others client (with_named client name change rows) ≡ rows_of_others client rows
        → (own named : Bool) → nat_eq client row.client ≡ own
        → rows_of_others client (cond (own && named) (change row) row ∷ with_named client name change rows) ≡ cond (not own) (row ∷ rows_of_others client rows) (rows_of_others client rows)
    by rest true true e = rw (same row, e, rest) refl
    by rest true false e = rw (e, rest) refl
    by rest false named e = rw (e, rest) refl

pub rows_of_others-without_named : (client : ℕ) (name : List ℕ) (rows : List Row) → rows_of_others client (without_named client name rows) ≡ rows_of_others client rows
rows_of_others-without_named client name [] = refl
rows_of_others-without_named client name (row ∷ rows) = by (rows_of_others-without_named client name rows) (nat_eq client row.client) (bytes_eq name row.name) refl
  where
    by : rows_of_others client (without_named client name rows) ≡ rows_of_others client rows
        → (own named : Bool) → nat_eq client row.client ≡ own
        → rows_of_others client (cond (not (own && named)) (row ∷ without_named client name rows) (without_named client name rows)) ≡ cond (not own) (row ∷ rows_of_others client rows) (rows_of_others client rows)
    by rest true true e = rest
    by rest true false e = rw e rest
    by rest false named e = rw (e, rest) refl

pub rows_of_others-push : (client : ℕ) (rows : List Row) (row : Row) → row.client ≡ client → rows_of_others client (rows ++ row ∷ []) ≡ rows_of_others client rows
rows_of_others-push client rows row own =
    filter-append (λ (row : Row). not (nat_eq client row.client)) rows (row ∷ []) ∙ rw (eq-eqb client row.client (sym own)) (append-nil (rows_of_others client rows))

pub client-new_row : (client : ℕ) (name : List ℕ) (kind : Kind) → (new_row client name kind).client ≡ client
unfolding new_row
client-new_row client name kind = refl

pub client-with_attrs : (options : List (Attr × value.Value)) (row : Row) → (with_attrs options row).client ≡ row.client
client-with_attrs [] row = refl
client-with_attrs (option ∷ options) row = client-with_attrs options (with_attr option.0 option.1 row)

pub windows_of_others-cons : (client : ℕ) (name : List ℕ) (windows : List (ℕ × List ℕ)) → windows_of_others client ((client, name) ∷ windows) ≡ windows_of_others client windows
windows_of_others-cons client name windows = rw (eq-eqb client client refl) refl

pub windows_of_others-without : (client : ℕ) (name : List ℕ) (windows : List (ℕ × List ℕ)) → windows_of_others client (without_window client name windows) ≡ windows_of_others client windows
windows_of_others-without client name windows = filter-within (λ window. not (is_window client name window)) (λ window. not (nat_eq client window.0)) wider windows
  where
    wider : (window : ℕ × List ℕ) → not (nat_eq client window.0) ≡ true → not (is_window client name window) ≡ true
    wider window other = by (nat_eq client window.0) other
      where
        by : (b : Bool) → not b ≡ true → not (b && bytes_eq name window.1) ≡ true
        by false e = refl
        by true e = absurd (true≢false (sym e))

-- whether another client is among those connected
pub list_any-push_other : (client other : ℕ) (clients : List ℕ) → nat_eq client other ≡ false → list_any (nat_eq other) (clients ++ client ∷ []) ≡ list_any (nat_eq other) clients
list_any-push_other client other clients differ =
    list_any-append (nat_eq other) clients (client ∷ []) ∙ rw (ne_eqb other client (λ e. eqb-false client other differ (sym e))) (or-false (list_any (nat_eq other) clients))
