-- Rows stay fit: a new one is, and one is whose value, rule or tag is changed within its range.
use Rattle.std.proofs.Common.{◌≡◌, ◌≤◌, ◌-◌, ℕ, zero, suc, true, ◌&&◌, nat_eq, length, List, [], ◌∷◌, slice_set, Option, Ok, refl, ap, ◌∙◌}
use Rattle.std.proofs.Math.ListN.{length-set}
use Rattle.std.proofs.lemmas.Bool.{le-leb, and_parts, and_from}
use Rattle.std.specs.List.{list_all}
use Rattle.kind_core.specs.declared.kinds.Kind.{Kind}
use Rattle.kind_core.specs.declared.kinds.Attr.{Attr}
use Rattle.kind_core.specs.declared.kinds.EventKind.{EventKind}
use Rattle.kind_core.specs.declared.values.Value as value
use Rattle.kind_core.specs.Attributes.{domain_of, judged}
use Rattle.widget_model.specs.Rows.{Row, new_row, event_slot, with_attr, with_column_rule, with_row_rule, with_binding}
use Rattle.widget_model.specs.Fitting.{fits_table, fits_rule, fits_rules, has_slots, is_fit}
use Rattle.widget_model.proofs.ValuesFit.{fits_table-new, fits_table-with_attr}

-- the parts of it
pub record IsFit (row : Row) : Type 0 where
  pub table : fits_table row ≡ true
  pub columns : list_all fits_rule row.column_rules ≡ true
  pub rows : list_all fits_rule row.row_rules ≡ true
  pub slots : has_slots row ≡ true

pub IsFit-is_fit : (row : Row) → is_fit row ≡ true → IsFit row
IsFit-is_fit row fit =
    let parts = and_parts (fits_table row) (fits_rules row && has_slots row) fit in
    let rest = and_parts (fits_rules row) (has_slots row) parts.1 in
    let rules = and_parts (list_all fits_rule row.column_rules) (list_all fits_rule row.row_rules) rest.0 in
    record { table = parts.0; columns = rules.0; rows = rules.1; slots = rest.1 }

pub is_fit-IsFit : (row : Row) → IsFit row → is_fit row ≡ true
is_fit-IsFit row is = and_from _ _ is.table (and_from _ _ (and_from _ _ is.columns is.rows) is.slots)

pub is_fit-new : (client : ℕ) (name : List ℕ) (kind : Kind) → is_fit (new_row client name kind) ≡ true
unfolding new_row
is_fit-new client name kind = and_from _ _ (fits_table-new client name kind) refl

-- a value that the table takes
pub is_fit-with_attr : (row : Row) (attr : Attr) (v : value.Value) → judged (domain_of row.kind attr) v ≡ Ok tt → is_fit row ≡ true → is_fit (with_attr attr v row) ≡ true
is_fit-with_attr row attr v taken fit =
    let is = IsFit-is_fit row fit in
    is_fit-IsFit (with_attr attr v row) (record { table = fits_table-with_attr row attr v taken is.table; columns = is.columns; rows = is.rows; slots = is.slots })

-- a rule within its range, among such rules
rule_set : (rules : List (ℕ × ℕ)) (i : ℕ) (rule : ℕ × ℕ) → list_all fits_rule rules ≡ true → fits_rule rule ≡ true → list_all fits_rule (slice_set rules i rule) ≡ true
rule_set [] i rule all fits = refl
rule_set (first ∷ rules) zero rule all fits = and_from _ _ fits (and_parts (fits_rule first) (list_all fits_rule rules) all).1
rule_set (first ∷ rules) (suc i) rule all fits =
    let parts = and_parts (fits_rule first) (list_all fits_rule rules) all in
    and_from _ _ parts.0 (rule_set rules i rule parts.1 fits)

rule_fits : (size weight : ℕ) → size ≤ 1024 → weight ≤ 1000 → fits_rule (size, weight) ≡ true
rule_fits size weight small light = and_from _ _ (le-leb size 1024 small) (le-leb weight 1000 light)

pub is_fit-with_column_rule : (row : Row) (index size weight : ℕ) → size ≤ 1024 → weight ≤ 1000 → is_fit row ≡ true → is_fit (with_column_rule index (size, weight) row) ≡ true
is_fit-with_column_rule row index size weight small light fit =
    let is = IsFit-is_fit row fit in
    is_fit-IsFit (with_column_rule index (size, weight) row)
    (record {
      table = is.table;
      columns = rule_set row.column_rules (index - 1) (size, weight) is.columns (rule_fits size weight small light);
      rows = is.rows;
      slots = ap (λ (n : ℕ). nat_eq n 16 && (nat_eq (length row.row_rules) 16 && nat_eq (length row.bindings) 7)) (length-set row.column_rules (index - 1) (size, weight)) ∙ is.slots;
    })

pub is_fit-with_row_rule : (row : Row) (index size weight : ℕ) → size ≤ 1024 → weight ≤ 1000 → is_fit row ≡ true → is_fit (with_row_rule index (size, weight) row) ≡ true
is_fit-with_row_rule row index size weight small light fit =
    let is = IsFit-is_fit row fit in
    is_fit-IsFit (with_row_rule index (size, weight) row)
    (record {
      table = is.table;
      columns = is.columns;
      rows = rule_set row.row_rules (index - 1) (size, weight) is.rows (rule_fits size weight small light);
      slots = ap (λ (n : ℕ). nat_eq (length row.column_rules) 16 && (nat_eq n 16 && nat_eq (length row.bindings) 7)) (length-set row.row_rules (index - 1) (size, weight)) ∙ is.slots;
    })

pub is_fit-with_binding : (row : Row) (event : EventKind) (tag : Option (List ℕ)) → is_fit row ≡ true → is_fit (with_binding event tag row) ≡ true
is_fit-with_binding row event tag fit =
    let is = IsFit-is_fit row fit in
    is_fit-IsFit (with_binding event tag row)
    (record {
      table = is.table;
      columns = is.columns;
      rows = is.rows;
      slots = ap (λ (n : ℕ). nat_eq (length row.column_rules) 16 && (nat_eq (length row.row_rules) 16 && nat_eq n 7)) (length-set row.bindings (event_slot event) tag) ∙ is.slots;
    })
