-- The limits of a row's numbers, from its kind's table.
use Rattle.std.proofs.Common.{ℕ, ℤ, pos, negsuc, slice_get, ◌≡◌, ◌≤◌, Bool, true, false, cond, ◌&&◌, nat_le, nat_eq, length, Option, Some, None, is_ok, unsigned_abs, refl, sym, arith}
use Rattle.std.specs.Prelude.{Ok, Err}
use Rattle.std.specs.List.{list_all}
use Rattle.std.proofs.lemmas.Bool.{true≢false, and_parts}
use Rattle.std.proofs.lemmas.Grind.{common_steps}
use Rattle.kind_core.specs.declared.kinds.Kind.{Kind}
use Rattle.kind_core.specs.declared.kinds.Kind.TheVariants.{Entry, Scale, Scrollbar}
use Rattle.kind_core.specs.declared.kinds.Attr.{Attr}
use Rattle.kind_core.specs.declared.kinds.Attr.TheVariants.{Text, Max, Real, View}
use Rattle.kind_core.specs.declared.values.Value as value
use Rattle.kind_core.specs.declared.values.Value.TheVariants.{Number, Words}
use Rattle.kind_core.specs.declared.values.AttrRefusal.{AttrRefusal}
use Rattle.kind_core.specs.declared.values.AttrRefusal.TheVariants.{NotOfKind, OutOfRange}
use Rattle.kind_core.specs.Attributes.{in_range}
use Rattle.kind_core.specs.Bytes.{is_text}
use Rattle.widget_model.specs.Rows.{Row, all_attrs, attr_of, attr_slot}
use Rattle.widget_model.specs.Fitting.{fits_attr, fits_table}
use Rattle.scene_model.specs.Values.{number_in, text_in}
use Rattle.widget_model.proofs.Hanging.{all_at}

-- a value is taken where its test holds
pub passed-test : (b : Bool) (refusal : AttrRefusal) → is_ok {T = Unit {0}} {E = AttrRefusal} (cond b (Ok tt) (Err refusal)) ≡ true → b ≡ true
passed-test true refusal h = refl
passed-test false refusal h = absurd (true≢false (sym h))

-- a number of a range is in it
ranged : (low high : ℕ) (n : ℤ) → is_ok {T = Unit {0}} {E = AttrRefusal} (cond (in_range (pos low) (pos high) n) (Ok tt) (Err (OutOfRange (pos low) (pos high)))) ≡ true → (low ≤ unsigned_abs n) × (unsigned_abs n ≤ high)
ranged low high (negsuc n) h = absurd (true≢false (sym h))
ranged low high (pos n) h =
    let parts = and_parts (nat_le low n) (nat_le n high) (passed-test (nat_le low n && nat_le n high) (OutOfRange (pos low) (pos high)) h) in
    let from : low ≤ n = grind (arith, common_steps, parts.0) in
    let to : n ≤ high = grind (arith, common_steps, parts.1) in
    (from, to)

pub max_fits : (kind : Kind) (o : Option value.Value) → fits_attr kind Max o ≡ true → unsigned_abs (number_in o) ≤ 10000
max_fits Scale (Some (Number n)) h = (ranged 1 10000 n h).1
max_fits _ None h = omega arith
max_fits _ (Some (Number n)) h = absurd (true≢false (sym h))
max_fits _ (Some (Words t)) h = omega arith

pub real_fits : (kind : Kind) (o : Option value.Value) → fits_attr kind Real o ≡ true → unsigned_abs (number_in o) ≤ 10000
real_fits Scrollbar (Some (Number n)) h = (ranged 1 10000 n h).1
real_fits _ None h = omega arith
real_fits _ (Some (Number n)) h = absurd (true≢false (sym h))
real_fits _ (Some (Words t)) h = omega arith

pub view_fits : (kind : Kind) (o : Option value.Value) → fits_attr kind View o ≡ true → unsigned_abs (number_in o) ≤ 10000
view_fits Scrollbar (Some (Number n)) h = (ranged 1 10000 n h).1
view_fits _ None h = omega arith
view_fits _ (Some (Number n)) h = absurd (true≢false (sym h))
view_fits _ (Some (Words t)) h = omega arith

pub real_starts : (o : Option value.Value) → fits_attr Scrollbar Real o ≡ true → 1 ≤ unsigned_abs (number_in o)
real_starts None h = absurd (true≢false (sym h))
real_starts (Some (Number n)) h = (ranged 1 10000 n h).0
real_starts (Some (Words t)) h = absurd (true≢false (sym h))

-- an Entry's text is a text
pub text_fits : (o : Option value.Value) → fits_attr Entry Text o ≡ true → is_text (text_in o) ≡ true
text_fits None h = absurd (true≢false (sym h))
text_fits (Some (Number n)) h = absurd (true≢false (sym h))
text_fits (Some (Words t)) h = passed-test (is_text t) NotOfKind h

-- each attribute of a row that fits the table
pub attr_fits : (row : Row) (attr : Attr) → slice_get all_attrs (attr_slot attr) ≡ Some attr → fits_table row ≡ true → fits_attr row.kind attr (attr_of row attr) ≡ true
attr_fits row attr there fits =
    all_at (λ (a : Attr). fits_attr row.kind a (attr_of row a)) all_attrs (attr_slot attr) attr (and_parts (nat_eq (length row.values) 13) (list_all (λ (a : Attr). fits_attr row.kind a (attr_of row a)) all_attrs) fits).1 there
