-- When values change.
use Rattle.std.proofs.Common.{◌≡◌, ℕ, ℤ, Bool, true, false, ◌||◌, nat_eq, List, [], ◌∷◌, length, get_or, Option, Some, None, Decides, refl, sym, ap, ◌∙◌}
use Rattle.std.proofs.Common.{get_or-set_other, ext_get_or, length-set}
use Rattle.std.specs.List.{list_any}
use Rattle.std.specs.Str.{bytes_eq}
use Rattle.std.specs.Option.{option_eq}
use Rattle.std.specs.Ordering.{int_eq}
use Rattle.std.proofs.lemmas.Bool.{true≢false, eqb-true, eqb-false, or_parts}
use Rattle.std.proofs.lemmas.Bool.Decides.{Decides-int_eq}
use Rattle.std.proofs.lemmas.Slice.Eq.{bytes_eq-Decides}
use Rattle.kind_core.specs.declared.kinds.Attr.{Attr}
use Rattle.kind_core.specs.declared.values.Value as value
use Rattle.kind_core.specs.declared.values.Value.TheVariants.{Number, Words}
use Rattle.widget_model.specs.Rows.{Row, attr_slot, attr_of, with_attr}
use Rattle.desk_model.specs.AttrOptions.{with_attrs}
use Rattle.desk_commands.specs.Lookup.{values_given}

pub value_Decides : (E : value.Value → value.Value → Bool) → ((n m : ℤ) → E (Number n) (Number m) ≡ int_eq n m) → ((t u : List ℕ) → E (Words t) (Words u) ≡ bytes_eq t u) → ((n : ℤ) (u : List ℕ) → E (Number n) (Words u) ≡ false) → ((t : List ℕ) (m : ℤ) → E (Words t) (Number m) ≡ false) → (a b : value.Value) → Decides (E a b) (a ≡ b)
value_Decides E numbers texts one other (Number n) (Number m) = (λ h. ap Number ((Decides-int_eq n m).0 (sym (numbers n m) ∙ h)), λ h. numbers n m ∙ (Decides-int_eq n m).1 (let same : n ≡ m = cc in same))
value_Decides E numbers texts one other (Words t) (Words u) = (λ h. ap Words ((bytes_eq-Decides t u).0 (sym (texts t u) ∙ h)), λ h. texts t u ∙ (bytes_eq-Decides t u).1 (let same : t ≡ u = cc in same))
value_Decides E numbers texts one other (Number n) (Words u) = (λ h. absurd (true≢false (sym h ∙ one n u)), λ h. absurd (cc))
value_Decides E numbers texts one other (Words t) (Number m) = (λ h. absurd (true≢false (sym h ∙ other t m)), λ h. absurd (cc))

pub option_Decides : {X : Type 0} (E : X → X → Bool) → ((a b : X) → Decides (E a b) (a ≡ b)) → (o p : Option X) → Decides (option_eq E o p) (o ≡ p)
option_Decides E each None None = (λ h. refl, λ h. refl)
option_Decides E each None (Some b) = (λ h. absurd (true≢false (sym h)), λ h. absurd (cc))
option_Decides E each (Some a) None = (λ h. absurd (true≢false (sym h)), λ h. absurd (cc))
option_Decides E each (Some a) (Some b) = (λ h. ap Some ((each a b).0 h), λ h. (each a b).1 (let same : a ≡ b = cc in same))

-- stage changes values alone, and keeps their number
pub same_but_values : (options : List (Attr × value.Value)) (row : Row) → with_attrs options row ≡ record row { values = (with_attrs options row).values }
same_but_values [] row = refl
same_but_values (o ∷ os) row = same_but_values os (with_attr o.0 o.1 row)

length-with_attrs : (options : List (Attr × value.Value)) (row : Row) → length (with_attrs options row).values ≡ length row.values
length-with_attrs [] row = refl
length-with_attrs (o ∷ os) row = length-with_attrs os (with_attr o.0 o.1 row) ∙ length-set row.values (attr_slot o.0) (Some o.1)

is_given : ℕ → Attr × value.Value → Bool
is_given k o = nat_eq (attr_slot o.0) k

-- a value that no option gives stays
untouched : (options : List (Attr × value.Value)) (row : Row) (k : ℕ) → list_any (is_given k) options ≡ false → get_or (with_attrs options row).values k None ≡ get_or row.values k None
unfolding is_given
untouched [] row k h = refl
untouched (o ∷ os) row k h =
    let parts = or_parts (nat_eq (attr_slot o.0) k) (list_any (is_given k) os) h in
    let other : k ≡ attr_slot o.0 → ⊥ = λ e. eqb-false (attr_slot o.0) k parts.0 (sym e) in
    untouched os (with_attr o.0 o.1 row) k parts.1 ∙ get_or-set_other row.values (attr_slot o.0) k (Some o.1) None other

-- one that is given is among those that were read
read_same : (options : List (Attr × value.Value)) (one other : Row) (k : ℕ) → values_given one options ≡ values_given other options → list_any (is_given k) options ≡ true → get_or one.values k None ≡ get_or other.values k None
unfolding is_given
read_same [] one other k same given = absurd (true≢false (sym given))
read_same (o ∷ os) one other k same given = by (read_same os one other k) (nat_eq (attr_slot o.0) k) refl given same
  where
    by : (values_given one os ≡ values_given other os → list_any (is_given k) os ≡ true → get_or one.values k None ≡ get_or other.values k None) → (b : Bool) → nat_eq (attr_slot o.0) k ≡ b → (b || list_any (is_given k) os) ≡ true → attr_of one o.0 ∷ values_given one os ≡ attr_of other o.0 ∷ values_given other os → get_or one.values k None ≡ get_or other.values k None
    by rest true q h e =
        let here : attr_of one o.0 ≡ attr_of other o.0 = cc in
        let place = eqb-true (attr_slot o.0) k q in
        rw (← place) here
    by rest false q h e = let later : values_given one os ≡ values_given other os = cc in rest later h

pub with_attrs-same : (options : List (Attr × value.Value)) (row : Row) → values_given (with_attrs options row) options ≡ values_given row options → with_attrs options row ≡ row
with_attrs-same options row same =
    same_but_values options row
    ∙ ap (λ (values : List (Option value.Value)). record row { values = values }) (ext_get_or None (with_attrs options row).values row.values (length-with_attrs options row) (λ k short. by k (list_any (is_given k) options) refl))
  where
    by : (k : ℕ) (b : Bool) → list_any (is_given k) options ≡ b → get_or (with_attrs options row).values k None ≡ get_or row.values k None
    by k true q = read_same options (with_attrs options row) row k same q
    by k false q = untouched options row k q
