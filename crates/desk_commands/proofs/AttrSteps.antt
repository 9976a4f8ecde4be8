-- The options of `set`: which of them are refused, and what they make of a row.
use Rattle.std.proofs.Common.{◌≡◌, ℕ, zero, suc, ◌+◌, ◌<◌, List, [], ◌∷◌, ◌++◌, length, get_or, take, map, Option, Some, None, Err, refl, sym, ap, ◌∙◌, arith}
use Rattle.std.proofs.lemmas.List.{take_more}
use Rattle.std.specs.Option.{option_map}
use Rattle.kind_core.specs.declared.kinds.Kind.{Kind}
use Rattle.kind_core.specs.declared.kinds.Attr.{Attr}
use Rattle.kind_core.specs.declared.values.Value as value
use Rattle.kind_core.specs.declared.values.AttrRefusal.{AttrRefusal}
use Rattle.kind_core.specs.declared.values.AttrRefusal.TheVariants.{NotOfKind, OutOfRange}
use Rattle.kind_core.specs.Attributes.{domain_of, judged}
use Rattle.cmd_words.specs.declared.replies.Refusal.{Refusal}
use Rattle.widget_model.specs.Rows.{Row, with_attr}
use Rattle.widget_model.specs.Nodes.{node_of}
use Rattle.desk_model.specs.Refusals.{first_refusal}
use Rattle.desk_model.specs.AttrOptions.{told, attr_refusal, with_attrs}
use Rattle.widget_model.specs.Widgets.{Widgets, edited}
use Rattle.desk_commands.proofs.Edits.{edited-edited}

-- where nothing is refused, no option is
pub first_refusal-none : {X : Type 0} (f : X → Option Refusal) (xs : List X) (i : ℕ) (d : X) → i < length xs → first_refusal (map f xs) ≡ None → f (get_or xs i d) ≡ None
first_refusal-none f [] i d within none = absurd (omega arith)
first_refusal-none f (x ∷ xs) i d within none = by i within (λ (j : ℕ) (short : j < length xs) (rest : first_refusal (map f xs) ≡ None). first_refusal-none f xs j d short rest) (f x) refl none
  where
    by : (i : ℕ) → i < suc (length xs) → ((j : ℕ) → j < length xs → first_refusal (map f xs) ≡ None → f (get_or xs j d) ≡ None) → (o : Option Refusal) → f x ≡ o → first_refusal (o ∷ map f xs) ≡ None → f (get_or (x ∷ xs) i d) ≡ None
    by i short rest (Some refusal) p h = absurd (cc)
    by zero short rest None p h = p
    by (suc i) short rest None p h = rest i (omega arith) h

-- a value that the table takes isn't refused
pub never_refused : (o : Option Row) (kind : Kind) (option : Attr × value.Value) (refusal : AttrRefusal) → option_map (λ (row : Row). row.kind) o ≡ Some kind → option_map (λ (row : Row). judged (domain_of row.kind option.0) option.1) o ≡ Some (Err refusal) → attr_refusal kind option ≡ None → ⊥
never_refused None kind option refusal has answer none = absurd (cc)
never_refused (Some row) kind option refusal has answer none =
    let same : row.kind ≡ kind = cc in
    let err : judged (domain_of row.kind option.0) option.1 ≡ Err refusal = cc in
    by refusal (sym (ap told (ap (λ (k : Kind). judged (domain_of k option.0) option.1) (sym same) ∙ err)) ∙ none)
  where
    by : (refusal : AttrRefusal) → told (Err refusal) ≡ None → ⊥
    by NotOfKind h = absurd (cc)
    by (OutOfRange least greatest) h = absurd (cc)

with_attrs-push : (xs : List (Attr × value.Value)) (x : Attr × value.Value) (row : Row) → with_attrs (xs ++ x ∷ []) row ≡ with_attr x.0 x.1 (with_attrs xs row)
with_attrs-push [] x row = refl
with_attrs-push (o ∷ os) x row = with_attrs-push os x (with_attr o.0 o.1 row)

-- one more option is set
pub edited-with_attrs_more : (w : Widgets) (id : ℕ) (xs : List (Attr × value.Value)) (i : ℕ) (d : Attr × value.Value) → i < length xs → edited id (with_attr (get_or xs i d).0 (get_or xs i d).1) (edited id (with_attrs (take i xs)) w) ≡ edited id (with_attrs (take (i + 1) xs)) w
edited-with_attrs_more w id xs i d within =
    edited-edited w id (with_attrs (take i xs)) (with_attr (get_or xs i d).0 (get_or xs i d).1) (with_attrs (take (i + 1) xs))
    (λ row. sym (ap (λ (os : List (Attr × value.Value)). with_attrs os row) (take_more xs i d within) ∙ with_attrs-push (take i xs) (get_or xs i d) row))

pub node_of-with_attrs : (xs : List (Attr × value.Value)) (row : Row) → node_of (with_attrs xs row) ≡ node_of row
node_of-with_attrs [] row = refl
node_of-with_attrs (o ∷ os) row = node_of-with_attrs os (with_attr o.0 o.1 row)
