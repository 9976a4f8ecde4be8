-- The options of `set`: those that aren't refused leave a row that fits.
use Rattle.std.proofs.Common.{◌≡◌, true, List, [], ◌∷◌, map, None, Result, Ok, Err, refl, ◌∙◌}
use Rattle.kind_core.specs.declared.kinds.Attr.{Attr}
use Rattle.kind_core.specs.declared.values.Value as value
use Rattle.kind_core.specs.declared.values.AttrRefusal.{AttrRefusal}
use Rattle.kind_core.specs.declared.values.AttrRefusal.TheVariants.{NotOfKind, OutOfRange}
use Rattle.kind_core.specs.Attributes.{domain_of, judged}
use Rattle.widget_model.specs.Rows.{Row, with_attr}
use Rattle.widget_model.specs.Fitting.{is_fit}
use Rattle.widget_model.proofs.Fit.{is_fit-with_attr}
use Rattle.desk_model.specs.AttrOptions.{told, attr_refusal, attrs_refusal, with_attrs}
use Rattle.desk_model.proofs.Refusals.{passed}

-- An option that isn't refused is one that the table takes.
told-none : (answer : Result (Unit {0}) AttrRefusal) → told answer ≡ None → answer ≡ Ok tt
told-none (Ok done) h = refl
told-none (Err NotOfKind) h = absurd (cc)
told-none (Err (OutOfRange least greatest)) h = absurd (cc)

pub is_fit-with_attrs : (options : List (Attr × value.Value)) (row : Row) → attrs_refusal row.kind options ≡ None → is_fit row ≡ true → is_fit (with_attrs options row) ≡ true
is_fit-with_attrs [] row none h = h
is_fit-with_attrs (option ∷ options) row none h =
    let parts = passed (attr_refusal row.kind option) (map (attr_refusal row.kind) options) none in
    is_fit-with_attrs options (with_attr option.0 option.1 row) parts.1 (is_fit-with_attr row option.0 option.1 (told-none (judged (domain_of row.kind option.0) option.1) parts.0) h)

-- what each setting leaves, all leave
pub same-with_attrs : {X : Type 0} (of : Row → X) → ((attr : Attr) (v : value.Value) (row : Row) → of (with_attr attr v row) ≡ of row) → (options : List (Attr × value.Value)) (row : Row) → of (with_attrs options row) ≡ of row
same-with_attrs of each [] row = refl
same-with_attrs of each (option ∷ options) row = same-with_attrs of each options (with_attr option.0 option.1 row) ∙ each option.0 option.1 row
