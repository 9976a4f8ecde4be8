-- The options of `set`: each is checked against the kind's table, from left to right; then each takes effect in
-- that order, so that of a repeated attribute the last value stays.
use Rattle.std.specs.Prelude.{List, [], ◌∷◌, Option, Some, None, Result, Ok, Err, map}
use Rattle.kind_core.specs.declared.kinds.Kind.{Kind}
use Rattle.kind_core.specs.declared.kinds.Attr.{Attr}
use Rattle.kind_core.specs.declared.values.Value as value
use Rattle.kind_core.specs.declared.values.AttrRefusal.{AttrRefusal}
use Rattle.kind_core.specs.declared.values.AttrRefusal.TheVariants.{NotOfKind, OutOfRange}
use Rattle.kind_core.specs.Attributes.{domain_of, judged}
use Rattle.cmd_words.specs.declared.replies.Refusal.{Refusal}
use Rattle.cmd_words.specs.declared.replies.Refusal.TheVariants.{WrongKind, BadValue}
use Rattle.widget_model.specs.Rows.{Row, with_attr}
use Rattle.desk_model.specs.Refusals.{first_refusal}

-- how a client is told what the table says of a value
abbrev pub told : Result (Unit {0}) AttrRefusal → Option Refusal
told (Ok _) = None
told (Err NotOfKind) = Some WrongKind
told (Err (OutOfRange least greatest)) = Some (BadValue least greatest)

abbrev pub attr_refusal : Kind → Attr × value.Value → Option Refusal
attr_refusal kind option = told (judged (domain_of kind option.0) option.1)

abbrev pub attrs_refusal : Kind → List (Attr × value.Value) → Option Refusal
attrs_refusal kind options = first_refusal (map (attr_refusal kind) options)

abbrev pub with_attrs : List (Attr × value.Value) → Row → Row
with_attrs [] row = row
with_attrs (option ∷ options) row = with_attrs options (with_attr option.0 option.1 row)
