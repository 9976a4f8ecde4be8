use Rattle.std.proofs.Common.{◌≡◌, Some, None, is_some, true, refl, sym, ap, ◌∙◌}
use Rattle.std.specs.Option.{option_map}
use Rattle.kind_core.specs.declared.kinds.Kind.{Kind}
use Rattle.cmd_words.specs.declared.replies.Reply.TheVariants.{Done, Refused}
use Rattle.cmd_words.specs.declared.replies.Refusal.TheVariants.{NoSuchName}
use Rattle.widget_model.specs.Rows.{Row}
use Rattle.desk_model.specs.AttrOptions.{attrs_refusal, with_attrs}
use Rattle.desk_model.specs.WidgetCommands.{step_set}
use Rattle.widget_model.specs.Widgets.{rows_of}
use Rattle.desk_commands.specs.Effects.{with_rows}
use Rattle.desk_commands.proofs.Effects.{refused_did, done_did}
use Rattle.desk_commands.proofs.AttrSteps.{node_of-with_attrs}
use Rattle.desk_commands.proofs.WidgetSteps.{step_set-by}
use Rattle.std.proofs.lemmas.Bool.{true≢false}
use Rattle.widget_model.specs.Widgets.{Widgets, row_at}
use Rattle.desk_commands.specs.Lookup.{values_given}
use Rattle.tree_core.proofs.ForestLemmas.{live-with_row}
use Rattle.desk_commands.proofs.AttrChanges.{with_attrs-same}
use Rattle.desk_commands.proofs.Changes.{tells_read}
use Rattle.desk_commands.proofs.widgets.set.Goals as goal

pub returns-in-Err-clause-did : goal.returns-in-Err-clause-did
returns-in-Err-clause-did c =
    refused_did (λ desk. step_set desk c.args.client c.args.name.now c.args.options.now) c.args.tree.now c.refused.result.reply NoSuchName (c.refused.ensures.reply ∙ ap Refused c.in-Err.ensures.found.0)
    (λ desk. step_set-by (with_rows (rows_of c.args.tree.now) desk) c.args.client c.args.name.now c.args.options.now None c.in-Err.ensures.found.1)

pub returns-in-Some-clause-did : goal.returns-in-Some-clause-did
returns-in-Some-clause-did c =
    let found = c.in-Ok.ensures.found in
    let wrong : attrs_refusal found.row.kind c.args.options.now ≡ Some c.in-Some.refusal = ap (λ (kind : Kind). attrs_refusal kind c.args.options.now) found.has ∙ sym c.in-Some.ensures in
    refused_did (λ desk. step_set desk c.args.client c.args.name.now c.args.options.now) c.args.tree.now _ c.in-Some.refusal c.refused-in-Some.ensures.reply
    (λ desk. step_set-by (with_rows (rows_of c.args.tree.now) desk) c.args.client c.args.name.now c.args.options.now (Some found.row) found.named ∙ rw wrong refl)

pub set_attrs-requires-clause-kind : goal.set_attrs-requires-clause-kind
set_attrs-requires-clause-kind c =
    let found = c.in-Ok.ensures.found in
    ap (option_map (λ (row : Row). row.kind)) found.there ∙ ap Some found.has

pub returns-clause-did : goal.returns-clause-did
returns-clause-did c =
    let found = c.in-Ok.ensures.found in
    let right : attrs_refusal found.row.kind c.args.options.now ≡ None = ap (λ (kind : Kind). attrs_refusal kind c.args.options.now) found.has ∙ sym c.in-None.ensures in
    done_did (λ desk. step_set desk c.args.client c.args.name.now c.args.options.now) c.args.tree.now c.set_attrs.new.tree c.args.client c.args.name.now c.in-Ok.found.id.key (with_attrs c.args.options.now) c.done.result.reply Done c.done.ensures.reply c.set_attrs.ensures.set c.find.ensures.valid found.id (node_of-with_attrs c.args.options.now)
    (λ desk. step_set-by (with_rows (rows_of c.args.tree.now) desk) c.args.client c.args.name.now c.args.options.now (Some found.row) found.named ∙ rw right refl)

pub values_of-after-requires-clause-live : goal.values_of-after-requires-clause-live
values_of-after-requires-clause-live c =
    let found = c.in-Ok.ensures.found in
    let there : is_some (row_at c.args.tree.now.entries c.in-Ok.found.id.key) ≡ true = ap is_some found.there in
    ap (λ (w : Widgets). is_some (row_at w.entries c.in-Ok.found.id.key)) c.set_attrs.ensures.set ∙ live-with_row c.args.tree.now.entries c.in-Ok.found.id.key (with_attrs c.args.options.now) c.in-Ok.found.id.key there

pub returns-clause-tells : goal.returns-clause-tells
returns-clause-tells c =
    let options = c.args.options.now in
    let before = c.values_of-before.result.items in
    let after = c.values_of-after.result.items in
    let is = c.same_values.ensures in
    tells_read (λ (row : Row). values_given row options) c.args.tree.now c.set_attrs.new.tree c.args.client c.args.name.now c.in-Ok.found.id.key c.in-Ok.found.kind (with_attrs options) before after c.same_values.result c.done.result.changed c.find.ensures.valid c.in-Ok.ensures.found c.set_attrs.ensures.set c.values_of-before.ensures c.values_of-after.ensures c.done.ensures.changed
    (λ h. sym c.as_slice.ensures.value ∙ is.0 h ∙ c.as_slice-2.ensures.value)
    (λ h same. true≢false (sym (is.1 (c.as_slice.ensures.value ∙ same ∙ sym c.as_slice-2.ensures.value)) ∙ h))
    (with_attrs-same options)
