use Rattle.std.proofs.Common.{◌≡◌, Some, None, refl, sym, ap, ◌∙◌}
use Rattle.std.specs.Option.{option_map}
use Rattle.cmd_words.specs.declared.replies.Reply.TheVariants.{Refused}
use Rattle.cmd_words.specs.declared.replies.Reply.{Reply}
use Rattle.cmd_words.specs.declared.replies.Refusal.TheVariants.{NoSuchName, WrongKind}
use Rattle.widget_model.specs.Rows.{Row, attr_of}
use Rattle.desk_model.specs.WidgetCommands.{step_get}
use Rattle.widget_model.specs.Widgets.{rows_of}
use Rattle.desk_commands.specs.Effects.{with_rows}
use Rattle.desk_commands.proofs.Effects.{same_did, refused_did}
use Rattle.desk_commands.proofs.WidgetSteps.{step_get-by}
use Rattle.desk_commands.proofs.widgets.get.Goals as goal

pub returns-in-Err-clause-did : goal.returns-in-Err-clause-did
returns-in-Err-clause-did c =
    refused_did (λ desk. step_get desk c.args.client c.args.name.now c.args.attr) c.args.tree.now c.refused.result.reply NoSuchName (c.refused.ensures.reply ∙ ap Refused c.in-Err.ensures.found.0)
    (λ desk. step_get-by (with_rows (rows_of c.args.tree.now) desk) c.args.client c.args.name.now c.args.attr None c.in-Err.ensures.found.1)

pub returns-in-Some-clause-did : goal.returns-in-Some-clause-did
returns-in-Some-clause-did c =
    let found = c.in-Ok.ensures.found in
    let value : Some (attr_of found.row c.args.attr) ≡ Some (Some c.in-Some.value) = ap (option_map (λ (row : Row). attr_of row c.args.attr)) (sym found.there) ∙ c.in-Some.ensures.value in
    let read : attr_of found.row c.args.attr ≡ Some c.in-Some.value = cc in
    same_did (λ desk. step_get desk c.args.client c.args.name.now c.args.attr) c.args.tree.now c.reply_with.result
    (λ desk. ap (λ (r : Reply). (r, with_rows (rows_of c.args.tree.now) desk)) c.reply_with.ensures ∙ sym (step_get-by (with_rows (rows_of c.args.tree.now) desk) c.args.client c.args.name.now c.args.attr (Some found.row) found.named ∙ rw read refl))

pub returns-in-None-clause-did : goal.returns-in-None-clause-did
returns-in-None-clause-did c =
    let found = c.in-Ok.ensures.found in
    let value : Some (attr_of found.row c.args.attr) ≡ Some None = ap (option_map (λ (row : Row). attr_of row c.args.attr)) (sym found.there) ∙ c.in-None.ensures.value in
    let read : attr_of found.row c.args.attr ≡ None = cc in
    refused_did (λ desk. step_get desk c.args.client c.args.name.now c.args.attr) c.args.tree.now _ WrongKind c.refused-in-None.ensures.reply
    (λ desk. step_get-by (with_rows (rows_of c.args.tree.now) desk) c.args.client c.args.name.now c.args.attr (Some found.row) found.named ∙ rw read refl)
