use Rattle.std.proofs.Common.{◌≡◌, ◌||◌, Some, None, true, false, refl, sym, ap, ◌∙◌, subst}
use Rattle.std.proofs.lemmas.Bool.{or_right}
use Rattle.std.specs.Option.{option_map}
use Rattle.cmd_words.specs.declared.replies.Reply.TheVariants.{Refused}
use Rattle.cmd_words.specs.declared.replies.Refusal.TheVariants as told
use Rattle.widget_model.specs.Trees.{is_used}
use Rattle.desk_model.specs.Desk.{is_open}
use Rattle.desk_model.specs.WidgetCommands.{step_drop}
use Rattle.widget_model.specs.Widgets.{Widgets, rows_of}
use Rattle.desk_commands.specs.Parts.{desk_of}
use Rattle.desk_commands.specs.Effects.{DidAll}
use Rattle.desk_commands.proofs.WindowSteps.{is_open-holds_key, refused_all}
use Rattle.desk_commands.proofs.DropSteps.{step_drop-by, dropped_all, dropped_tells}
use Rattle.desk_commands.proofs.widgets.drop_widget.Goals as goal

pub returns-in-Err-clause-did : goal.returns-in-Err-clause-did
returns-in-Err-clause-did c =
    refused_all (λ desk. step_drop desk c.args.client c.args.name.now) c.args.tree.now c.args.windows.now _ told.NoSuchName c.requires (c.refused.ensures.reply ∙ ap Refused c.in-Err.ensures.found.0)
    (λ stage. step_drop-by (desk_of stage c.args.tree.now c.args.windows.now) c.args.client c.args.name.now None (is_open (desk_of stage c.args.tree.now c.args.windows.now) c.args.client c.args.name.now) c.in-Err.ensures.found.1 refl)

pub returns-then-holds-clause-did : goal.returns-then-holds-clause-did
returns-then-holds-clause-did c =
    let found = c.in-Ok.ensures.found in
    let opened = is_open-holds_key c.args.tree.now c.args.client c.args.name.now c.in-Ok.found.id.key c.in-Ok.found.kind c.args.windows.now c.requires.tree.rows.names found c.requires.windows ∙ sym c.if-holds.ensures.found in
    let both : (is_used (rows_of c.args.tree.now) found.row || true) ≡ true = or_right _ _ refl in
    refused_all (λ desk. step_drop desk c.args.client c.args.name.now) c.args.tree.now c.args.windows.now _ told.InUse c.requires c.refused-then-holds.ensures.reply
    (λ stage. step_drop-by (desk_of stage c.args.tree.now c.args.windows.now) c.args.client c.args.name.now (Some found.row) true found.named opened ∙ rw both refl)

pub returns-in-Ok-remove-clause-did : goal.returns-in-Ok-remove-clause-did
returns-in-Ok-remove-clause-did c =
    let found = c.in-Ok.ensures.found in
    let some : Some (is_used (rows_of c.args.tree.now) found.row) ≡ Some false = ap (option_map (is_used (rows_of c.args.tree.now))) (sym found.there) ∙ c.in-Ok-remove.ensures.answer in
    let unused : is_used (rows_of c.args.tree.now) found.row ≡ false = cc in
    dropped_all c.args.tree.now c.remove.new.self c.args.client c.args.name.now c.in-Ok.found.id.key c.in-Ok.found.kind c.args.windows.now c.done.result.reply c.requires found (sym c.if-holds.ensures.found) unused c.in-Ok-remove.ensures.ok c.in-Ok-remove.ensures.valid c.done.ensures.reply

pub returns-in-Ok-remove-clause-tells : goal.returns-in-Ok-remove-clause-tells
returns-in-Ok-remove-clause-tells c =
    dropped_tells c.args.tree.now c.remove.new.self c.args.client c.args.name.now c.in-Ok.found.id.key c.in-Ok.found.kind c.args.windows.now c.done.result.changed c.requires.tree c.in-Ok.ensures.found c.in-Ok-remove.ensures.ok c.done.ensures.changed

pub returns-in-Err-remove-clause-did : goal.returns-in-Err-remove-clause-did
returns-in-Err-remove-clause-did c =
    let found = c.in-Ok.ensures.found in
    let some : Some (is_used (rows_of c.args.tree.now) found.row) ≡ Some true = ap (option_map (is_used (rows_of c.args.tree.now))) (sym found.there) ∙ c.in-Err-remove.ensures.answer in
    let used : is_used (rows_of c.args.tree.now) found.row ≡ true = cc in
    let shut = is_open-holds_key c.args.tree.now c.args.client c.args.name.now c.in-Ok.found.id.key c.in-Ok.found.kind c.args.windows.now c.requires.tree.rows.names found c.requires.windows ∙ sym c.if-holds.ensures.found in
    let P : Widgets → Type 0 = λ w. DidAll (λ desk. step_drop desk c.args.client c.args.name.now) c.args.tree.now w c.args.windows.now c.args.windows.now c.refused-in-Err-remove.result.reply in
    subst P (sym c.in-Err-remove.ensures.err)
    (refused_all (λ desk. step_drop desk c.args.client c.args.name.now) c.args.tree.now c.args.windows.now _ told.InUse c.requires c.refused-in-Err-remove.ensures.reply
    (λ stage. step_drop-by (desk_of stage c.args.tree.now c.args.windows.now) c.args.client c.args.name.now (Some found.row) false found.named shut ∙ rw used refl))
