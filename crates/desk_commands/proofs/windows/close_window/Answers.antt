use Rattle.std.proofs.Common.{◌≡◌, ℕ, List, Some, true, false, refl, sym, ap, ◌∙◌, subst, Option, [], ◌∷◌, not}
use Rattle.kind_core.specs.declared.kinds.Kind.TheVariants.{Window}
use Rattle.cmd_words.specs.declared.replies.Refusal.{Refusal}
use Rattle.cmd_words.specs.declared.replies.Refusal.TheVariants.{NotOpen}
use Rattle.desk_model.specs.Windows.{close_effect, step_close}
use Rattle.desk_model.specs.Desk.{is_open}
use Rattle.desk_model.specs.Refusals.{when, outcome}
use Rattle.widget_model.specs.Kinds.{is_window_kind}
use Rattle.desk_commands.specs.Parts.{desk_of}
use Rattle.desk_commands.specs.Effects.{DidAll}
use Rattle.desk_commands.proofs.WindowSteps.{window-kind, is_open-holds_key, refused_all}
use Rattle.desk_commands.proofs.WindowOrder.{step_close-by, closed_all, closed_tells}
use Rattle.desk_commands.proofs.windows.close_window.Goals as goal

pub returns-in-Err-clause-did : goal.returns-in-Err-clause-did
unfolding step_close
returns-in-Err-clause-did c =
    refused_all (λ desk. step_close desk c.args.client c.args.name.now) c.args.tree.now c.args.windows.now c.refused.result.reply c.in-Err.refusal c.requires c.refused.ensures.reply
    (λ stage. let desk = desk_of stage c.args.tree.now c.args.windows.now in
    ap (λ (r : Option Refusal). outcome desk r (close_effect desk c.args.client c.args.name.now)) (c.in-Err.ensures.found is_window_kind (when (not (is_open desk c.args.client c.args.name.now)) NotOpen ∷ []) window-kind))

pub returns-then-not-remove-clause-did : goal.returns-then-not-remove-clause-did
returns-then-not-remove-clause-did c =
    let found = c.in-Ok.ensures.found in
    let right : is_window_kind found.row.kind ≡ true = ap is_window_kind found.has in
    let shut = is_open-holds_key c.args.tree.now c.args.client c.args.name.now c.in-Ok.id.key Window c.args.windows.now c.requires.tree.rows.names found c.requires.windows ∙ sym c.if-not-remove.ensures.found in
    subst (λ (keys : List ℕ). DidAll (λ desk. step_close desk c.args.client c.args.name.now) c.args.tree.now c.args.tree.now c.args.windows.now keys c.refused-then-not-remove.result.reply) (sym c.if-not-remove.ensures.unchanged)
    (refused_all (λ desk. step_close desk c.args.client c.args.name.now) c.args.tree.now c.args.windows.now c.refused-then-not-remove.result.reply NotOpen c.requires c.refused-then-not-remove.ensures.reply
    (λ stage. step_close-by (desk_of stage c.args.tree.now c.args.windows.now) c.args.client c.args.name.now (Some found.row) false found.named shut ∙ rw right refl))

pub returns-clause-tells : goal.returns-clause-tells
returns-clause-tells c =
    (λ told same. closed_tells c.args.tree.now c.args.windows.now c.remove.new.self c.in-Ok.id.key c.requires.stack (sym c.if-not-remove.ensures.found) c.if-not-remove.ensures.others same.1, λ differ. c.done.ensures.changed)

pub returns-clause-did : goal.returns-clause-did
returns-clause-did c =
    closed_all c.args.tree.now c.args.client c.args.name.now c.in-Ok.id.key Window c.args.windows.now c.remove.new.self c.done.result.reply c.requires c.in-Ok.ensures.found refl (sym c.if-not-remove.ensures.found) c.if-not-remove.ensures.others c.if-not-remove.ensures.valid c.done.ensures.reply
