use Rattle.std.proofs.Common.{◌≡◌, ℕ, List, Some, true, false, refl, sym, ap, ◌∙◌, subst, Option, [], ◌∷◌, not}
use Rattle.kind_core.specs.declared.kinds.Kind.TheVariants.{Window}
use Rattle.cmd_words.specs.declared.replies.Refusal.{Refusal}
use Rattle.cmd_words.specs.declared.replies.Refusal.TheVariants.{NotOpen}
use Rattle.desk_model.specs.Windows.{top_effect, step_top}
use Rattle.desk_model.specs.Desk.{is_open}
use Rattle.desk_model.specs.Refusals.{when, outcome}
use Rattle.widget_model.specs.Kinds.{is_window_kind}
use Rattle.desk_commands.specs.Parts.{desk_of}
use Rattle.desk_commands.specs.Effects.{DidAll}
use Rattle.desk_commands.proofs.WindowSteps.{window-kind, is_open-holds_key, refused_all}
use Rattle.desk_commands.proofs.WindowOrder.{step_top-by, raised_all, raised_tells}
use Rattle.desk_commands.proofs.windows.top_window.Goals as goal

pub returns-in-Err-clause-did : goal.returns-in-Err-clause-did
unfolding step_top
returns-in-Err-clause-did c =
    refused_all (λ desk. step_top desk c.args.client c.args.name.now) c.args.tree.now c.args.windows.now c.refused.result.reply c.in-Err.refusal c.requires c.refused.ensures.reply
    (λ stage. let desk = desk_of stage c.args.tree.now c.args.windows.now in
    ap (λ (r : Option Refusal). outcome desk r (top_effect desk c.args.client c.args.name.now)) (c.in-Err.ensures.found is_window_kind (when (not (is_open desk c.args.client c.args.name.now)) NotOpen ∷ []) window-kind))

pub returns-then-not-raise-clause-did : goal.returns-then-not-raise-clause-did
returns-then-not-raise-clause-did c =
    let found = c.in-Ok.ensures.found in
    let right : is_window_kind found.row.kind ≡ true = ap is_window_kind found.has in
    let shut = is_open-holds_key c.args.tree.now c.args.client c.args.name.now c.in-Ok.id.key Window c.args.windows.now c.requires.tree.rows.names found c.requires.windows ∙ sym c.if-not-raise.ensures.found in
    subst (λ (keys : List ℕ). DidAll (λ desk. step_top desk c.args.client c.args.name.now) c.args.tree.now c.args.tree.now c.args.windows.now keys c.refused-then-not-raise.result.reply) (sym c.if-not-raise.ensures.unchanged)
    (refused_all (λ desk. step_top desk c.args.client c.args.name.now) c.args.tree.now c.args.windows.now c.refused-then-not-raise.result.reply NotOpen c.requires c.refused-then-not-raise.ensures.reply
    (λ stage. step_top-by (desk_of stage c.args.tree.now c.args.windows.now) c.args.client c.args.name.now (Some found.row) false found.named shut ∙ rw right refl))

pub returns-clause-tells : goal.returns-clause-tells
returns-clause-tells c =
    raised_tells c.args.tree.now c.args.client c.args.name.now c.in-Ok.id.key Window c.args.windows.now c.raise.new.self c.is_on_top-on_top.result c.done.result.changed c.requires c.in-Ok.ensures.found refl c.is_on_top-on_top.ensures c.done.ensures.changed c.if-not-raise.ensures.raised

pub returns-clause-did : goal.returns-clause-did
returns-clause-did c =
    raised_all c.args.tree.now c.args.client c.args.name.now c.in-Ok.id.key Window c.args.windows.now c.raise.new.self c.done.result.reply c.requires c.in-Ok.ensures.found refl (sym c.if-not-raise.ensures.found) c.if-not-raise.ensures.raised c.if-not-raise.ensures.valid c.done.ensures.reply
