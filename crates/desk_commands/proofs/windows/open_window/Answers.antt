use Rattle.std.proofs.Common.{◌≡◌, length, Some, true, refl, sym, ap, ◌∙◌, arith, Option, [], ◌∷◌}
use Rattle.kind_core.specs.declared.kinds.Kind.TheVariants.{Window}
use Rattle.cmd_words.specs.declared.replies.Refusal.{Refusal}
use Rattle.cmd_words.specs.declared.replies.Refusal.TheVariants.{AlreadyOpen}
use Rattle.desk_model.specs.Windows.{open_effect, step_open}
use Rattle.desk_model.specs.Refusals.{when, outcome}
use Rattle.widget_model.specs.Kinds.{is_window_kind}
use Rattle.desk_model.specs.Desk.{is_open}
use Rattle.desk_commands.specs.Parts.{desk_of}
use Rattle.desk_commands.proofs.WindowSteps.{window-kind, room_to_open, is_open-holds_key, found-window, step_open-by, refused_all, opened_all}
use Rattle.desk_commands.proofs.windows.open_window.Goals as goal

pub returns-in-Err-clause-did : goal.returns-in-Err-clause-did
unfolding step_open
returns-in-Err-clause-did c =
    refused_all (λ desk. step_open desk c.args.client c.args.name.now) c.args.tree.now c.args.windows.now c.refused.result.reply c.in-Err.refusal c.requires c.refused.ensures.reply
    (λ stage. let desk = desk_of stage c.args.tree.now c.args.windows.now in
    ap (λ (r : Option Refusal). outcome desk r (open_effect desk c.args.client c.args.name.now)) (c.in-Err.ensures.found is_window_kind (when (is_open desk c.args.client c.args.name.now) AlreadyOpen ∷ []) window-kind))

pub returns-then-holds-clause-did : goal.returns-then-holds-clause-did
returns-then-holds-clause-did c =
    let found = c.in-Ok.ensures.found in
    let right : is_window_kind found.row.kind ≡ true = ap is_window_kind found.has in
    let opened = is_open-holds_key c.args.tree.now c.args.client c.args.name.now c.in-Ok.id.key Window c.args.windows.now c.requires.tree.rows.names found c.requires.windows ∙ sym c.if-holds.ensures.found in
    refused_all (λ desk. step_open desk c.args.client c.args.name.now) c.args.tree.now c.args.windows.now c.refused-then-holds.result.reply AlreadyOpen c.requires c.refused-then-holds.ensures.reply
    (λ stage. step_open-by (desk_of stage c.args.tree.now c.args.windows.now) c.args.client c.args.name.now (Some found.row) true found.named opened ∙ rw right refl)

pub unreachable-requires : goal.unreachable-requires
unreachable-requires c =
    let window = found-window c.args.tree.now c.args.client c.args.name.now c.in-Ok.id.key Window c.in-Ok.ensures.found refl in
    let room = room_to_open c.args.tree.now c.args.windows.now c.in-Ok.id.key c.requires window (sym c.if-holds.ensures.found) in
    let full : length c.args.windows.now ≡ 128 = c.in-Err-push_top.ensures.full.0 refl in
    omega arith

pub returns-clause-did : goal.returns-clause-did
returns-clause-did c =
    opened_all c.args.tree.now c.args.client c.args.name.now c.in-Ok.id.key Window c.args.windows.now c.push_top.new.self c.done.result.reply c.requires c.in-Ok.ensures.found refl (sym c.if-holds.ensures.found) c.in-Ok-push_top.ensures.ok c.in-Ok-push_top.ensures.valid c.done.ensures.reply
