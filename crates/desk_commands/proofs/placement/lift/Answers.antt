use Rattle.std.proofs.Common.{Some, None, refl, sym, ◌∙◌, ap}
use Rattle.std.proofs.lemmas.Bool.{true≢false}
use Rattle.cmd_words.specs.declared.replies.Reply.TheVariants.{Done, Refused}
use Rattle.cmd_words.specs.declared.replies.Refusal.TheVariants.{NoSuchName, NotHere}
use Rattle.widget_model.specs.Rows.{with_attached}
use Rattle.widget_model.specs.Named.{row_named}
use Rattle.desk_model.specs.Placement.{step_lift}
use Rattle.widget_model.specs.Widgets.{rows_of}
use Rattle.desk_commands.specs.Effects.{with_rows}
use Rattle.desk_commands.proofs.Effects.{refused_did, done_did}
use Rattle.desk_commands.proofs.LiftSteps.{step_lift-by, hangs_here, hangs_elsewhere, lift_differs}
use Rattle.desk_commands.proofs.Changes.{tells_edit}
use Rattle.desk_commands.proofs.placement.lift.Goals as goal

pub returns-in-Err-clause-did : goal.returns-in-Err-clause-did
returns-in-Err-clause-did c =
    refused_did (λ desk. step_lift desk c.args.client c.args.parent.now c.args.child.now) c.args.tree.now _ NoSuchName (c.refused.ensures.reply ∙ ap Refused c.in-Err.ensures.found.0)
    (λ desk. step_lift-by (with_rows (rows_of c.args.tree.now) desk) c.args.client c.args.parent.now c.args.child.now None (row_named (rows_of c.args.tree.now) c.args.client c.args.child.now) c.in-Err.ensures.found.1 refl)

pub returns-in-Err-find-clause-did : goal.returns-in-Err-find-clause-did
returns-in-Err-find-clause-did c =
    let upper = c.in-Ok.ensures.found in
    refused_did (λ desk. step_lift desk c.args.client c.args.parent.now c.args.child.now) c.args.tree.now _ NoSuchName (c.refused-in-Err-find.ensures.reply ∙ ap Refused c.in-Err-find.ensures.found.0)
    (λ desk. step_lift-by (with_rows (rows_of c.args.tree.now) desk) c.args.client c.args.parent.now c.args.child.now (Some upper.row) None upper.named c.in-Err-find.ensures.found.1)

pub returns-then-not-is_number-clause-did : goal.returns-then-not-is_number-clause-did
returns-then-not-is_number-clause-did c =
    let upper = c.in-Ok.ensures.found in
    let lower = c.in-Ok-find.ensures.found in
    let elsewhere = hangs_elsewhere c.args.tree.now c.args.client c.args.parent.now c.args.child.now c.in-Ok.upper.id.key c.in-Ok-find.lower.id.key c.in-Ok.upper.kind c.in-Ok-find.lower.kind upper lower (λ is. true≢false (sym (c.is_number.ensures.1 (c.parent.ensures.found ∙ is)) ∙ c.if-not-is_number.true)) in
    refused_did (λ desk. step_lift desk c.args.client c.args.parent.now c.args.child.now) c.args.tree.now _ NotHere c.refused-then-not-is_number.ensures.reply
    (λ desk. step_lift-by (with_rows (rows_of c.args.tree.now) desk) c.args.client c.args.parent.now c.args.child.now (Some upper.row) (Some lower.row) upper.named lower.named ∙ rw elsewhere refl)

pub returns-clause-did : goal.returns-clause-did
returns-clause-did c =
    let upper = c.in-Ok.ensures.found in
    let lower = c.in-Ok-find.ensures.found in
    let here = hangs_here c.args.tree.now c.args.client c.args.parent.now c.args.child.now c.in-Ok.upper.id.key c.in-Ok-find.lower.id.key c.in-Ok.upper.kind c.in-Ok-find.lower.kind c.find.ensures.valid upper lower (sym c.parent.ensures.found ∙ c.is_number.ensures.0 c.if-not-is_number.false) in
    done_did (λ desk. step_lift desk c.args.client c.args.parent.now c.args.child.now) c.args.tree.now c.detach.new.self c.args.client c.args.child.now c.in-Ok-find.lower.id.key (with_attached None) c.done.result.reply Done c.done.ensures.reply c.detach.ensures.attached c.find.ensures.valid lower.id (λ row. refl)
    (λ desk. step_lift-by (with_rows (rows_of c.args.tree.now) desk) c.args.client c.args.parent.now c.args.child.now (Some upper.row) (Some lower.row) upper.named lower.named ∙ rw here refl)

pub returns-clause-tells : goal.returns-clause-tells
returns-clause-tells c =
    let upper = c.in-Ok.ensures.found in
    let lower = c.in-Ok-find.ensures.found in
    let here = hangs_here c.args.tree.now c.args.client c.args.parent.now c.args.child.now c.in-Ok.upper.id.key c.in-Ok-find.lower.id.key c.in-Ok.upper.kind c.in-Ok-find.lower.kind c.find.ensures.valid upper lower (sym c.parent.ensures.found ∙ c.is_number.ensures.0 c.if-not-is_number.false) in
    tells_edit c.args.tree.now c.detach.new.self c.args.client c.args.child.now c.in-Ok-find.lower.id.key c.in-Ok-find.lower.kind (with_attached None) c.done.result.changed c.find.ensures.valid lower c.detach.ensures.attached
    (λ h same. lift_differs lower.row c.args.parent.now here same) (λ h. absurd (true≢false (sym c.done.ensures.changed ∙ h)))
