use Rattle.std.proofs.Common.{◌≡◌, ℕ, ◌&&◌, List, Option, Some, None, true, false, refl, sym, ap, ap₂, ◌∙◌, subst}
use Rattle.std.proofs.lemmas.Bool.{true≢false}
use Rattle.std.specs.Option.{option_map, option_map_or}
use Rattle.kind_core.specs.declared.kinds.Kind.{Kind}
use Rattle.kind_core.specs.declared.shapes.Cell.{Cell}
use Rattle.cmd_words.specs.declared.replies.Reply.TheVariants.{Done, Refused}
use Rattle.cmd_words.specs.declared.replies.Refusal.TheVariants.{NoSuchName, WrongKind}
use Rattle.widget_model.specs.Rows.{Row, with_attached}
use Rattle.widget_model.specs.Named.{row_named}
use Rattle.widget_model.specs.Trees.{has_children, can_be_child}
use Rattle.widget_model.specs.Planted.{takes_cell}
use Rattle.desk_model.specs.PlaceOptions.{cell_options_refusal, cell_given}
use Rattle.desk_model.specs.Placement.{step_place}
use Rattle.widget_model.specs.Widgets.{Widgets, rows_of, row_kind, edited}
use Rattle.widget_model.specs.Links.{name_at}
use Rattle.desk_commands.specs.Effects.{Did, with_rows}
use Rattle.desk_commands.specs.TreeRefusals.{refusal_of_attach}
use Rattle.desk_commands.proofs.Effects.{refused_did, done_did, found-parts}
use Rattle.desk_commands.proofs.PlaceSteps.{step_place-by, place_answer, attach_refusal-is, attached_differs, hangs_not}
use Rattle.desk_model.proofs.PlaceOptions.{takes_cell-given}
use Rattle.desk_commands.proofs.Changes.{tells_edit}
use Rattle.desk_commands.proofs.placement.place.Goals as goal

pub returns-in-Err-clause-did : goal.returns-in-Err-clause-did
returns-in-Err-clause-did c =
    refused_did (λ desk. step_place desk c.args.client c.args.parent.now c.args.child.now c.args.options.now) c.args.tree.now _ NoSuchName (c.refused.ensures.reply ∙ ap Refused c.in-Err.ensures.found.0)
    (λ desk. step_place-by (with_rows (rows_of c.args.tree.now) desk) c.args.client c.args.parent.now c.args.child.now c.args.options.now None (row_named (rows_of c.args.tree.now) c.args.client c.args.child.now) c.in-Err.ensures.found.1 refl)

pub returns-in-Err-find-clause-did : goal.returns-in-Err-find-clause-did
returns-in-Err-find-clause-did c =
    let upper = c.in-Ok.ensures.found in
    refused_did (λ desk. step_place desk c.args.client c.args.parent.now c.args.child.now c.args.options.now) c.args.tree.now _ NoSuchName (c.refused-in-Err-find.ensures.reply ∙ ap Refused c.in-Err-find.ensures.found.0)
    (λ desk. step_place-by (with_rows (rows_of c.args.tree.now) desk) c.args.client c.args.parent.now c.args.child.now c.args.options.now (Some upper.row) None upper.named c.in-Err-find.ensures.found.1)

pub returns-then-not-can_hang-clause-did : goal.returns-then-not-can_hang-clause-did
returns-then-not-can_hang-clause-did c =
    let upper = c.in-Ok.ensures.found in
    let lower = c.in-Ok-find.ensures.found in
    let wrong : (has_children upper.row.kind && can_be_child lower.row.kind) ≡ false = rw (upper.has, lower.has) (sym c.if-not-can_hang.ensures) in
    refused_did (λ desk. step_place desk c.args.client c.args.parent.now c.args.child.now c.args.options.now) c.args.tree.now _ WrongKind c.refused-then-not-can_hang.ensures.reply
    (λ desk. step_place-by (with_rows (rows_of c.args.tree.now) desk) c.args.client c.args.parent.now c.args.child.now c.args.options.now (Some upper.row) (Some lower.row) upper.named lower.named ∙ rw wrong refl)

pub returns-in-Some-clause-did : goal.returns-in-Some-clause-did
returns-in-Some-clause-did c =
    let upper = c.in-Ok.ensures.found in
    let lower = c.in-Ok-find.ensures.found in
    let right : (has_children upper.row.kind && can_be_child lower.row.kind) ≡ true = rw (upper.has, lower.has) (sym c.if-not-can_hang.ensures) in
    let outside : cell_options_refusal upper.row.kind c.args.options.now ≡ Some c.in-Some.refusal = ap (λ (kind : Kind). cell_options_refusal kind c.args.options.now) upper.has ∙ sym c.in-Some.ensures in
    refused_did (λ desk. step_place desk c.args.client c.args.parent.now c.args.child.now c.args.options.now) c.args.tree.now _ c.in-Some.refusal c.refused-in-Some.ensures.reply
    (λ desk. step_place-by (with_rows (rows_of c.args.tree.now) desk) c.args.client c.args.parent.now c.args.child.now c.args.options.now (Some upper.row) (Some lower.row) upper.named lower.named ∙ rw (right, outside) refl)

pub attach-requires-clause-owner : goal.attach-requires-clause-owner
attach-requires-clause-owner c =
    let upper = c.in-Ok.ensures.found in
    let lower = c.in-Ok-find.ensures.found in
    let one = (found-parts c.args.tree.now c.args.client c.args.parent.now c.in-Ok.upper.id.key c.in-Ok.upper.kind upper).0 in
    let two = (found-parts c.args.tree.now c.args.client c.args.child.now c.in-Ok-find.lower.id.key c.in-Ok-find.lower.kind lower).0 in
    ap (option_map (λ (row : Row). row.client)) upper.there ∙ ap Some (one ∙ sym two) ∙ sym (ap (option_map (λ (row : Row). row.client)) lower.there)

pub attach-requires-clause-cell : goal.attach-requires-clause-cell
attach-requires-clause-cell c =
    let upper = c.in-Ok.ensures.found in
    let kind : row_kind c.args.tree.now.entries c.in-Ok.upper.id.key ≡ Some c.in-Ok.upper.kind = ap (option_map (λ (row : Row). row.kind)) upper.there ∙ ap Some upper.has in
    ap (λ (k : Option Kind). option_map_or (λ kind. takes_cell kind c.cell_given.result) k false) kind
    ∙ ap (takes_cell c.in-Ok.upper.kind) c.cell_given.ensures
    ∙ takes_cell-given c.in-Ok.upper.kind c.args.options.now (sym c.in-None.ensures)

pub returns-in-Ok-attach-clause-did : goal.returns-in-Ok-attach-clause-did
returns-in-Ok-attach-clause-did c =
    let upper = c.in-Ok.ensures.found in
    let lower = c.in-Ok-find.ensures.found in
    let named : name_at c.args.tree.now.entries c.in-Ok.upper.id.key ≡ Some c.args.parent.now = ap (option_map (λ (row : Row). row.name)) upper.there ∙ ap Some (found-parts c.args.tree.now c.args.client c.args.parent.now c.in-Ok.upper.id.key c.in-Ok.upper.kind upper).1 in
    let left = c.in-Ok-attach.ensures.ok ∙ ap₂ (λ (name : Option (List ℕ)) (cell : Cell). edited c.in-Ok-find.lower.id.key (with_attached (option_map (λ n. (n, cell)) name)) c.args.tree.now) named c.cell_given.ensures in
    done_did (λ desk. step_place desk c.args.client c.args.parent.now c.args.child.now c.args.options.now) c.args.tree.now c.attach.new.self c.args.client c.args.child.now c.in-Ok-find.lower.id.key (with_attached (Some (c.args.parent.now, cell_given c.args.options.now))) c.done.result.reply Done c.done.ensures.reply left c.find.ensures.valid lower.id (λ row. refl)
    (place_answer c.args.tree.now c.args.client c.args.parent.now c.args.child.now c.args.options.now c.in-Ok.upper.id.key c.in-Ok-find.lower.id.key c.in-Ok.upper.kind c.in-Ok-find.lower.kind upper lower c.cell_given.result None (sym c.if-not-can_hang.ensures) (sym c.in-None.ensures) c.cell_given.ensures c.in-Ok-attach.ensures.answer)

pub returns-in-Ok-attach-clause-tells : goal.returns-in-Ok-attach-clause-tells
returns-in-Ok-attach-clause-tells c =
    let upper = c.in-Ok.ensures.found in
    let lower = c.in-Ok-find.ensures.found in
    let named : name_at c.args.tree.now.entries c.in-Ok.upper.id.key ≡ Some c.args.parent.now = ap (option_map (λ (row : Row). row.name)) upper.there ∙ ap Some (found-parts c.args.tree.now c.args.client c.args.parent.now c.in-Ok.upper.id.key c.in-Ok.upper.kind upper).1 in
    let left = c.in-Ok-attach.ensures.ok ∙ ap₂ (λ (name : Option (List ℕ)) (cell : Cell). edited c.in-Ok-find.lower.id.key (with_attached (option_map (λ n. (n, cell)) name)) c.args.tree.now) named c.cell_given.ensures in
    let free = hangs_not (rows_of c.args.tree.now) upper.row lower.row (cell_given c.args.options.now) (attach_refusal-is c.args.tree.now c.args.client c.args.parent.now c.args.child.now c.args.options.now c.in-Ok.upper.id.key c.in-Ok-find.lower.id.key c.in-Ok.upper.kind c.in-Ok-find.lower.kind upper lower c.cell_given.result None c.cell_given.ensures c.in-Ok-attach.ensures.answer) in
    tells_edit c.args.tree.now c.attach.new.self c.args.client c.args.child.now c.in-Ok-find.lower.id.key c.in-Ok-find.lower.kind (with_attached (Some (c.args.parent.now, cell_given c.args.options.now))) c.done.result.changed c.find.ensures.valid lower left
    (λ h same. attached_differs lower.row c.args.parent.now (cell_given c.args.options.now) free same) (λ h. absurd (true≢false (sym c.done.ensures.changed ∙ h)))

pub returns-in-Err-attach-clause-did : goal.returns-in-Err-attach-clause-did
returns-in-Err-attach-clause-did c =
    let upper = c.in-Ok.ensures.found in
    let lower = c.in-Ok-find.ensures.found in
    let P : Widgets → Type 0 = λ w. Did (λ desk. step_place desk c.args.client c.args.parent.now c.args.child.now c.args.options.now) c.args.tree.now w c.refused-in-Err-attach.result.reply in
    subst P (sym c.in-Err-attach.ensures.err)
    (refused_did (λ desk. step_place desk c.args.client c.args.parent.now c.args.child.now c.args.options.now) c.args.tree.now c.refused-in-Err-attach.result.reply (refusal_of_attach c.in-Err-attach.refusal) (c.refused-in-Err-attach.ensures.reply ∙ ap Refused c.refusal_of_attach.ensures)
    (place_answer c.args.tree.now c.args.client c.args.parent.now c.args.child.now c.args.options.now c.in-Ok.upper.id.key c.in-Ok-find.lower.id.key c.in-Ok.upper.kind c.in-Ok-find.lower.kind upper lower c.cell_given.result (Some c.in-Err-attach.refusal) (sym c.if-not-can_hang.ensures) (sym c.in-None.ensures) c.cell_given.ensures c.in-Err-attach.ensures.answer))
