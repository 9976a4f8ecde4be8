use Rattle.std.proofs.Common.{◌≡◌, ℕ, List, Option, Some, None, true, false, refl, sym, ap, ◌∙◌}
use Rattle.kind_core.specs.Events.{gives_event}
use Rattle.kind_core.specs.declared.kinds.Kind.{Kind}
use Rattle.cmd_words.specs.declared.replies.Reply.TheVariants.{Done, Refused}
use Rattle.cmd_words.specs.declared.replies.Refusal.TheVariants.{NoSuchName, WrongKind}
use Rattle.widget_model.specs.Rows.{Row, event_slot, binding_of, with_binding}
use Rattle.desk_model.specs.Bindings.{step_bind}
use Rattle.desk_commands.proofs.Effects.{refused_did, done_did}
use Rattle.desk_commands.proofs.LinkSteps.{step_bind-by}
use Rattle.desk_commands.specs.Effects.{with_rows}
use Rattle.widget_model.specs.Widgets.{rows_of}
use Rattle.std.specs.Option.{option_eq}
use Rattle.std.specs.Str.{bytes_eq}
use Rattle.std.specs.Cmp.Lexicographic.{nat_list_eq_equiv}
use Rattle.std.proofs.lemmas.Slice.Eq.{bytes_eq-Decides}
use Rattle.desk_commands.proofs.Changes.{tells_read, slice_set-same, option_eq-true, option_eq-false}
use Rattle.desk_commands.proofs.bindings.bind.Goals as goal

pub returns-in-Err-clause-did : goal.returns-in-Err-clause-did
returns-in-Err-clause-did c =
    refused_did (λ desk. step_bind desk c.args.client c.args.name.now c.args.event c.args.tag) c.args.tree.now c.refused.result.reply NoSuchName (c.refused.ensures.reply ∙ ap Refused c.in-Err.ensures.found.0)
    (λ desk. step_bind-by (with_rows (rows_of c.args.tree.now) desk) c.args.client c.args.name.now c.args.event c.args.tag None c.in-Err.ensures.found.1)

pub returns-then-not-gives-clause-did : goal.returns-then-not-gives-clause-did
returns-then-not-gives-clause-did c =
    let found = c.in-Ok.ensures.found in
    let wrong : gives_event found.row.kind c.args.event ≡ false = ap (λ (kind : Kind). gives_event kind c.args.event) found.has ∙ sym c.if-not-gives.ensures in
    refused_did (λ desk. step_bind desk c.args.client c.args.name.now c.args.event c.args.tag) c.args.tree.now c.refused-then-not-gives.result.reply WrongKind c.refused-then-not-gives.ensures.reply
    (λ desk. step_bind-by (with_rows (rows_of c.args.tree.now) desk) c.args.client c.args.name.now c.args.event c.args.tag (Some found.row) found.named ∙ rw wrong refl)

pub returns-clause-did : goal.returns-clause-did
returns-clause-did c =
    let found = c.in-Ok.ensures.found in
    let right : gives_event found.row.kind c.args.event ≡ true = ap (λ (kind : Kind). gives_event kind c.args.event) found.has ∙ sym c.if-not-gives.ensures in
    done_did (λ desk. step_bind desk c.args.client c.args.name.now c.args.event c.args.tag) c.args.tree.now c.set_binding.new.self c.args.client c.args.name.now c.in-Ok.found.id.key (with_binding c.args.event c.args.tag) c.done.result.reply Done c.done.ensures.reply c.set_binding.ensures.tag c.find.ensures.valid found.id (λ row. refl)
    (λ desk. step_bind-by (with_rows (rows_of c.args.tree.now) desk) c.args.client c.args.name.now c.args.event c.args.tag (Some found.row) found.named ∙ rw right refl)

pub returns-clause-tells : goal.returns-clause-tells
returns-clause-tells c =
    let event = c.args.event in
    let before = c.binding-before.result in
    let after = c.binding.result in
    tells_read (λ (row : Row). binding_of row event) c.args.tree.now c.set_binding.new.self c.args.client c.args.name.now c.in-Ok.found.id.key c.in-Ok.found.kind (with_binding event c.args.tag) before after (option_eq bytes_eq before after) c.done.result.changed c.find.ensures.valid c.in-Ok.ensures.found c.set_binding.ensures.tag c.binding-before.ensures.tag c.binding.ensures.tag (c.done.ensures.changed ∙ c.ne.ensures) (option_eq-true bytes_eq (λ a b. (bytes_eq-Decides a b).0) before after) (option_eq-false bytes_eq nat_list_eq_equiv.refl before after)
    (λ row h. ap (λ (bindings : List (Option (List ℕ))). record row { bindings = bindings }) (slice_set-same row.bindings (event_slot event) c.args.tag None h))
