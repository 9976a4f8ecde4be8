use Rattle.std.proofs.Common.{◌≡◌, ℕ, List, Option, Some, None, is_some, true, false, refl, sym, ap, ◌∙◌}
use Rattle.cmd_words.specs.declared.replies.Reply.TheVariants.{Done, Refused}
use Rattle.cmd_words.specs.declared.replies.Refusal.TheVariants.{NoSuchName, WrongKind}
use Rattle.widget_model.specs.Rows.{Row, with_link}
use Rattle.desk_model.specs.Links.{step_unlink}
use Rattle.widget_model.specs.Kinds.{can_link}
use Rattle.desk_commands.proofs.Effects.{refused_did, done_did}
use Rattle.desk_commands.proofs.LinkSteps.{step_unlink-by}
use Rattle.desk_commands.specs.Effects.{with_rows}
use Rattle.widget_model.specs.Widgets.{rows_of}
use Rattle.std.proofs.lemmas.Bool.{true≢false}
use Rattle.tree_core.specs.declared.id.Id.{Id}
use Rattle.desk_commands.proofs.Changes.{tells_edit, is_some-map, is_some-none}
use Rattle.desk_commands.proofs.LinkChanges.{unlinked_was, unlinked_is}
use Rattle.desk_commands.proofs.links.unlink.Goals as goal

pub returns-in-Err-clause-did : goal.returns-in-Err-clause-did
returns-in-Err-clause-did c =
    refused_did (λ desk. step_unlink desk c.args.client c.args.name.now) c.args.tree.now c.refused.result.reply NoSuchName (c.refused.ensures.reply ∙ ap Refused c.in-Err.ensures.found.0)
    (λ desk. step_unlink-by (with_rows (rows_of c.args.tree.now) desk) c.args.client c.args.name.now None c.in-Err.ensures.found.1)

pub returns-then-not-can_link-clause-did : goal.returns-then-not-can_link-clause-did
returns-then-not-can_link-clause-did c =
    let found = c.in-Ok.ensures.found in
    let wrong : can_link found.row.kind ≡ false = ap can_link found.has ∙ sym c.if-not-can_link.ensures in
    refused_did (λ desk. step_unlink desk c.args.client c.args.name.now) c.args.tree.now c.refused-then-not-can_link.result.reply WrongKind c.refused-then-not-can_link.ensures.reply
    (λ desk. step_unlink-by (with_rows (rows_of c.args.tree.now) desk) c.args.client c.args.name.now (Some found.row) found.named ∙ rw wrong refl)

pub returns-clause-did : goal.returns-clause-did
returns-clause-did c =
    let found = c.in-Ok.ensures.found in
    let right : can_link found.row.kind ≡ true = ap can_link found.has ∙ sym c.if-not-can_link.ensures in
    done_did (λ desk. step_unlink desk c.args.client c.args.name.now) c.args.tree.now c.set_link.new.self c.args.client c.args.name.now c.in-Ok.found.id.key (with_link None) c.done.result.reply Done c.done.ensures.reply c.set_link.ensures.link c.find.ensures.valid found.id (λ row. refl)
    (λ desk. step_unlink-by (with_rows (rows_of c.args.tree.now) desk) c.args.client c.args.name.now (Some found.row) found.named ∙ rw right refl)

pub returns-clause-tells : goal.returns-clause-tells
returns-clause-tells c =
    let w = c.args.tree.now in
    let found = c.in-Ok.ensures.found in
    let key = c.in-Ok.found.id.key in
    tells_edit w c.set_link.new.self c.args.client c.args.name.now key c.in-Ok.found.kind (with_link None) c.done.result.changed c.find.ensures.valid found c.set_link.ensures.link
    (λ h same. let none = c.link-before.ensures.found ∙ unlinked_was w key found.row found.there (sym (ap (λ (row : Row). row.link) same)) in
    true≢false (sym h ∙ c.done.ensures.changed ∙ c.is_some.ensures ∙ sym (is_some-map (λ (id : Id). id.key) c.link-before.result) ∙ ap is_some none))
    (λ h. let none = is_some-none _ (is_some-map (λ (id : Id). id.key) c.link-before.result ∙ sym (c.done.ensures.changed ∙ c.is_some.ensures) ∙ h) in
    let link = unlinked_is w key found.row c.find.ensures.valid found.there (sym c.link-before.ensures.found ∙ none) in
    ap (λ (l : Option (List ℕ)). record found.row { link = l }) (sym link))
