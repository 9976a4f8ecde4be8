use Rattle.std.proofs.Common.{◌≡◌, ℕ, Some, None, true, false, not, ◌&&◌, List, Option, refl, sym, ap, ◌∙◌}
use Rattle.std.proofs.lemmas.Bool.{true≢false, not-false, and_parts}
use Rattle.std.specs.Option.{option_map}
use Rattle.cmd_words.specs.declared.replies.Reply.TheVariants.{Done, Refused}
use Rattle.cmd_words.specs.declared.replies.Refusal.TheVariants.{NoSuchName, WrongKind}
use Rattle.widget_model.specs.Rows.{Row, with_link}
use Rattle.desk_model.specs.Links.{step_link}
use Rattle.widget_model.specs.Kinds.{can_link, is_variable_kind}
use Rattle.desk_commands.proofs.Effects.{refused_did, done_did, found-parts}
use Rattle.desk_commands.proofs.LinkSteps.{step_link-by, variable_kind}
use Rattle.desk_commands.specs.Effects.{with_rows}
use Rattle.widget_model.specs.Named.{row_named}
use Rattle.widget_model.specs.Widgets.{rows_of, edited}
use Rattle.widget_model.specs.Links.{name_at}
use Rattle.desk_commands.proofs.Changes.{tells_edit}
use Rattle.desk_commands.proofs.LinkChanges.{link_was, link_is}
use Rattle.desk_commands.proofs.links.link.Goals as goal

pub returns-in-Err-clause-did : goal.returns-in-Err-clause-did
returns-in-Err-clause-did c =
    refused_did (λ desk. step_link desk c.args.client c.args.name.now c.args.variable.now) c.args.tree.now c.refused.result.reply NoSuchName (c.refused.ensures.reply ∙ ap Refused c.in-Err.ensures.found.0)
    (λ desk. step_link-by (with_rows (rows_of c.args.tree.now) desk) c.args.client c.args.name.now c.args.variable.now None (row_named (rows_of c.args.tree.now) c.args.client c.args.variable.now) c.in-Err.ensures.found.1 refl)

pub returns-in-Err-find-clause-did : goal.returns-in-Err-find-clause-did
returns-in-Err-find-clause-did c =
    let found = c.in-Ok.ensures.found in
    refused_did (λ desk. step_link desk c.args.client c.args.name.now c.args.variable.now) c.args.tree.now c.refused-in-Err-find.result.reply NoSuchName (c.refused-in-Err-find.ensures.reply ∙ ap Refused c.in-Err-find.ensures.found.0)
    (λ desk. step_link-by (with_rows (rows_of c.args.tree.now) desk) c.args.client c.args.name.now c.args.variable.now (Some found.row) None found.named c.in-Err-find.ensures.found.1)

pub returns-then-not-can_lead-clause-did : goal.returns-then-not-can_lead-clause-did
returns-then-not-can_lead-clause-did c =
    let found = c.in-Ok.ensures.found in
    let other = c.in-Ok-find.ensures.found in
    let wrong : (can_link found.row.kind && is_variable_kind other.row.kind) ≡ false = rw (found.has, other.has) (sym c.if-not-can_lead.ensures) in
    refused_did (λ desk. step_link desk c.args.client c.args.name.now c.args.variable.now) c.args.tree.now c.refused-then-not-can_lead.result.reply WrongKind c.refused-then-not-can_lead.ensures.reply
    (λ desk. step_link-by (with_rows (rows_of c.args.tree.now) desk) c.args.client c.args.name.now c.args.variable.now (Some found.row) (Some other.row) found.named other.named ∙ rw wrong refl)

pub set_link-requires-clause-variable : goal.set_link-requires-clause-variable
set_link-requires-clause-variable c =
    let other = c.in-Ok-find.ensures.found in
    let parts = and_parts (can_link c.in-Ok.found.kind) (is_variable_kind c.in-Ok-find.other.kind) (sym c.if-not-can_lead.ensures) in
    ap (option_map (λ (row : Row). row.kind)) other.there ∙ ap Some (other.has ∙ variable_kind c.in-Ok-find.other.kind parts.1)

pub set_link-requires-clause-owner : goal.set_link-requires-clause-owner
set_link-requires-clause-owner c =
    let found = c.in-Ok.ensures.found in
    let other = c.in-Ok-find.ensures.found in
    let one = (found-parts c.args.tree.now c.args.client c.args.name.now c.in-Ok.found.id.key c.in-Ok.found.kind found).0 in
    let two = (found-parts c.args.tree.now c.args.client c.args.variable.now c.in-Ok-find.other.id.key c.in-Ok-find.other.kind other).0 in
    ap (option_map (λ (row : Row). row.client)) other.there ∙ ap Some (two ∙ sym one) ∙ sym (ap (option_map (λ (row : Row). row.client)) found.there)

pub returns-clause-did : goal.returns-clause-did
returns-clause-did c =
    let found = c.in-Ok.ensures.found in
    let other = c.in-Ok-find.ensures.found in
    let right : (can_link found.row.kind && is_variable_kind other.row.kind) ≡ true = rw (found.has, other.has) (sym c.if-not-can_lead.ensures) in
    let named : name_at c.args.tree.now.entries c.in-Ok-find.other.id.key ≡ Some c.args.variable.now = ap (option_map (λ (row : Row). row.name)) other.there ∙ ap Some (found-parts c.args.tree.now c.args.client c.args.variable.now c.in-Ok-find.other.id.key c.in-Ok-find.other.kind other).1 in
    let left = c.set_link.ensures.link ∙ ap (λ (link : Option (List ℕ)). edited c.in-Ok.found.id.key (with_link link) c.args.tree.now) named in
    done_did (λ desk. step_link desk c.args.client c.args.name.now c.args.variable.now) c.args.tree.now c.set_link.new.self c.args.client c.args.name.now c.in-Ok.found.id.key (with_link (Some c.args.variable.now)) c.done.result.reply Done c.done.ensures.reply left c.find.ensures.valid found.id (λ row. refl)
    (λ desk. step_link-by (with_rows (rows_of c.args.tree.now) desk) c.args.client c.args.name.now c.args.variable.now (Some found.row) (Some other.row) found.named other.named ∙ rw right refl)

pub returns-clause-tells : goal.returns-clause-tells
returns-clause-tells c =
    let w = c.args.tree.now in
    let found = c.in-Ok.ensures.found in
    let other = c.in-Ok-find.ensures.found in
    let key = c.in-Ok.found.id.key in
    let variable = c.args.variable.now in
    let named : name_at w.entries c.in-Ok-find.other.id.key ≡ Some variable = ap (option_map (λ (row : Row). row.name)) other.there ∙ ap Some (found-parts w c.args.client variable c.in-Ok-find.other.id.key c.in-Ok-find.other.kind other).1 in
    let left = c.set_link.ensures.link ∙ ap (λ (link : Option (List ℕ)). edited key (with_link link) w) named in
    tells_edit w c.set_link.new.self c.args.client c.args.name.now key c.in-Ok.found.kind (with_link (Some variable)) c.done.result.changed c.find.ensures.valid found left
    (λ h same. let is = c.is_number.ensures.1 (c.link-before.ensures.found ∙ link_was w c.args.client c.args.name.now variable key c.in-Ok-find.other.id.key c.in-Ok.found.kind c.in-Ok-find.other.kind found other (sym (ap (λ (row : Row). row.link) same))) in
    true≢false (sym h ∙ c.done.ensures.changed ∙ ap not is))
    (λ h. let is = c.is_number.ensures.0 (not-false c.is_number.result (sym c.done.ensures.changed ∙ h)) in
    let link = link_is w c.args.client c.args.name.now variable key c.in-Ok-find.other.id.key c.in-Ok.found.kind c.in-Ok-find.other.kind c.find.ensures.valid found other (sym c.link-before.ensures.found ∙ is) in
    ap (λ (l : Option (List ℕ)). record found.row { link = l }) (sym link))
