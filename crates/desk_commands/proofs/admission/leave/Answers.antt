use Rattle.std.proofs.Common.{◌≡◌, not, [], ◌∷◌, Option, Some, true, false, refl, sym, ap, ◌∙◌}
use Rattle.std.proofs.lemmas.Bool.{true≢false}
use Rattle.std.specs.Option.{option_map_or}
use Rattle.kind_core.specs.declared.kinds.Kind.TheVariants.{VScreen}
use Rattle.cmd_words.specs.declared.replies.Refusal.{Refusal}
use Rattle.cmd_words.specs.declared.replies.Refusal.TheVariants.{NotAdmitted}
use Rattle.vscreen_core.specs.Changes.{settled}
use Rattle.widget_model.specs.Trees.{is_admitted}
use Rattle.widget_model.specs.Widgets.{nodes, rows_of}
use Rattle.widget_model.specs.Named.{row_named}
use Rattle.desk_model.specs.Refusals.{when, outcome}
use Rattle.desk_model.specs.Screens.{is_screen, with_film_changed, leave_effect, step_leave}
use Rattle.desk_commands.specs.Parts.{admissions_at}
use Rattle.desk_commands.specs.Effects.{with_admissions}
use Rattle.desk_commands.proofs.Changes.{tells_edit}
use Rattle.desk_commands.proofs.Films.{read-row, screen-kind, settled-other}
use Rattle.desk_commands.proofs.ScreenSteps.{step_leave-by}
use Rattle.desk_commands.proofs.AdmitSteps.{listed_refused, leave_did}
use Rattle.desk_commands.proofs.admission.leave.Goals as goal

pub returns-in-Err-clause-did : goal.returns-in-Err-clause-did
unfolding step_leave
returns-in-Err-clause-did c =
    let tree = c.args.tree.now in
    listed_refused (λ desk. step_leave desk c.args.client c.args.name.now) tree c.args.roster.now c.refused.result.reply c.in-Err.refusal c.requires c.refused.ensures.reply
    (λ desk limit. let all = with_admissions (rows_of tree) (admissions_at (nodes tree.entries) c.args.roster.now.entries) desk in
    ap (λ (r : Option Refusal). outcome all r (leave_effect all c.args.client c.args.name.now))
    (c.in-Err.ensures.found is_screen (when (not (option_map_or is_admitted (row_named (rows_of tree) c.args.client c.args.name.now) false)) NotAdmitted ∷ []) screen-kind))

pub returns-then-not-is_admitted-clause-did : goal.returns-then-not-is_admitted-clause-did
returns-then-not-is_admitted-clause-did c =
    let tree = c.args.tree.now in
    let found = c.in-Ok.ensures.found in
    let right : is_screen found.row.kind ≡ true = ap is_screen found.has in
    let idle : is_admitted found.row ≡ false = read-row is_admitted tree c.in-Ok.id.key found.row false found.there c.if-not-is_admitted.ensures.admitted in
    listed_refused (λ desk. step_leave desk c.args.client c.args.name.now) tree c.args.roster.now c.refused-then-not-is_admitted.result.reply NotAdmitted c.requires c.refused-then-not-is_admitted.ensures.reply
    (λ desk limit. step_leave-by (with_admissions (rows_of tree) (admissions_at (nodes tree.entries) c.args.roster.now.entries) desk) c.args.client c.args.name.now (Some found.row) found.named ∙ rw (right, idle) refl)

pub returns-clause-did : goal.returns-clause-did
returns-clause-did c =
    let tree = c.args.tree.now in
    let found = c.in-Ok.ensures.found in
    let on : is_admitted found.row ≡ true = read-row is_admitted tree c.in-Ok.id.key found.row true found.there c.if-not-is_admitted.ensures.admitted in
    leave_did tree c.settle_film.new.tree c.args.client c.args.name.now c.in-Ok.id.key c.args.roster.now c.leave.new.self c.done.result.reply c.requires c.find_kind.ensures.valid found on c.settle_film.ensures.film c.leave.ensures.roster c.leave.ensures.valid c.done.ensures.reply

pub returns-clause-tells : goal.returns-clause-tells
returns-clause-tells c =
    let tree = c.args.tree.now in
    let found = c.in-Ok.ensures.found in
    let on : is_admitted found.row ≡ true = read-row is_admitted tree c.in-Ok.id.key found.row true found.there c.if-not-is_admitted.ensures.admitted in
    tells_edit tree c.settle_film.new.tree c.args.client c.args.name.now c.in-Ok.id.key VScreen (with_film_changed settled) c.done.result.changed c.find_kind.ensures.valid found c.settle_film.ensures.film
    (λ h. settled-other found.row on) (λ h. absurd (true≢false (sym c.done.ensures.changed ∙ h)))
