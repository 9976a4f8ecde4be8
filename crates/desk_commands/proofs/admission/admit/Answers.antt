use Rattle.std.proofs.Common.{◌≡◌, ℕ, ℤ, unsigned_abs, Some, sym, ap, ◌∙◌, subst, to_z, of_z, w32}
use Rattle.std.proofs.lemmas.Int.{to_z-of_z}
use Rattle.kind_core.specs.declared.kinds.Kind.TheVariants.{VScreen}
use Rattle.vscreen_core.specs.Changes.{begun}
use Rattle.widget_model.specs.Widgets.{nodes, rows_of, edited}
use Rattle.desk_model.specs.Desk.{Desk}
use Rattle.desk_model.specs.Screens.{with_film_changed, admit_refusal, step_admit}
use Rattle.desk_commands.specs.Parts.{admissions_at}
use Rattle.desk_commands.specs.Effects.{with_rows, with_admissions}
use Rattle.desk_commands.specs.Screens.{IsWanted}
use Rattle.desk_commands.proofs.Admissions.{room_to_admit}
use Rattle.desk_commands.proofs.Changes.{tells_edit}
use Rattle.desk_commands.proofs.Films.{begun-same, begun-other, film_row-same, film_row-other}
use Rattle.desk_commands.proofs.ScreenSteps.{step_admit-by}
use Rattle.desk_commands.proofs.AdmitSteps.{listed_refused, admit_over, admit_did}
use Rattle.desk_commands.proofs.admission.admit.Goals as goal

pub returns-in-Err-clause-did : goal.returns-in-Err-clause-did
returns-in-Err-clause-did c =
    let tree = c.args.tree.now in
    let plain : to_z w32 (of_z w32 c.args.period) ≡ c.args.period = to_z-of_z w32 c.args.period c.ranges.period in
    let P : ℤ → Type 0 = λ period. (desk : Desk) → admit_refusal (with_rows (rows_of tree) desk) c.args.client c.args.name.now period ≡ Some c.in-Err.refusal in
    listed_refused (λ desk. step_admit desk c.args.client c.args.name.now c.args.period) tree c.args.roster.now c.refused.result.reply c.in-Err.refusal c.requires c.refused.ensures.reply
    (λ desk limit. step_admit-by (with_admissions (rows_of tree) (admissions_at (nodes tree.entries) c.args.roster.now.entries) desk) c.args.client c.args.name.now c.args.period (Some c.in-Err.refusal) (subst P plain c.in-Err.ensures.wanted (with_admissions (rows_of tree) (admissions_at (nodes tree.entries) c.args.roster.now.entries) desk)))

pub admit-requires : goal.admit-requires
admit-requires c =
    let found = c.in-Ok.ensures.wanted.found in
    room_to_admit c.args.tree.now c.args.roster.now c.in-Ok.wanted.id.key found.row c.screen_wanted.ensures.valid c.requires.valid c.requires.admitted found.there found.has

pub returns-in-Err-admit-clause-did : goal.returns-in-Err-admit-clause-did
returns-in-Err-admit-clause-did c =
    let plain : to_z w32 (of_z w32 c.args.period) ≡ c.args.period = to_z-of_z w32 c.args.period c.ranges.period in
    let P : ℤ → Type 0 = λ period. IsWanted c.args.tree.now c.args.client c.args.name.now period c.in-Ok.wanted.id.key c.in-Ok.wanted.share c.in-Ok.wanted.changed in
    admit_over c.args.tree.now c.args.client c.args.name.now c.args.period c.in-Ok.wanted.id.key c.in-Ok.wanted.share c.in-Ok.wanted.changed c.args.roster.now c.requires c.screen_wanted.ensures.valid (subst P plain c.in-Ok.ensures.wanted)
    c.admit.new.self c.in-Err-admit.over c.refused-in-Err-admit.result.reply c.in-Err-admit.ensures.roster c.in-Err-admit.ensures.answer c.refused-in-Err-admit.ensures.reply

pub returns-clause-did : goal.returns-clause-did
returns-clause-did c =
    let plain : to_z w32 (of_z w32 c.args.period) ≡ c.args.period = to_z-of_z w32 c.args.period c.ranges.period in
    let P : ℤ → Type 0 = λ period. IsWanted c.args.tree.now c.args.client c.args.name.now period c.in-Ok.wanted.id.key c.in-Ok.wanted.share c.in-Ok.wanted.changed in
    admit_did c.args.tree.now c.args.client c.args.name.now c.args.period c.in-Ok.wanted.id.key c.in-Ok.wanted.share c.in-Ok.wanted.changed c.args.roster.now c.requires c.screen_wanted.ensures.valid (subst P plain c.in-Ok.ensures.wanted)
    c.begin_film.new.tree c.admit.new.self c.done.result.reply c.in-Ok-admit.ensures.roster c.in-Ok-admit.ensures.answer c.admit.ensures.valid
    (c.begin_film.ensures.film ∙ ap (λ (n : ℕ). edited c.in-Ok.wanted.id.key (with_film_changed (λ film. begun film n)) c.args.tree.now) (c.unsigned_abs.ensures.value ∙ ap unsigned_abs plain))
    c.done.ensures.reply

pub returns-clause-tells : goal.returns-clause-tells
returns-clause-tells c =
    let plain : to_z w32 (of_z w32 c.args.period) ≡ c.args.period = to_z-of_z w32 c.args.period c.ranges.period in
    let P : ℤ → Type 0 = λ period. IsWanted c.args.tree.now c.args.client c.args.name.now period c.in-Ok.wanted.id.key c.in-Ok.wanted.share c.in-Ok.wanted.changed in
    let wanted = subst P plain c.in-Ok.ensures.wanted in
    let period = unsigned_abs c.args.period in
    let told = sym (c.done.ensures.changed ∙ wanted.tells) in
    tells_edit c.args.tree.now c.begin_film.new.tree c.args.client c.args.name.now c.in-Ok.wanted.id.key VScreen (with_film_changed (λ film. begun film period)) c.done.result.changed c.screen_wanted.ensures.valid wanted.found
    (c.begin_film.ensures.film ∙ ap (λ (n : ℕ). edited c.in-Ok.wanted.id.key (with_film_changed (λ film. begun film n)) c.args.tree.now) (c.unsigned_abs.ensures.value ∙ ap unsigned_abs plain))
    (λ h. film_row-other wanted.found.row wanted.film (λ film. begun film period) wanted.has (begun-other wanted.film period (told ∙ h)))
    (λ h. film_row-same wanted.found.row wanted.film (λ film. begun film period) wanted.has (begun-same wanted.film period (told ∙ h)))
