use Rattle.std.proofs.Common.{◌≡◌, ℕ, ℤ, Bool, unsigned_abs, Some, None, false, refl, ap, ap₂, ◌∙◌, subst, to_z, of_z, w32}
use Rattle.std.proofs.lemmas.Int.{to_z-of_z}
use Rattle.std.specs.Option.{option_map_or}
use Rattle.kind_core.specs.declared.kinds.Kind.TheVariants.{VScreen}
use Rattle.cmd_words.specs.declared.replies.Reply.{Reply}
use Rattle.cmd_words.specs.declared.replies.Reply.TheVariants.{Done}
use Rattle.cmd_words.specs.declared.replies.Refusal.TheVariants.{Memory}
use Rattle.vscreen_core.specs.FilmState.{FilmState, blank_film}
use Rattle.widget_model.specs.Rows.{Row, with_film}
use Rattle.widget_model.specs.Widgets.{rows_of, edited}
use Rattle.desk_model.specs.Desk.{Desk}
use Rattle.desk_model.specs.Refusals.{when, is_memory}
use Rattle.desk_model.specs.Screens.{mode_refusal, step_mode}
use Rattle.desk_commands.specs.Effects.{with_rows}
use Rattle.desk_commands.specs.Screens.{same_film, IsModed}
use Rattle.desk_commands.proofs.Effects.{refused_did, done_did}
use Rattle.desk_commands.proofs.Changes.{tells_edit}
use Rattle.desk_commands.proofs.Films.{read-row, mode_tells}
use Rattle.desk_commands.proofs.ScreenSteps.{step_mode-by}
use Rattle.desk_commands.proofs.screens.set_mode.Goals as goal

pub returns-in-Err-clause-did : goal.returns-in-Err-clause-did
returns-in-Err-clause-did c =
    let tree = c.args.tree.now in
    let reply = c.refused.result.reply in
    let plain : to_z w32 (of_z w32 c.args.w) ≡ c.args.w = to_z-of_z w32 c.args.w c.ranges.w in
    let plain_h : to_z w32 (of_z w32 c.args.h) ≡ c.args.h = to_z-of_z w32 c.args.h c.ranges.h in
    let P : ℤ → ℤ → Type 0 = λ w h. (desk : Desk) (short : Bool) → mode_refusal (with_rows (rows_of tree) desk) c.args.client c.args.name.now w h short ≡ Some c.in-Err.refusal in
    let refusal = subst (P c.args.w) plain_h (subst (λ (w : ℤ). P w (to_z w32 (of_z w32 c.args.h))) plain c.in-Err.ensures.screen) in
    refused_did (λ desk. step_mode desk c.args.client c.args.name.now c.args.w c.args.h (is_memory reply)) tree reply c.in-Err.refusal c.refused.ensures.reply
    (λ desk. step_mode-by (with_rows (rows_of tree) desk) c.args.client c.args.name.now c.args.w c.args.h (is_memory reply) (Some c.in-Err.refusal) (refusal desk (is_memory reply)))

pub returns-in-Err-new-clause-did : goal.returns-in-Err-new-clause-did
returns-in-Err-new-clause-did c =
    let tree = c.args.tree.now in
    let reply = c.refused-in-Err-new.result.reply in
    let plain : to_z w32 (of_z w32 c.args.w) ≡ c.args.w = to_z-of_z w32 c.args.w c.ranges.w in
    let plain_h : to_z w32 (of_z w32 c.args.h) ≡ c.args.h = to_z-of_z w32 c.args.h c.ranges.h in
    let P : ℤ → ℤ → Type 0 = λ w h. IsModed tree c.args.client c.args.name.now w h c.in-Ok.id.key in
    let moded = subst (P c.args.w) plain_h (subst (λ (w : ℤ). P w (to_z w32 (of_z w32 c.args.h))) plain c.in-Ok.ensures.screen) in
    refused_did (λ desk. step_mode desk c.args.client c.args.name.now c.args.w c.args.h (is_memory reply)) tree reply Memory c.refused-in-Err-new.ensures.reply
    (λ desk. step_mode-by (with_rows (rows_of tree) desk) c.args.client c.args.name.now c.args.w c.args.h (is_memory reply) (Some Memory) (moded.allowed desk (is_memory reply) ∙ ap (λ (r : Reply). when (is_memory r) Memory) c.refused-in-Err-new.ensures.reply))

pub returns-clause-did : goal.returns-clause-did
returns-clause-did c =
    let tree = c.args.tree.now in
    let reply = c.done.result.reply in
    let plain : to_z w32 (of_z w32 c.args.w) ≡ c.args.w = to_z-of_z w32 c.args.w c.ranges.w in
    let plain_h : to_z w32 (of_z w32 c.args.h) ≡ c.args.h = to_z-of_z w32 c.args.h c.ranges.h in
    let P : ℤ → ℤ → Type 0 = λ w h. IsModed tree c.args.client c.args.name.now w h c.in-Ok.id.key in
    let moded = subst (P c.args.w) plain_h (subst (λ (w : ℤ). P w (to_z w32 (of_z w32 c.args.h))) plain c.in-Ok.ensures.screen) in
    done_did (λ desk. step_mode desk c.args.client c.args.name.now c.args.w c.args.h (is_memory reply)) tree c.set_film.new.self c.args.client c.args.name.now c.in-Ok.id.key (with_film (Some (blank_film (unsigned_abs c.args.w) (unsigned_abs c.args.h)))) reply Done c.done.ensures.reply
    (c.set_film.ensures.film
    ∙ ap (λ (film : FilmState). edited c.in-Ok.id.key (with_film (Some film)) tree) c.in-Ok-new.ensures.blank
    ∙ ap₂ (λ (across down : ℕ). edited c.in-Ok.id.key (with_film (Some (blank_film across down))) tree) (c.unsigned_abs.ensures.value ∙ ap unsigned_abs plain) (c.unsigned_abs-2.ensures.value ∙ ap unsigned_abs plain_h))
    c.screen_for.ensures.valid moded.found.id (λ row. refl)
    (λ desk. step_mode-by (with_rows (rows_of tree) desk) c.args.client c.args.name.now c.args.w c.args.h (is_memory reply) None (moded.allowed desk (is_memory reply) ∙ ap (λ (r : Reply). when (is_memory r) Memory) c.done.ensures.reply))

pub returns-clause-tells : goal.returns-clause-tells
returns-clause-tells c =
    let tree = c.args.tree.now in
    let found = c.in-Ok.ensures.screen.found in
    let film = c.in-Ok-new.film in
    let is = read-row (λ (row : Row). option_map_or (λ (own : FilmState). same_film own film) row.film false) tree c.in-Ok.id.key found.row c.has_film-same.result found.there c.has_film-same.ensures.has in
    let tells = mode_tells found.row film c.has_film-same.result c.done.result.changed is c.done.ensures.changed in
    tells_edit tree c.set_film.new.self c.args.client c.args.name.now c.in-Ok.id.key VScreen (with_film (Some film)) c.done.result.changed c.screen_for.ensures.valid found c.set_film.ensures.film tells.0 tells.1
