use Rattle.std.proofs.Common.{◌≡◌, Bool, not, Some, None, true, false, refl, sym, ◌∙◌}
use Rattle.std.proofs.lemmas.Bool.{true≢false}
use Rattle.kind_core.specs.declared.kinds.Kind.TheVariants.{VScreen}
use Rattle.cmd_words.specs.declared.replies.Reply.TheVariants.{Done}
use Rattle.widget_model.specs.Widgets.{rows_of}
use Rattle.desk_model.specs.Screens.{with_film_changed, framed, step_frame}
use Rattle.desk_commands.specs.Effects.{with_rows}
use Rattle.desk_commands.specs.Screens.{keeps_film}
use Rattle.desk_commands.proofs.Effects.{refused_did, done_did}
use Rattle.desk_commands.proofs.Changes.{tells_edit}
use Rattle.desk_commands.proofs.Films.{framed-same, framed-other, film_row-same, film_row-other}
use Rattle.desk_commands.proofs.ScreenSteps.{step_frame-by}
use Rattle.desk_commands.proofs.AdmitSteps.{framed_allowed}
use Rattle.desk_commands.proofs.screens.take_frame.Goals as goal

pub returns-in-Err-clause-did : goal.returns-in-Err-clause-did
returns-in-Err-clause-did c =
    refused_did (λ desk. step_frame desk c.args.client c.args.name.now c.args.frame.now) c.args.tree.now c.refused.result.reply c.in-Err.refusal c.refused.ensures.reply
    (λ desk. step_frame-by (with_rows (rows_of c.args.tree.now) desk) c.args.client c.args.name.now c.args.frame.now (Some c.in-Err.refusal) (c.in-Err.ensures.screen desk))

pub returns-clause-did : goal.returns-clause-did
returns-clause-did c =
    let framed_is = c.in-Ok.ensures.screen in
    done_did (λ desk. step_frame desk c.args.client c.args.name.now c.args.frame.now) c.args.tree.now c.commit_frame.new.tree c.args.client c.args.name.now c.in-Ok.framed.id.key (with_film_changed (framed c.args.frame.now)) c.done.result.reply Done c.done.ensures.reply c.commit_frame.ensures.film c.screen_of.ensures.valid framed_is.found.id (λ row. refl)
    (λ desk.
    step_frame-by (with_rows (rows_of c.args.tree.now) desk) c.args.client c.args.name.now c.args.frame.now None
    (framed_allowed (with_rows (rows_of c.args.tree.now) desk) c.args.client c.args.name.now c.args.frame.now framed_is.found.row framed_is.film framed_is.found.named framed_is.found.has framed_is.has framed_is.size))

pub returns-clause-tells : goal.returns-clause-tells
returns-clause-tells c =
    let framed_is = c.in-Ok.ensures.screen in
    let frame = c.args.frame.now in
    let told : c.done.result.changed ≡ not (keeps_film framed_is.film frame) = c.done.ensures.changed ∙ framed_is.tells in
    tells_edit c.args.tree.now c.commit_frame.new.tree c.args.client c.args.name.now c.in-Ok.framed.id.key VScreen (with_film_changed (framed frame)) c.done.result.changed c.screen_of.ensures.valid framed_is.found c.commit_frame.ensures.film
    (λ h. film_row-other framed_is.found.row framed_is.film (framed frame) framed_is.has (framed-other frame framed_is.film framed_is.size (by_true (keeps_film framed_is.film frame) (sym told ∙ h))))
    (λ h. film_row-same framed_is.found.row framed_is.film (framed frame) framed_is.has (framed-same frame framed_is.film framed_is.size (by_false (keeps_film framed_is.film frame) (sym told ∙ h))))
  where
    by_true : (b : Bool) → not b ≡ true → b ≡ false
    by_true false h = refl
    by_true true h = absurd (true≢false (sym h))

    by_false : (b : Bool) → not b ≡ false → b ≡ true
    by_false true h = refl
    by_false false h = absurd (true≢false h)
