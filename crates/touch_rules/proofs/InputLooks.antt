-- What is kept before an input and told after it is what it touched: an input shows no film anew.
use Rattle.std.proofs.Common.{◌≡◌, ℕ, List, Option, Some, None, refl, sym, ap, ◌∙◌}
use Rattle.std.proofs.Math.Bool.{or-false}
use Rattle.std.specs.Option.{option_map}
use Rattle.kind_core.specs.declared.kinds.Kind.{Kind}
use Rattle.vscreen_core.specs.FilmState.{FilmState}
use Rattle.cmd_words.specs.declared.inputs.Input.{Input}
use Rattle.widget_model.specs.Rows.{Row}
use Rattle.widget_model.specs.Keys.{row_of}
use Rattle.widget_model.specs.Widgets.{row_at}
use Rattle.scene_model.specs.Scene.{Scene}
use Rattle.desk_model.specs.Desk.{Desk}
use Rattle.desk_model.specs.InputEffects.{Effects}
use Rattle.desk_model.specs.LetGo.{let_go}
use Rattle.desk_model.specs.Feeding.{rows_after, carried_out, effects_on, step_feed}
use Rattle.desk_model.specs.Scope.{effects_scope}
use Rattle.desk_model.proofs.FedRows.{fed_row, fed_row-same, row_named-fed}
use Rattle.look_data.specs.Watched.{has_changed}
use Rattle.touch_rules.specs.Touched.{Numbered}
use Rattle.touch_rules.specs.Films.{shown_film}
use Rattle.touch_rules.specs.Laws.{IsNumbered, KeepsKeys}
use Rattle.touch_rules.specs.Telling.{InputsTellLooks}
use Rattle.touch_rules.proofs.SameLooks.{named-row}
use Rattle.touch_rules.proofs.ShownFilms.{alike-same}
use Rattle.desk_model.proofs.Scopes.{inputs_keep_to_their_scope}
use Rattle.touch_rules.proofs.UnwatchedLooks.{stays-between}
use Rattle.touch_rules.proofs.WatchedLooks.{watched_looks_are_enough}

-- an input leaves each row's kind and film
film-fed : (effects : Effects) (before after : Numbered) (id : ℕ) (a b : Row) → IsNumbered before → IsNumbered after → KeepsKeys before after → after.scene.rows ≡ rows_after effects before.scene.rows → row_at before.widgets.entries id ≡ Some a → row_at after.widgets.entries id ≡ Some b → shown_film b ≡ shown_film a
film-fed effects before after id a b valid valid' keys rows at_a at_b =
    let one : Some b ≡ Some (fed_row effects a) =
    sym (named-row after id b valid' at_b)
    ∙ ap (row_of after.scene.rows) (sym (keys.each id a b at_a at_b))
    ∙ ap (λ (rs : List Row). row_of rs (a.client, a.name)) rows
    ∙ row_named-fed effects before.scene.rows a.client a.name
    ∙ ap (option_map (fed_row effects)) (named-row before id a valid at_a) in
    let same : b ≡ fed_row effects a = cc in
    let stays = fed_row-same effects a in
    ap shown_film same
    ∙ ap (λ (k : Kind). shown_film (record (fed_row effects a) { kind = k })) stays.kind
    ∙ ap (λ (f : Option FilmState). shown_film (record a { film = f })) stays.film

rows-fed : (desk : Desk) (input : Input) → (step_feed desk input).rows ≡ rows_after (effects_on desk input) desk.rows
unfolding step_feed let_go carried_out
rows-fed desk input = refl

pub inputs_tell_looks : InputsTellLooks
inputs_tell_looks desk input before after named variable looks touched valid valid' keys scene watches watched scene' told =
    watched_looks_are_enough (effects_scope desk.pointer (effects_on desk input)) named variable None before after looks touched valid valid' keys
    (stays-between (effects_scope desk.pointer (effects_on desk input)) desk (step_feed desk input) before.scene after.scene scene scene' (inputs_keep_to_their_scope desk input))
    watches
    (record { each = λ id a b at_a at_b. alike-same (shown_film a) (shown_film b) (film-fed (effects_on desk input) before after id a b valid valid' keys rows at_a at_b) })
    watched
    (λ id. told id ∙ sym (or-false (has_changed looks after.widgets after.windows after.scene id)))
  where
    rows : after.scene.rows ≡ rows_after (effects_on desk input) before.scene.rows
    rows = ap (λ (s : Scene). s.rows) scene' ∙ rows-fed desk input ∙ ap (λ (s : Scene). rows_after (effects_on desk input) s.rows) (sym scene)
