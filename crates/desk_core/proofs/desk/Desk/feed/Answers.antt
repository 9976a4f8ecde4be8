use Rattle.std.proofs.Common.{◌≡◌, refl, sym, ap, ◌∙◌, subst}
use Rattle.widget_model.specs.Widgets.{rows_of}
use Rattle.widget_model.specs.Forest.{IsWidgets}
use Rattle.scene_model.specs.Scene.{Scene}
use Rattle.scene_core.specs.declared.view.View.{View}
use Rattle.scene_core.specs.View.{scene_of}
use Rattle.desk_model.specs.Seen as seen
use Rattle.desk_model.specs.InPlace.{StaysInPlace}
use Rattle.desk_model.specs.Scope.{effects_scope}
use Rattle.desk_model.specs.Feeding.{effects_on, step_feed}
use Rattle.desk_layout.specs.Numbers.{KeepsNumbers}
use Rattle.desk_commands.specs.Parts.{desk_of, stage_of}
use Rattle.look_data.specs.Watched.{AreWatched, has_changed}
use Rattle.touch_rules.specs.Laws.{WatchesScope}
use Rattle.desk_inputs.proofs.CarriedDesks.{grab-under}
use Rattle.desk_core.specs.View.{DeskView}
use Rattle.desk_core.specs.Touching.{numbered_of}
use Rattle.desk_core.specs.Watching.{effects_numbers, value_number}
use Rattle.desk_core.proofs.Views.{view-scene}
use Rattle.desk_core.proofs.TouchedLooks.{fed-touched}
use Rattle.desk_core.proofs.FedDesks.{holds-live, fed-taken, fed-opened, fed-still, fed-watches, fed-step, fed-numbers, fed-kept, fed-in-place}
use Rattle.desk_core.proofs.desk.Desk.feed.Goals as goal

pub asked_on-effects-requires-clause-held : goal.asked_on-effects-requires-clause-held
asked_on-effects-requires-clause-held c =
    let i = c.self.inside in
    grab-under i.shape i.roster i.clients i.tree i.pointer i.windows c.self.invariant.desk (holds-live i.tree i.pointer c.self.invariant.held)

pub keep_watched-before-requires : goal.keep_watched-before-requires
keep_watched-before-requires c =
    let W : View → Type 0 = λ v. IsWidgets v.tree.now in
    subst W (sym c.view_of-shown.ensures) c.self.invariant.parts.tree

pub carry_out-carried-requires-clause-taken : goal.carry_out-carried-requires-clause-taken
carry_out-carried-requires-clause-taken c =
    let i = c.self.inside in
    fed-taken i.shape i.pointer i.clients i.tree i.windows i.roster c.asked_on-effects.result c.args.input c.self.invariant c.asked_on-effects.ensures.effects

pub carry_out-carried-requires-clause-opened : goal.carry_out-carried-requires-clause-opened
carry_out-carried-requires-clause-opened c =
    let i = c.self.inside in
    fed-opened i.shape i.pointer i.clients i.tree i.windows i.roster c.asked_on-effects.result c.args.input c.self.invariant c.asked_on-effects.ensures.effects

pub carry_out-carried-requires-clause-still : goal.carry_out-carried-requires-clause-still
carry_out-carried-requires-clause-still c =
    let i = c.self.inside in
    fed-still i.shape i.pointer i.clients i.tree i.windows i.roster c.asked_on-effects.result c.args.input c.self.invariant c.asked_on-effects.ensures.effects

pub invariant_of-self : goal.invariant_of-self
invariant_of-self c =
    let i = c.self.inside in
    let now = c.carry_out-carried.new in
    fed-kept i.shape i.pointer i.clients i.tree i.windows i.roster c.asked_on-effects.result c.args.input c.self.invariant c.asked_on-effects.ensures.effects
    now.pointer now.clients now.tree now.windows c.carry_out-carried.result c.carry_out-carried.ensures

pub tell_changed-requires : goal.tell_changed-requires
tell_changed-requires c =
    let W : View → Type 0 = λ v. IsWidgets v.tree.now in
    record { widgets = subst W (sym c.view_of-shows.ensures) c.carry_out-carried.ensures.parts.tree }

pub returns-clause-step : goal.returns-clause-step
returns-clause-step c =
    let i = c.self.inside in
    let now = c.carry_out-carried.new in
    fed-step i.shape i.pointer i.clients i.tree i.windows i.roster c.asked_on-effects.result c.args.input c.self.invariant c.asked_on-effects.ensures.effects
    now.pointer now.clients now.tree now.windows c.carry_out-carried.result c.carry_out-carried.ensures
    ∙ ap (λ (s : DeskView). step_feed s.desk c.args.input) c.self.view_is

pub returns-clause-valid : goal.returns-clause-valid
returns-clause-valid c = (invariant_of-self c).desk

pub returns-clause-numbered : goal.returns-clause-numbered
returns-clause-numbered c =
    let i = c.self.inside in
    let now = c.carry_out-carried.new in
    let N : DeskView → Type 0 = λ s. KeepsNumbers s.widgets.entries now.tree.entries in
    subst N c.self.view_is
    (fed-numbers i.shape i.pointer i.clients i.tree i.windows i.roster c.asked_on-effects.result c.args.input c.self.invariant c.asked_on-effects.ensures.effects
    now.pointer now.clients now.tree now.windows c.carry_out-carried.result c.carry_out-carried.ensures)

pub returns-clause-still : goal.returns-clause-still
returns-clause-still c = λ none.
    let i = c.self.inside in
    let now = c.carry_out-carried.new in
    let S : DeskView → Type 0 = λ s. StaysInPlace s.desk (desk_of (stage_of i.shape i.roster now.clients now.tree now.pointer) now.tree now.windows) in
    subst S c.self.view_is
    (fed-in-place i.shape i.pointer i.clients i.tree i.windows i.roster c.asked_on-effects.result c.args.input c.self.invariant c.asked_on-effects.ensures.effects
    now.pointer now.clients now.tree now.windows c.carry_out-carried.result c.carry_out-carried.ensures none)

pub returns-clause-touched : goal.returns-clause-touched
returns-clause-touched c =
    let i = c.self.inside in
    let call = c.carry_out-carried in
    let now = call.new in
    let event = c.args.input in
    let effects = c.asked_on-effects.result in
    let touched = c.tell_changed.new.touched.looks.items in
    let looks = c.keep_watched-before.result in
    let named = effects_numbers i.pointer effects in
    let variable = value_number effects in
    let new : DeskView = record { desk = desk_of (stage_of i.shape i.roster now.clients now.tree now.pointer) now.tree now.windows; changed = call.result.changed; moved = call.result.moved; widgets = now.tree; windows = now.windows; touched = touched } in
    let kept = invariant_of-self c in
    let W : DeskView → Type 0 = λ s. IsWidgets s.widgets in
    let R : DeskView → Type 0 = λ s. s.desk.rows ≡ rows_of s.widgets in
    let O : DeskView → Type 0 = λ s. WatchesScope (effects_scope s.desk.pointer (effects_on s.desk event)) named variable (numbered_of s) in
    let K : DeskView → Type 0 = λ s. AreWatched named variable s.widgets s.windows (seen.scene_of s.desk) looks in
    let V : View → Type 0 = λ v. AreWatched (effects_numbers v.pointer.now effects) variable v.tree.now v.stack.now (scene_of v) looks in
    let S : Scene → Type 0 = λ s. AreWatched named variable i.tree i.windows s looks in
    fed-touched c.args.self.now new event named variable looks
    (subst W c.self.view_is c.self.invariant.parts.tree)
    kept.parts.tree
    (subst R c.self.view_is refl)
    refl
    (returns-clause-numbered c)
    (returns-clause-step c)
    (subst O c.self.view_is (fed-watches i.shape i.pointer i.clients i.tree i.windows i.roster effects event c.self.invariant c.asked_on-effects.ensures.effects c.asked_on-effects.ensures.live))
    (subst K c.self.view_is (subst S (view-scene i.shape i.roster i.clients i.pointer i.tree i.windows c.self.invariant.parts.windows) (subst V c.view_of-shown.ensures c.keep_watched-before.ensures)))
    (λ id.
    c.tell_changed.ensures.told id
    ∙ ap (λ (v : View). has_changed looks v.tree.now v.stack.now (scene_of v) id) c.view_of-shows.ensures
    ∙ ap (λ (s : Scene). has_changed looks now.tree now.windows s id) (view-scene i.shape i.roster now.clients now.pointer now.tree now.windows kept.parts.windows))
