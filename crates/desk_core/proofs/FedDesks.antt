-- What an input makes of the parts of a desk: the desk of its step, parts that keep what they kept, and what stays in
-- place.
use Rattle.std.proofs.Common.{◌≡◌, ◌≤◌, ◌<◌, ℕ, true, false, List, [], ◌∷◌, map, Option, Some, None, is_some, refl, sym, ap, ◌∙◌, subst, arith}
use Rattle.std.proofs.lemmas.Bool.{and_parts, and_from}
use Rattle.std.specs.Prelude.{IfSome}
use Rattle.std.specs.List.{list_all}
use Rattle.std.specs.Option.{option_map}
use Rattle.kind_core.specs.declared.shapes.Shape.{Shape}
use Rattle.admit_core.specs.Roster.{RosterState}
use Rattle.cmd_words.specs.declared.inputs.Input.{Input}
use Rattle.widget_model.specs.Rows.{Row}
use Rattle.widget_model.specs.Nodes.{Node, node_at}
use Rattle.widget_model.specs.Widgets.{Widgets, IsLive, nodes, rows_of, row_at}
use Rattle.tree_core.specs.declared.id.Id.{Id}
use Rattle.tree_core.specs.declared.pointer.Grab.{Grab}
use Rattle.tree_core.specs.declared.pointer.Grab.TheVariants.{Nothing, Widget, Drag}
use Rattle.tree_core.specs.declared.pointer.Pointer.{Pointer}
use Rattle.scene_model.specs.Scene.{Scene}
use Rattle.scene_core.specs.View.{scene_from}
use Rattle.desk_model.specs.Desk.{Desk, Ring, is_open}
use Rattle.desk_model.specs.InputEffects as model
use Rattle.desk_model.specs.InputFacts.{TakesValues}
use Rattle.desk_model.specs.DeskFacts.{IsDesk}
use Rattle.desk_model.specs.LetGo.{let_go}
use Rattle.desk_model.specs.Feeding.{hit_of, held_place, carried_out, effects_on, step_feed}
use Rattle.desk_model.proofs.KeptInputs.{AreTaken-input, inputs_keep}
use Rattle.desk_model.proofs.PointedInputs.{IsOnScreen, stays-on-screen}
use Rattle.input_core.specs.declared.effects.Effects.{Effects}
use Rattle.input_core.specs.Live as input
use Rattle.input_core.specs.Seen.{key_seen, effects_seen}
use Rattle.desk_layout.specs.Numbers.{KeepsNumbers}
use Rattle.desk_layout.proofs.KeyNumbers.{numbers-more}
use Rattle.desk_commands.specs.Parts.{desk_of, stage_of, is_live_entry, AreParts}
use Rattle.desk_commands.specs.Pointer.{IsGrabLive, HoldsLive}
use Rattle.desk_commands.proofs.Admissions.{admitted-live}
use Rattle.desk_inputs.specs.Asked.{effects_in}
use Rattle.desk_inputs.specs.Raised.{is_open_at}
use Rattle.desk_inputs.proofs.CarriedDesks.{effects_in-desk, fed-desk}
use Rattle.desk_inputs.proofs.GivenValues.{live-kept}
use Rattle.desk_core.specs.Kept.{IsKept}
use Rattle.desk_model.specs.Seen as seen
use Rattle.desk_model.specs.Scope.{effects_scope}
use Rattle.desk_model.specs.InPlace.{hung_of, StaysInPlace}
use Rattle.desk_moves.specs.Stays.{MoveNothing}
use Rattle.touch_rules.specs.Laws.{WatchesScope}
use Rattle.desk_core.specs.declared.carried.Carried.{Carried}
use Rattle.desk_core.specs.Watching.{effects_numbers, value_number}
use Rattle.desk_core.specs.Feeding.{StillUnlessMoving, IsCarried}
use Rattle.desk_model.proofs.InPlace.{inputs_leave_hung}
use Rattle.desk_inputs.proofs.StillInputs.{unmoved-input}
use Rattle.desk_core.proofs.StillDesks.{stays-in-place}
use Rattle.desk_core.proofs.WatchedScopes.{watches-scope}
use Rattle.desk_core.proofs.Views.{view-scene}
use Rattle.desk_core.proofs.Rosters.{lists-admitted}

-- the pointer's numbers are live
live-grab : (w : Widgets) (grab : Grab) → IsGrabLive w.entries grab → input.IsLiveGrab w grab
live-grab w Nothing live = tt
live-grab w (Widget id) live = live
live-grab w (Drag id dx dy) live = live

live-focus : (w : Widgets) (focus : Option Id) → IfSome focus (λ id. is_some (row_at w.entries id.key) ≡ true) → IfSome focus (λ id. IsLive w id.key)
live-focus w None live = tt
live-focus w (Some id) live = live

pub holds-live : (w : Widgets) (pointer : Pointer) → HoldsLive w.entries pointer → input.HoldsLive w pointer
holds-live w pointer held = record { grab = live-grab w pointer.grab held.grab; focus = live-focus w pointer.focus held.focus }

-- admitted numbers stay live
entries-live : (old new : List (ℕ × Row)) (entries : List (ℕ × ℕ)) → nodes new ≡ nodes old → list_all (is_live_entry old) entries ≡ true → list_all (is_live_entry new) entries ≡ true
entries-live old new [] same live = refl
entries-live old new (e ∷ es) same live =
    let parts = and_parts (is_live_entry old e) (list_all (is_live_entry old) es) live in
    and_from (is_live_entry new e) (list_all (is_live_entry new) es) (live-kept old new e.0 same parts.0) (entries-live old new es same parts.1)

module _ (shape : Shape) (pointer : Pointer) (rings : List Ring) (w : Widgets) (keys : List ℕ) (roster : RosterState) (effects : Effects) (event : Input)
    (kept : IsKept shape pointer rings w keys roster)
    (asked : effects_seen w.entries effects ≡ effects_in (scene_from w keys pointer shape.width shape.height) event) where
  abbrev unfed : Desk
  unfed = desk_of (stage_of shape roster rings w pointer) w keys

  asks : effects_seen w.entries effects ≡ effects_on unfed event
  asks = asked ∙ ap (λ (s : Scene). effects_in s event) (view-scene shape roster rings pointer w keys kept.parts.windows) ∙ effects_in-desk unfed event

  pub fed-taken : TakesValues (rows_of w) (effects_seen w.entries effects)
  fed-taken = subst (TakesValues (rows_of w)) (sym asks) (AreTaken-input unfed event kept.desk).values

  pub fed-opened : IfSome effects.raise (λ id. is_open_at w keys (key_seen w.entries id) ≡ true)
  fed-opened = by effects.raise (subst P (sym asks) (AreTaken-input unfed event kept.desk).raise)
    where
      P : model.Effects → Type 0
      P e = IfSome e.raise (λ window. is_open unfed window.0 window.1 ≡ true)

      by : (o : Option Id) → IfSome (option_map (key_seen w.entries) o) (λ window. is_open unfed window.0 window.1 ≡ true) → IfSome o (λ id. is_open_at w keys (key_seen w.entries id) ≡ true)
      by None taken = tt
      by (Some id) taken = taken

  -- the asked pointer is on the screen
  on_screen : IsOnScreen shape.width shape.height (effects_seen w.entries effects).pointer
  on_screen =
      let wide : 1 ≤ shape.width = omega (arith, kept.desk.shape.width_least) in
      let high : 1 ≤ shape.height = omega (arith, kept.desk.shape.height_least) in
      subst (λ (e : model.Effects). IsOnScreen shape.width shape.height e.pointer) (sym asks)
      (stays-on-screen unfed.rows unfed.pointer (hit_of unfed) (held_place unfed) shape.width shape.height event wide high (record { across = kept.across; down = kept.down }))

  -- values that are said to move nothing move nothing
  pub fed-still : StillUnlessMoving (rows_of w) (effects_seen w.entries effects)
  fed-still = subst (StillUnlessMoving (rows_of w)) (sym asks) (unmoved-input unfed event kept.desk)

  -- all that the input may change is watched
  pub fed-watches : input.AreLive w effects → WatchesScope (effects_scope unfed.pointer (effects_on unfed event)) (effects_numbers pointer effects) (value_number effects) (record { widgets = w; windows = keys; scene = seen.scene_of unfed })
  fed-watches live =
      let W : model.Effects → Type 0 = λ e. WatchesScope (effects_scope unfed.pointer e) (effects_numbers pointer effects) (value_number effects) (record { widgets = w; windows = keys; scene = seen.scene_of unfed }) in
      subst W asks (watches-scope w kept.parts.tree pointer effects keys (seen.scene_of unfed) live)

  module _ (after : Pointer) (rings' : List Ring) (w' : Widgets) (keys' : List ℕ) (told : Carried) (is : IsCarried effects w w' keys keys' rings rings' after told) where
    abbrev fed : Desk
    fed = desk_of (stage_of shape roster rings' w' after) w' keys'

    pub fed-step : fed ≡ step_feed unfed event
    fed-step = fed-desk unfed fed event (effects_seen w.entries effects) asks (is.desk shape roster pointer)

    pub fed-numbers : KeepsNumbers w.entries w'.entries
    fed-numbers = numbers-more w.entries w'.entries is.parts.tree.rows.names (λ id live. ap (λ (ns : List (ℕ × Node)). node_at ns id) is.same_nodes)

    at_x : after.x ≡ effects.pointer.x
    unfolding let_go carried_out
    at_x = ap (λ (d : Desk). d.pointer.x) (is.desk shape roster pointer)

    at_y : after.y ≡ effects.pointer.y
    unfolding let_go carried_out
    at_y = ap (λ (d : Desk). d.pointer.y) (is.desk shape roster pointer)

    pub fed-kept : IsKept shape after rings' w' keys' roster
    fed-kept =
        let kept_desk : IsDesk fed = subst IsDesk (sym fed-step) (inputs_keep unfed event kept.desk) in
        record {
          parts = subst (λ (cs : List ℕ). AreParts cs w' keys') (sym kept_desk.rings.each) is.parts;
          held = is.held;
          limit = kept.limit;
          listed = lists-admitted w' roster is.parts.tree
              (record { valid = kept.listed.valid; live = entries-live w.entries w'.entries roster.entries is.same_nodes (admitted-live w.entries roster.entries kept.listed.admitted) })
              kept_desk.roster.shares;
          desk = kept_desk;
          placed = is.placed;
          across = subst (λ (x : ℕ). x < shape.width) (sym at_x) on_screen.across;
          down = subst (λ (y : ℕ). y < shape.height) (sym at_y) on_screen.down;
        }

    pub fed-in-place : told.moved ≡ false → StaysInPlace unfed fed
    fed-in-place none =
        let unmoved = is.unmoved none in
        stays-in-place unfed fed
        (ap (map hung_of) is.rows ∙ inputs_leave_hung (effects_seen w.entries effects) (rows_of w))
        unmoved.1
        (subst (λ (rs : List Row). MoveNothing (rows_of w) rs) (sym is.rows) (fed-still unmoved.0))
