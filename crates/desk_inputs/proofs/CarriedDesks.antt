-- The desk of the parts after an input: what it asked for is carried out on the desk of the parts before.
use Rattle.std.proofs.Common.{◌≡◌, ℕ, Bool, true, false, cond, List, Option, Some, None, refl, sym, ap, ◌∙◌}
use Rattle.std.specs.List.{fold}
use Rattle.std.specs.Option.{option_map_or, option_and_then}
use Rattle.kind_core.specs.declared.shapes.Shape.{Shape}
use Rattle.admit_core.specs.Roster.{RosterState}
use Rattle.cmd_words.specs.declared.inputs.Input.{Input}
use Rattle.widget_model.specs.Rows.{Row}
use Rattle.widget_model.specs.Nodes.{Node}
use Rattle.widget_model.specs.Pointer.{no_grab, on_widget, drags}
use Rattle.widget_model.specs.Kinds.{is_window_kind}
use Rattle.widget_model.specs.Named.{is_kind_of}
use Rattle.widget_model.specs.Keys.{key_of, row_of, root_key}
use Rattle.widget_model.specs.Trees.{root_of}
use Rattle.widget_model.specs.Widgets.{Widgets, IsLive, nodes, key_at, rows_of}
use Rattle.tree_core.specs.declared.id.Id.{Id}
use Rattle.tree_core.specs.declared.pointer.Pointer.{Pointer}
use Rattle.tree_core.specs.declared.pointer.Grab.{Grab}
use Rattle.tree_core.specs.declared.pointer.Grab.TheVariants.{Nothing, Widget, Drag}
use Rattle.tree_core.specs.Holds.{grab_seen, pointer_seen}
use Rattle.desk_model.specs.Desk.{Desk, Ring}
use Rattle.desk_model.specs.Seen as seen
use Rattle.desk_model.specs.InputEffects as model_effects
use Rattle.desk_model.specs.DeskFacts.{IsDesk}
use Rattle.desk_model.specs.LetGo.{is_in_window, grab_left, let_go}
use Rattle.desk_model.proofs.KeptInputs.{window-there}
use Rattle.desk_model.specs.Feeding.{hit_of, held_place, rows_after, with_post, carried_out, effects_on, step_feed}
use Rattle.input_core.specs.declared.effects.Effects.{Effects}
use Rattle.input_core.specs.Numbered.{numbered}
use Rattle.input_core.specs.Seen.{key_seen, effects_seen}
use Rattle.input_core.specs.Live.{IsLiveGrab, HoldsLive}
use Rattle.input_core.proofs.Keys.{key_seen-numbered}
use Rattle.input_core.proofs.Steps.{grab-widget, grab-drag}
use Rattle.desk_commands.specs.Parts.{desk_of, stage_of, windows_at, admissions_at}
use Rattle.desk_inputs.specs.Carried.{HasRows}
use Rattle.desk_inputs.specs.Raised.{windows_after}
use Rattle.desk_inputs.specs.Asked.{effects_in, IsUnderWindow, GrabIsUnderWindow}
use Rattle.desk_inputs.proofs.GivenValues.{key_at-kept}

-- What an input asks of a desk it asks of its scene.
pub effects_in-desk : (desk : Desk) (input : Input) → effects_in (seen.scene_of desk) input ≡ effects_on desk input
unfolding hit_of held_place
effects_in-desk desk input = refl

-- A pointer names what it named, where the nodes stay.
pub grab_seen-kept : (old new : List (ℕ × Row)) (grab : Grab) → nodes new ≡ nodes old → grab_seen new grab ≡ grab_seen old grab
grab_seen-kept old new Nothing same = refl
grab_seen-kept old new (Widget id) same = ap (λ (key : Option (ℕ × List ℕ)). option_map_or on_widget key no_grab) (key_at-kept old new id.key same)
grab_seen-kept old new (Drag id dx dy) same = ap (λ (key : Option (ℕ × List ℕ)). option_map_or (λ (k : ℕ × List ℕ). drags k dx dy) key no_grab) (key_at-kept old new id.key same)

focus-kept : (old new : List (ℕ × Row)) (focus : Option Id) → nodes new ≡ nodes old → option_and_then (λ (id : Id). key_at new id.key) focus ≡ option_and_then (λ (id : Id). key_at old id.key) focus
focus-kept old new None same = refl
focus-kept old new (Some id) same = key_at-kept old new id.key same

pub pointer_seen-kept : (old new : List (ℕ × Row)) (pointer : Pointer) → nodes new ≡ nodes old → pointer_seen new pointer ≡ pointer_seen old pointer
pointer_seen-kept old new pointer same =
    let grab = grab_seen-kept old new pointer.grab same in
    let focus = focus-kept old new pointer.focus same in
    λ i. record (pointer_seen old pointer) { grab = grab i; focus = focus i }

-- The values are given, the window is raised, the events are posted, and the pointer is the asked one.
pub carried-desk : (shape : Shape) (roster : RosterState) (rings rings' : List Ring) (w w' : Widgets) (pointer : Pointer) (keys keys' : List ℕ) (effects : Effects)
    → HasRows w w' (rows_after (effects_seen w.entries effects) (rows_of w))
    → windows_at (nodes w.entries) keys' ≡ windows_after (effects_seen w.entries effects).raise (windows_at (nodes w.entries) keys)
    → rings' ≡ fold (with_post (rows_of w)) rings (effects_seen w.entries effects).posts
    → desk_of (stage_of shape roster rings' w' effects.pointer) w' keys' ≡ carried_out (effects_seen w.entries effects) (desk_of (stage_of shape roster rings w pointer) w keys)
unfolding carried_out
carried-desk shape roster rings rings' w w' pointer keys keys' effects left raised posted =
    let before = desk_of (stage_of shape roster rings w pointer) w keys in
    let windows = ap (λ (ns : List (ℕ × Node)). windows_at ns keys') left.nodes ∙ raised in
    let admissions = ap (λ (ns : List (ℕ × Node)). admissions_at ns roster.entries) left.nodes in
    let at = pointer_seen-kept w.entries w'.entries effects.pointer left.nodes in
    let clients = left.clients in
    let rows = left.rows in
    λ i. record before { clients = clients i; rows = rows i; windows = windows i; pointer = at i; roster = admissions i; rings = posted i }

-- What is grabbed on a whole desk is a Window or under one.
under-open : (desk : Desk) (key : ℕ × List ℕ) → IsDesk desk → is_in_window desk key ≡ true → is_kind_of is_window_kind (row_of desk.rows (root_key desk.rows key)) ≡ true
under-open desk key kept inside = window-there desk.rows key.0 (root_of desk.rows key.0 key.1) desk.windows kept.windows inside

widget-stays : (stays : ℕ × List ℕ → Bool) (key : ℕ × List ℕ) → grab_left stays (on_widget key) ≡ on_widget key → stays key ≡ true
widget-stays stays key = by (stays key)
  where
    by : (b : Bool) → cond b (on_widget key) no_grab ≡ on_widget key → b ≡ true
    by true h = refl
    by false h = absurd (cc)

drag-stays : (stays : ℕ × List ℕ → Bool) (key : ℕ × List ℕ) (dx dy : ℕ) → grab_left stays (drags key dx dy) ≡ drags key dx dy → stays key ≡ true
drag-stays stays key dx dy = by (stays key)
  where
    by : (b : Bool) → cond b (drags key dx dy) no_grab ≡ drags key dx dy → b ≡ true
    by true h = refl
    by false h = absurd (cc)

grab-held : (desk : Desk) → let_go desk ≡ desk → grab_left (is_in_window desk) desk.pointer.grab ≡ desk.pointer.grab
unfolding let_go
grab-held desk held = ap (λ (d : Desk). d.pointer.grab) held

pub grab-under : (shape : Shape) (roster : RosterState) (rings : List Ring) (w : Widgets) (pointer : Pointer) (keys : List ℕ) → IsDesk (desk_of (stage_of shape roster rings w pointer) w keys) → HoldsLive w pointer → GrabIsUnderWindow w pointer.grab
grab-under shape roster rings w pointer keys kept holds = by pointer.grab holds.grab (grab-held desk kept.held)
  where
    desk : Desk
    desk = desk_of (stage_of shape roster rings w pointer) w keys

    seen_under : (id : Id) → IsLive w id.key → is_in_window desk (key_of (numbered w.entries id.key)) ≡ true → IsUnderWindow (rows_of w) (key_seen w.entries id)
    seen_under id live inside =
        ap (λ (key : ℕ × List ℕ). is_kind_of is_window_kind (row_of (rows_of w) (root_key (rows_of w) key))) (key_seen-numbered w.entries id live) ∙ under-open desk (key_of (numbered w.entries id.key)) kept inside

    by : (grab : Grab) → IsLiveGrab w grab → grab_left (is_in_window desk) (grab_seen w.entries grab) ≡ grab_seen w.entries grab → GrabIsUnderWindow w grab
    by Nothing live held = tt
    by (Widget id) live held =
        let is = grab-widget w.entries id live in
        seen_under id live (widget-stays (is_in_window desk) (key_of (numbered w.entries id.key)) (sym (ap (grab_left (is_in_window desk)) is) ∙ held ∙ is))
    by (Drag id dx dy) live held =
        let is = grab-drag w.entries id dx dy live in
        seen_under id live (drag-stays (is_in_window desk) (key_of (numbered w.entries id.key)) dx dy (sym (ap (grab_left (is_in_window desk)) is) ∙ held ∙ is))

-- An input's step: what it asks for is carried out, and then the pointer lets go.
pub fed-desk : (desk next : Desk) (event : Input) (effects : model_effects.Effects) → effects ≡ effects_on desk event → next ≡ let_go (carried_out effects desk) → next ≡ step_feed desk event
unfolding step_feed
fed-desk desk next event effects asked end = end ∙ ap (λ (e : model_effects.Effects). let_go (carried_out e desk)) asked
