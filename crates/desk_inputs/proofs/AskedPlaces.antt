-- The kept places of the widget that is hit and of the one that is held are their places.
use Rattle.std.proofs.Common.{◌≡◌, ℕ, ℤ, pos, Bool, true, cond, List, [], ◌∷◌, Option, Some, None, refl, sym, ap, ap₂, ◌∙◌, subst}
use Rattle.std.specs.List.{All, list_all}
use Rattle.std.specs.Option.{option_map, option_map_or}
use Rattle.std.proofs.lemmas.Bool.{and_from}
use Rattle.std.proofs.lemmas.List.Elements.{All-head, All-tail}
use Rattle.geom_core.specs.declared.rectangle.Rect.{Rect}
use Rattle.geom_core.specs.Rect.{IsInRange}
use Rattle.kind_core.specs.declared.kinds.Kind.TheVariants.{Window}
use Rattle.widget_model.specs.Rows.{Row}
use Rattle.widget_model.specs.Kinds.{is_window_kind}
use Rattle.widget_model.specs.Named.{is_kind_of}
use Rattle.widget_model.specs.Keys.{key_of, row_of, root_key}
use Rattle.widget_model.specs.Pointer as model
use Rattle.widget_model.specs.Pointer.{no_grab}
use Rattle.widget_model.specs.Widgets.{Widgets, IsLive, row_at, row_kind, key_at, rows_of, place_at}
use Rattle.widget_model.specs.Forest.{IsWidgets}
use Rattle.widget_model.proofs.Hanging.{all_at, find-element}
use Rattle.tree_core.specs.declared.id.Id.{Id}
use Rattle.tree_core.specs.declared.pointer.Pointer.{Pointer}
use Rattle.tree_core.specs.declared.pointer.Grab.{Grab}
use Rattle.tree_core.specs.declared.pointer.Grab.TheVariants.{Nothing, Widget, Drag}
use Rattle.tree_core.specs.Holds.{grab_seen}
use Rattle.tree_core.proofs.Listed.{row_named-row}
use Rattle.scene_model.specs.Scene.{Scene}
use Rattle.scene_model.specs.Placing.{place_in}
use Rattle.scene_model.specs.DuePlaces.{due_place}
use Rattle.scene_model.specs.Showing.{place_of, top_of, shows_at}
use Rattle.scene_model.proofs.TopWidget.{top_is_on_top}
use Rattle.scene_model.proofs.Ranges.{places_are_in_range}
use Rattle.scene_model.proofs.FitWidgets.{widgets_are_fit}
use Rattle.scene_core.specs.View.{keys_of, scene_from, AreWindows}
use Rattle.desk_layout.specs.Placed.{HaveDuePlaces}
use Rattle.desk_model.specs.InputEffects as input
use Rattle.desk_model.specs.Feeding.{grabbed}
use Rattle.desk_model.proofs.Sound.{names_window}
use Rattle.desk_model.proofs.KeptInputs.{window-root}
use Rattle.input_core.specs.Numbered.{numbered}
use Rattle.input_core.specs.Seen.{key_seen, hit_seen}
use Rattle.input_core.proofs.Numbers.{numbered_row}
use Rattle.input_core.proofs.Keys.{key_at-numbered, key_seen-numbered, row_of-numbered}
use Rattle.input_core.proofs.Steps.{grab-widget, grab-drag}
use Rattle.desk_inputs.specs.Asked.{IsUnderWindow, hit_in, held_in}

-- the place of a live number, by its key
place-key : (w : Widgets) (id : Id) (scene : Scene) → scene.rows ≡ rows_of w → IsWidgets w → IsLive w id.key → place_of scene (key_seen w.entries id) ≡ place_in (rows_of w) (numbered w.entries id.key)
unfolding place_of
place-key w id scene same kept live =
    let nowhere : Rect = record { x = pos 0; y = pos 0; w = 0; h = 0 } in
    ap (λ (rows : List Row). option_map_or (place_in rows) (row_of rows (key_seen w.entries id)) nowhere) same
    ∙ ap (λ (o : Option Row). option_map_or (place_in (rows_of w)) o nowhere) (ap (row_of (rows_of w)) (key_seen-numbered w.entries id live) ∙ row_of-numbered w id.key kept live)

place-due : (w : Widgets) (id : Id) → IsLive w id.key → HaveDuePlaces w → IsUnderWindow (rows_of w) (key_seen w.entries id) → place_at w id.key ≡ Some (place_in (rows_of w) (numbered w.entries id.key))
unfolding due_place
place-due w id live due under =
    let row = numbered w.entries id.key in
    let is : is_kind_of is_window_kind (row_of (rows_of w) (root_key (rows_of w) (key_of row))) ≡ true =
    ap (λ (key : ℕ × List ℕ). is_kind_of is_window_kind (row_of (rows_of w) (root_key (rows_of w) key))) (sym (key_seen-numbered w.entries id live)) ∙ under in
    due.each id.key row (numbered_row w.entries id.key live) ∙ ap (λ (b : Bool). cond b (Some (place_in (rows_of w) row)) None) is

pub place-kept : (w : Widgets) (id : Id) (place : Rect) → IsWidgets w → IsLive w id.key → HaveDuePlaces w → IsUnderWindow (rows_of w) (key_seen w.entries id) → place_at w id.key ≡ Some place → (scene : Scene) → scene.rows ≡ rows_of w → place_of scene (key_seen w.entries id) ≡ place
place-kept w id place kept live due under there scene same =
    let is : Some (place_in (rows_of w) (numbered w.entries id.key)) ≡ Some place = sym (place-due w id live due under) ∙ there in
    let one : place_in (rows_of w) (numbered w.entries id.key) ≡ place = cc in
    place-key w id scene same kept live ∙ one

pub place-there : (w : Widgets) (id : Id) → IsLive w id.key → HaveDuePlaces w → IsUnderWindow (rows_of w) (key_seen w.entries id) → place_at w id.key ≡ None → ⊥
place-there w id live due under none =
    let both : Some (place_in (rows_of w) (numbered w.entries id.key)) ≡ None = sym (place-due w id live due under) ∙ none in
    absurd (cc)

pub place-range : (w : Widgets) (id : Id) (place : Rect) → IsWidgets w → IsLive w id.key → HaveDuePlaces w → IsUnderWindow (rows_of w) (key_seen w.entries id) → place_at w id.key ≡ Some place → IsInRange place
place-range w id place kept live due under there =
    let row = numbered w.entries id.key in
    let is : Some (place_in (rows_of w) row) ≡ Some place = sym (place-due w id live due under) ∙ there in
    let one : place_in (rows_of w) row ≡ place = cc in
    subst IsInRange one (places_are_in_range (rows_of w) row (widgets_are_fit w kept) (row_of-numbered w id.key kept live)).in_range

-- the open windows of a view are Windows
window-named : (w : Widgets) (id : ℕ) → IsWidgets w → row_kind w.entries id ≡ Some Window → (o : Option Row) → row_at w.entries id ≡ o → (rest : List (ℕ × List ℕ)) → list_all (names_window (rows_of w)) rest ≡ true → list_all (names_window (rows_of w)) (option_map_or (λ key. key ∷ rest) (option_map key_of o) rest) ≡ true
window-named w id kept is None there rest all = all
window-named w id kept is (Some row) there rest all =
    let kind : Some row.kind ≡ Some Window = sym (ap (option_map (λ (r : Row). r.kind)) there) ∙ is in
    let one : row.kind ≡ Window = cc in
    let named = row_named-row w.entries id row kept.numbered.own_numbers kept.rows.names there in
    and_from (names_window (rows_of w) (key_of row)) (list_all (names_window (rows_of w)) rest) (ap (is_kind_of is_window_kind) named ∙ ap is_window_kind one) all

windows-named : (w : Widgets) (ids : List ℕ) → IsWidgets w → All (λ id. row_kind w.entries id ≡ Some Window) ids → list_all (names_window (rows_of w)) (keys_of w.entries ids) ≡ true
windows-named w [] kept all = refl
windows-named w (id ∷ ids) kept all =
    window-named w id kept (All-head (λ id. row_kind w.entries id ≡ Some Window) id ids all) (row_at w.entries id) refl (keys_of w.entries ids) (windows-named w ids kept (All-tail (λ id. row_kind w.entries id ≡ Some Window) id ids all))

-- the top widget is a Window or under one
pub top-seen : (w : Widgets) (id : Id) (top : Option (ℕ × List ℕ)) → IsLive w id.key → key_at w.entries id.key ≡ top → top ≡ Some (key_seen w.entries id)
top-seen w id top live is = sym is ∙ key_at-numbered w.entries id.key live ∙ ap Some (sym (key_seen-numbered w.entries id live))

pub top-under : (w : Widgets) (keys : List ℕ) (pointer : Pointer) (width height : ℕ) (x y : ℤ) (id : Id) → IsWidgets w → AreWindows w keys → IsLive w id.key → key_at w.entries id.key ≡ top_of (scene_from w keys pointer width height) x y → IsUnderWindow (rows_of w) (key_seen w.entries id)
top-under w keys pointer width height x y id kept windows live is =
    let scene = scene_from w keys pointer width height in
    let rows = rows_of w in
    let on = top_is_on_top scene (key_seen w.entries id) x y kept.rows.planted kept.rows.names (top-seen w id (top_of scene x y) live is) in
    let at = find-element (λ (window : ℕ × List ℕ). shows_at scene window x y) scene.windows on.0 on.1.first in
    let named : names_window rows on.0 ≡ true = all_at (names_window rows) scene.windows at.0 on.0 (windows-named w keys kept windows.each) at.1 in
    ap (λ (key : ℕ × List ℕ). is_kind_of is_window_kind (row_of rows key)) (on.1.under ∙ window-root rows on.0 kept.rows.planted named) ∙ named

pub hit-seen : (w : Widgets) (keys : List ℕ) (pointer : Pointer) (width height : ℕ) (x y : ℤ) (id : Id) (place : Rect) → IsLive w id.key → key_at w.entries id.key ≡ top_of (scene_from w keys pointer width height) x y → x ≡ pos pointer.x → y ≡ pos pointer.y → place_of (scene_from w keys pointer width height) (key_seen w.entries id) ≡ place → option_map (hit_seen w.entries) (Some (record { id = id; place = place })) ≡ hit_in (scene_from w keys pointer width height)
hit-seen w keys pointer width height x y id place live is x_is y_is placed =
    let scene = scene_from w keys pointer width height in
    let at : ℕ × List ℕ → input.Hit = λ key. record { key = key; place = place_of scene key } in
    let top = top-seen w id (top_of scene x y) live is in
    ap (λ (p : Rect). let hit : input.Hit = record { key = key_seen w.entries id; place = p } in Some hit) (sym placed)
    ∙ ap (option_map at) (sym top)
    ∙ ap₂ (λ (m n : ℤ). option_map at (top_of scene m n)) x_is y_is

pub hit-none : (w : Widgets) (keys : List ℕ) (pointer : Pointer) (width height : ℕ) (x y : ℤ) → None ≡ top_of (scene_from w keys pointer width height) x y → x ≡ pos pointer.x → y ≡ pos pointer.y → None ≡ hit_in (scene_from w keys pointer width height)
hit-none w keys pointer width height x y is x_is y_is =
    let scene = scene_from w keys pointer width height in
    let at : ℕ × List ℕ → input.Hit = λ key. record { key = key; place = place_of scene key } in
    ap (option_map at) is ∙ ap₂ (λ (m n : ℤ). option_map at (top_of scene m n)) x_is y_is

-- the place of what is held
pub held-widget : (w : Widgets) (keys : List ℕ) (pointer : Pointer) (width height : ℕ) (id : Id) (place : Rect) → IsLive w id.key → pointer.grab ≡ Widget id → place_of (scene_from w keys pointer width height) (key_seen w.entries id) ≡ place → Some place ≡ held_in (scene_from w keys pointer width height)
held-widget w keys pointer width height id place live is placed =
    let scene = scene_from w keys pointer width height in
    ap Some (sym placed ∙ ap (place_of scene) (key_seen-numbered w.entries id live))
    ∙ sym (ap (λ (g : model.Grab). option_map (place_of scene) (grabbed g)) (ap (λ (g : Grab). grab_seen w.entries g) is ∙ grab-widget w.entries id live))

pub held-drag : (w : Widgets) (keys : List ℕ) (pointer : Pointer) (width height : ℕ) (id : Id) (dx dy : ℕ) (place : Rect) → IsLive w id.key → pointer.grab ≡ Drag id dx dy → place_of (scene_from w keys pointer width height) (key_seen w.entries id) ≡ place → Some place ≡ held_in (scene_from w keys pointer width height)
held-drag w keys pointer width height id dx dy place live is placed =
    let scene = scene_from w keys pointer width height in
    ap Some (sym placed ∙ ap (place_of scene) (key_seen-numbered w.entries id live))
    ∙ sym (ap (λ (g : model.Grab). option_map (place_of scene) (grabbed g)) (ap (λ (g : Grab). grab_seen w.entries g) is ∙ grab-drag w.entries id dx dy live))

pub held-nothing : (w : Widgets) (keys : List ℕ) (pointer : Pointer) (width height : ℕ) → pointer.grab ≡ Nothing → None ≡ held_in (scene_from w keys pointer width height)
held-nothing w keys pointer width height is =
    let scene = scene_from w keys pointer width height in
    sym (ap (λ (g : Grab). option_map (place_of scene) (grabbed (grab_seen w.entries g))) is)
