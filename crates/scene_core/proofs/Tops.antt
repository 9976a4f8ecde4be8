-- What a view's windows and children show, by their numbers.
use Rattle.std.proofs.Common.{◌≡◌, ℕ, zero, suc, ◌+◌, ◌<◌, ℤ, pos, Bool, true, false, cond, ◌&&◌, List, [], ◌∷◌, length, drop, get_or, slice_get, All, Option, Some, None, IsSome, refl, sym, ap, ◌∙◌, arith, subst, drop-cons}
use Rattle.std.proofs.lemmas.Bool.{and_parts, true≢false}
use Rattle.std.proofs.lemmas.List.Elements.{All-head, All-tail}
use Rattle.std.specs.List.{find, Contains}
use Rattle.std.specs.Option.{option_map, option_map_or, option_and_then}
use Rattle.geom_core.specs.declared.rectangle.Rect.{Rect}
use Rattle.geom_core.specs.Rect.{in_rect}
use Rattle.kind_core.specs.declared.kinds.Kind.TheVariants.{Window}
use Rattle.kind_core.specs.declared.shapes.Cell.{Cell}
use Rattle.widget_model.specs.Rows.{Row}
use Rattle.widget_model.specs.Named.{row_named}
use Rattle.widget_model.specs.Nodes.{id_named}
use Rattle.widget_model.specs.Keys.{key_of, row_of, same_key, parent_key, root_key}
use Rattle.widget_model.specs.Widgets.{key_at, Widgets, rows_of, row_at, row_kind, nodes, place_at, IsLive}
use Rattle.widget_model.specs.Trees.{can_be_child, is_child, parent_of, root_of, root_in, most_levels}
use Rattle.widget_model.specs.Planted.{has_cell, hangs_right}
use Rattle.widget_model.specs.Relatives.{parent_id, root_id}
use Rattle.widget_model.specs.Forest.{IsWidgets}
use Rattle.widget_model.proofs.Naming.{id_named-row}
use Rattle.widget_model.proofs.Hanging.{all_at, find_none_from}
use Rattle.tree_core.proofs.Listed.{numbered_place}
use Rattle.scene_model.specs.Scene.{Scene}
use Rattle.scene_model.specs.Placing.{place_in}
use Rattle.scene_model.specs.Showing.{place_of, parent_in, on_screen, shows_in, shows_at, child_at, window_at, lowest_in, top_of}
use Rattle.std.proofs.lemmas.Option.{get_or_from_slice_get}
use Rattle.scene_model.proofs.Parents.{parent_of-found, IsChildOf-is_child}
use Rattle.scene_model.proofs.LevelLaws.{children_show_within_parents, children_have_their_parents_root}
use Rattle.scene_model.proofs.Apart.{children_share_no_pixel}
use Rattle.scene_core.specs.Children.{row_for, AreChildren}
use Rattle.scene_core.specs.View.{keys_of, AreWindows, KeepsPlaces, IsUnderOpen}
use Rattle.scene_core.proofs.Numbered.{live-there, read}
use Rattle.scene_core.proofs.ChildNeeds.{child-at, child-number}
use Rattle.scene_core.proofs.LeastSteps.{key-found, child-live}
use Rattle.scene_core.proofs.Finds.{find-only, same_key-true}

-- a Window hangs in none
pub window-alone : (widgets : Widgets) (id : ℕ) → IsWidgets widgets → IsLive widgets id → (row_for widgets id).kind ≡ Window → (row_for widgets id).attached ≡ None
window-alone widgets id valid live is =
    let row = row_for widgets id in
    let place = numbered_place widgets.entries id row (live-there widgets id live) in
    by row.attached refl (all_at (hangs_right (rows_of widgets)) (rows_of widgets) place.0 row valid.rows.planted.hang place.1)
  where
    by : (o : Option (List ℕ × Cell)) → (row_for widgets id).attached ≡ o
        → option_map_or (λ (attached : List ℕ × Cell). can_be_child (row_for widgets id).kind && option_map_or (λ (parent : Row). has_cell parent.kind attached.1) (row_named (rows_of widgets) (row_for widgets id).client attached.0) false) o true ≡ true
        → (row_for widgets id).attached ≡ None
    by None q right = q
    by (Some attached) q right =
        let parts = and_parts (can_be_child (row_for widgets id).kind) (option_map_or (λ (parent : Row). has_cell parent.kind attached.1) (row_named (rows_of widgets) (row_for widgets id).client attached.0) false) right in
        absurd (true≢false (sym parts.0 ∙ ap can_be_child is))

-- the kind and the life of an open window
pub record IsOpenWindow (widgets : Widgets) (id : ℕ) : Type 0 where
  pub live : IsLive widgets id
  pub kind : (row_for widgets id).kind ≡ Window

pub window-open : (widgets : Widgets) (id : ℕ) → row_kind widgets.entries id ≡ Some Window → IsOpenWindow widgets id
window-open widgets id is = record { live = by (row_at widgets.entries id) refl is; kind = sym (read (λ (row : Row). row.kind) widgets id Window is) }
  where
    by : (o : Option Row) → row_at widgets.entries id ≡ o → option_map (λ (row : Row). row.kind) o ≡ Some Window → IsSome o
    by None q h = absurd (cc)
    by (Some row) q h = refl

pub parent_of-row : (widgets : Widgets) (id : ℕ) → IsWidgets widgets → IsLive widgets id → parent_of (rows_of widgets) (row_for widgets id).client (row_for widgets id).name ≡ option_map (λ (attached : List ℕ × Cell). attached.0) (row_for widgets id).attached
parent_of-row widgets id valid live = parent_of-found (rows_of widgets) (row_for widgets id).client (row_for widgets id).name (row_for widgets id) (key-found widgets id valid live)

parent-none : (widgets : Widgets) (id : ℕ) → IsWidgets widgets → IsOpenWindow widgets id → parent_of (rows_of widgets) (row_for widgets id).client (row_for widgets id).name ≡ None
parent-none widgets id valid window = parent_of-row widgets id valid window.live ∙ ap (option_map (λ (attached : List ℕ × Cell). attached.0)) (window-alone widgets id valid window.live window.kind)

pub parent-key : (widgets : Widgets) (id kid : ℕ) → IsWidgets widgets → parent_id widgets kid ≡ Some id → parent_key (rows_of widgets) (key_of (row_for widgets kid)) ≡ Some (key_of (row_for widgets id))
parent-key widgets id kid valid parent =
    let at = child-at widgets id kid valid parent in
    let of = IsChildOf-is_child (row_for widgets id).client (row_for widgets id).name (row_for widgets kid) at.is in
    ap (option_map (λ (name : List ℕ). ((row_for widgets kid).client, name))) (parent_of-row widgets kid valid (child-live widgets id kid valid parent) ∙ ap (option_map (λ (attached : List ℕ × Cell). attached.0)) of.attached)
    ∙ ap (λ (client : ℕ). Some (client, (row_for widgets id).name)) of.owner

-- the root by the key
pub root-read : (widgets : Widgets) (id : ℕ) → IsLive widgets id → root_id widgets id ≡ id_named (nodes widgets.entries) (root_key (rows_of widgets) (key_of (row_for widgets id))).0 (root_key (rows_of widgets) (key_of (row_for widgets id))).1
root-read widgets id live = ap (option_and_then (λ (row : Row). id_named (nodes widgets.entries) row.client (root_of (rows_of widgets) row.client row.name))) (live-there widgets id live)

pub root-child : (widgets : Widgets) (id kid : ℕ) → IsWidgets widgets → IsLive widgets id → parent_id widgets kid ≡ Some id → root_id widgets kid ≡ root_id widgets id
root-child widgets id kid valid live parent =
    root-read widgets kid (child-live widgets id kid valid parent)
    ∙ ap (λ (key : ℕ × List ℕ). id_named (nodes widgets.entries) key.0 key.1) (children_have_their_parents_root (rows_of widgets) (key_of (row_for widgets kid)) (key_of (row_for widgets id)) valid.rows.planted (parent-key widgets id kid valid parent))
    ∙ sym (root-read widgets id live)

pub root-window : (widgets : Widgets) (id : ℕ) → IsWidgets widgets → IsOpenWindow widgets id → root_id widgets id ≡ Some id
unfolding most_levels
root-window widgets id valid window =
    let row = row_for widgets id in
    root-read widgets id window.live
    ∙ ap (λ (o : Option (List ℕ)). id_named (nodes widgets.entries) row.client (option_map_or (root_in 11 (rows_of widgets) row.client) o row.name)) (parent-none widgets id valid window)
    ∙ id_named-row widgets.entries id row valid.rows.names (live-there widgets id window.live)

pub under-child : (widgets : Widgets) (windows : List ℕ) (id kid : ℕ) → IsWidgets widgets → IsLive widgets id → parent_id widgets kid ≡ Some id → IsUnderOpen widgets windows id → IsUnderOpen widgets windows kid
under-child widgets windows id kid valid live parent under = record { window = under.window; among = under.among; root = root-child widgets id kid valid live parent ∙ under.root }

-- the kept place of a widget under an open window
pub kept-place : (widgets : Widgets) (windows : List ℕ) (id : ℕ) → KeepsPlaces widgets windows → IsLive widgets id → IsUnderOpen widgets windows id → place_at widgets id ≡ Some (place_in (rows_of widgets) (row_for widgets id))
kept-place widgets windows id kept live under = kept.each id under.window under.among under.root ∙ ap (option_map (place_in (rows_of widgets))) (live-there widgets id live)

pub placed-at : (scene : Scene) (widgets : Widgets) (id : ℕ) → scene.rows ≡ rows_of widgets → IsWidgets widgets → IsLive widgets id → place_of scene (key_of (row_for widgets id)) ≡ place_in (rows_of widgets) (row_for widgets id)
unfolding place_of
placed-at scene widgets id rows valid live =
    ap (λ (rs : List Row). option_map_or (place_in rs) (row_of rs (key_of (row_for widgets id))) (record { x = pos 0; y = pos 0; w = 0; h = 0 })) rows
    ∙ ap (λ (o : Option Row). option_map_or (place_in (rows_of widgets)) o (record { x = pos 0; y = pos 0; w = 0; h = 0 })) (key-found widgets id valid live)

-- a window shows the pixels of its place that are on the screen
pub shows-window : (scene : Scene) (widgets : Widgets) (id : ℕ) (x y : ℤ) → scene.rows ≡ rows_of widgets → IsWidgets widgets → IsOpenWindow widgets id
    → shows_at scene (key_of (row_for widgets id)) x y ≡ (in_rect (place_in (rows_of widgets) (row_for widgets id)) x y && on_screen scene x y)
unfolding shows_at most_levels parent_in
shows-window scene widgets id x y rows valid window =
    let row = row_for widgets id in
    ap (λ (o : Option (List ℕ)). in_rect (place_of scene (key_of row)) x y && option_map_or (λ (parent : ℕ × List ℕ). shows_in 11 scene parent x y) (option_map (λ (name : List ℕ). (row.client, name)) o) (on_screen scene x y))
    (ap (λ (rs : List Row). parent_of rs row.client row.name) rows ∙ parent-none widgets id valid window)
    ∙ ap (λ (place : Rect). in_rect place x y && on_screen scene x y) (placed-at scene widgets id rows valid window.live)

-- a child shows the pixels of its place that its parent shows
pub shows-child : (scene : Scene) (widgets : Widgets) (id kid : ℕ) (x y : ℤ) → scene.rows ≡ rows_of widgets → IsWidgets widgets → parent_id widgets kid ≡ Some id
    → shows_at scene (key_of (row_for widgets kid)) x y ≡ (in_rect (place_in (rows_of widgets) (row_for widgets kid)) x y && shows_at scene (key_of (row_for widgets id)) x y)
unfolding parent_in
shows-child scene widgets id kid x y rows valid parent =
    children_show_within_parents scene (key_of (row_for widgets kid)) (key_of (row_for widgets id)) x y (rw rows valid.rows.planted)
    (ap (λ (rs : List Row). parent_key rs (key_of (row_for widgets kid))) rows ∙ parent-key widgets id kid valid parent)
    ∙ ap (λ (place : Rect). in_rect place x y && shows_at scene (key_of (row_for widgets id)) x y) (placed-at scene widgets kid rows valid (child-live widgets id kid valid parent))

-- the keys of open windows, one after the other
keys_of-first : (widgets : Widgets) (id : ℕ) (ids : List ℕ) → IsLive widgets id → keys_of widgets.entries (id ∷ ids) ≡ key_of (row_for widgets id) ∷ keys_of widgets.entries ids
keys_of-first widgets id ids live = ap (λ (o : Option Row). option_map_or (λ (key : ℕ × List ℕ). key ∷ keys_of widgets.entries ids) (option_map key_of o) (keys_of widgets.entries ids)) (live-there widgets id live)

find-first : (p : ℕ × List ℕ → Bool) (widgets : Widgets) (windows : List ℕ) (index : ℕ) → index < length windows → IsLive widgets (get_or windows index 0)
    → find p (keys_of widgets.entries (drop index windows)) ≡ cond (p (key_of (row_for widgets (get_or windows index 0)))) (Some (key_of (row_for widgets (get_or windows index 0)))) (find p (keys_of widgets.entries (drop (index + 1) windows)))
find-first p widgets windows index less live =
    let e : suc index ≡ index + 1 = omega arith in
    ap (λ (ids : List ℕ). find p (keys_of widgets.entries ids)) (drop-cons windows index 0 less ∙ ap (λ (n : ℕ). get_or windows index 0 ∷ drop n windows) e)
    ∙ ap (find p) (keys_of-first widgets (get_or windows index 0) (drop (index + 1) windows) live)

pub find-here : (p : ℕ × List ℕ → Bool) (widgets : Widgets) (windows : List ℕ) (index : ℕ) → index < length windows → IsLive widgets (get_or windows index 0)
    → p (key_of (row_for widgets (get_or windows index 0))) ≡ true → find p (keys_of widgets.entries (drop index windows)) ≡ Some (key_of (row_for widgets (get_or windows index 0)))
find-here p widgets windows index less live passes =
    find-first p widgets windows index less live ∙ ap (λ (b : Bool). cond b (Some (key_of (row_for widgets (get_or windows index 0)))) (find p (keys_of widgets.entries (drop (index + 1) windows)))) passes

pub find-later : (p : ℕ × List ℕ → Bool) (widgets : Widgets) (windows : List ℕ) (index : ℕ) → index < length windows → IsLive widgets (get_or windows index 0)
    → p (key_of (row_for widgets (get_or windows index 0))) ≡ false → find p (keys_of widgets.entries (drop index windows)) ≡ find p (keys_of widgets.entries (drop (index + 1) windows))
find-later p widgets windows index less live fails =
    find-first p widgets windows index less live ∙ ap (λ (b : Bool). cond b (Some (key_of (row_for widgets (get_or windows index 0)))) (find p (keys_of widgets.entries (drop (index + 1) windows)))) fails

-- no window shows a pixel beside the screen
pub find-off : (scene : Scene) (widgets : Widgets) (windows : List ℕ) (x y : ℤ) → scene.rows ≡ rows_of widgets → IsWidgets widgets → on_screen scene x y ≡ false
    → All (λ (id : ℕ). row_kind widgets.entries id ≡ Some Window) windows → find (λ (window : ℕ × List ℕ). shows_at scene window x y) (keys_of widgets.entries windows) ≡ None
find-off scene widgets [] x y rows valid off each = refl
find-off scene widgets (id ∷ ids) x y rows valid off each =
    let P : ℕ → Type 0 = λ n. row_kind widgets.entries n ≡ Some Window in
    let window = window-open widgets id (All-head P id ids each) in
    let hidden : shows_at scene (key_of (row_for widgets id)) x y ≡ false = shows-window scene widgets id x y rows valid window ∙ ap (λ (b : Bool). in_rect (place_in (rows_of widgets) (row_for widgets id)) x y && b) off ∙ and-false (in_rect (place_in (rows_of widgets) (row_for widgets id)) x y) in
    ap (find (λ (window : ℕ × List ℕ). shows_at scene window x y)) (keys_of-first widgets id ids window.live)
    ∙ ap (λ (b : Bool). cond b (Some (key_of (row_for widgets id))) (find (λ (window : ℕ × List ℕ). shows_at scene window x y) (keys_of widgets.entries ids))) hidden
    ∙ find-off scene widgets ids x y rows valid off (All-tail P id ids each)
  where
    and-false : (b : Bool) → (b && false) ≡ false
    and-false true = refl
    and-false false = refl

get_or-default : (xs : List ℕ) (k d e : ℕ) → k < length xs → get_or xs k d ≡ get_or xs k e
get_or-default [] k d e less = absurd (omega arith)
get_or-default (x ∷ xs) zero d e less = refl
get_or-default (x ∷ xs) (suc k) d e less = get_or-default xs k d e (omega arith)

-- the child that shows the pixel: no child's place holds it
pub child-missed : (scene : Scene) (widgets : Widgets) (id : ℕ) (x y : ℤ) → scene.rows ≡ rows_of widgets → IsWidgets widgets → IsLive widgets id
    → ((kid : ℕ) → parent_id widgets kid ≡ Some id → in_rect (place_in (rows_of widgets) (row_for widgets kid)) x y ≡ false) → child_at scene (key_of (row_for widgets id)) x y ≡ None
child-missed scene widgets id x y rows valid live misses =
    ap (λ (rs : List Row). option_map key_of (find (λ (row : Row). is_child (row_for widgets id).client (row_for widgets id).name row && shows_at scene (key_of row) x y) rs)) rows
    ∙ ap (option_map key_of) (find_none_from (λ (row : Row). is_child (row_for widgets id).client (row_for widgets id).name row && shows_at scene (key_of row) x y) (rows_of widgets) each)
  where
    hidden : (row : Row) → (key : ℕ) × (row_for widgets key ≡ row) × (parent_id widgets key ≡ Some id) → shows_at scene (key_of row) x y ≡ false
    hidden row number =
        ap (λ (r : Row). shows_at scene (key_of r) x y) (sym number.1)
        ∙ shows-child scene widgets id number.0 x y rows valid number.2
        ∙ ap (λ (b : Bool). b && shows_at scene (key_of (row_for widgets id)) x y) (misses number.0 number.2)

    by : (row : Row) (i : ℕ) → slice_get (rows_of widgets) i ≡ Some row → (b : Bool) → is_child (row_for widgets id).client (row_for widgets id).name row ≡ b → (b && shows_at scene (key_of row) x y) ≡ false
    by row i there false q = refl
    by row i there true q = hidden row (child-number widgets id i row valid live there q)

    each : (i : ℕ) (row : Row) → slice_get (rows_of widgets) i ≡ Some row → (is_child (row_for widgets id).client (row_for widgets id).name row && shows_at scene (key_of row) x y) ≡ false
    each i row there = by row i there (is_child (row_for widgets id).client (row_for widgets id).name row) refl

pub child-none : (scene : Scene) (widgets : Widgets) (id : ℕ) (keys : List ℕ) (x y : ℤ) → scene.rows ≡ rows_of widgets → IsWidgets widgets → IsLive widgets id → AreChildren widgets id keys
    → ((k : ℕ) → k < length keys → in_rect (place_in (rows_of widgets) (row_for widgets (get_or keys k 0))) x y ≡ false) → child_at scene (key_of (row_for widgets id)) x y ≡ None
child-none scene widgets id keys x y rows valid live kids fails =
    child-missed scene widgets id x y rows valid live
    (λ kid parent.
    let among = kids.all kid parent in
    ap (λ (n : ℕ). in_rect (place_in (rows_of widgets) (row_for widgets n)) x y) (sym among.2 ∙ get_or-default keys among.0 kid 0 among.1) ∙ fails among.0 among.1)

-- the child whose place holds it, where the widget shows it
pub child-shown : (scene : Scene) (widgets : Widgets) (id kid : ℕ) (x y : ℤ) → scene.rows ≡ rows_of widgets → IsWidgets widgets → parent_id widgets kid ≡ Some id → shows_at scene (key_of (row_for widgets id)) x y ≡ true
    → in_rect (place_in (rows_of widgets) (row_for widgets kid)) x y ≡ true → shows_at scene (key_of (row_for widgets kid)) x y ≡ true
child-shown scene widgets id kid x y rows valid parent shown holds =
    shows-child scene widgets id kid x y rows valid parent ∙ ap (λ (b : Bool). b && shows_at scene (key_of (row_for widgets id)) x y) holds ∙ shown

pub child-found : (scene : Scene) (widgets : Widgets) (id kid : ℕ) (x y : ℤ) → scene.rows ≡ rows_of widgets → IsWidgets widgets → IsLive widgets id → parent_id widgets kid ≡ Some id
    → shows_at scene (key_of (row_for widgets kid)) x y ≡ true → child_at scene (key_of (row_for widgets id)) x y ≡ Some (key_of (row_for widgets kid))
unfolding parent_in
child-found scene widgets id kid x y rows valid live parent shown =
    let at = child-at widgets id kid valid parent in
    ap (λ (rs : List Row). option_map key_of (find (λ (row : Row). is_child (row_for widgets id).client (row_for widgets id).name row && shows_at scene (key_of row) x y) rs)) rows
    ∙ find-only (λ (row : Row). is_child (row_for widgets id).client (row_for widgets id).name row && shows_at scene (key_of row) x y) (rows_of widgets) at.index (row_for widgets kid) at.there
    (ap (λ (b : Bool). b && shows_at scene (key_of (row_for widgets kid)) x y) at.is ∙ shown) only
  where
    keyed : (n : ℕ) → parent_id widgets n ≡ Some id → parent_key scene.rows (key_of (row_for widgets n)) ≡ Some (key_of (row_for widgets id))
    keyed n of = ap (λ (rs : List Row). parent_key rs (key_of (row_for widgets n))) rows ∙ parent-key widgets id n valid of

    same : (n : ℕ) → parent_id widgets n ≡ Some id → shows_at scene (key_of (row_for widgets n)) x y ≡ true → (b : Bool) → same_key (key_of (row_for widgets n)) (key_of (row_for widgets kid)) ≡ b → key_of (row_for widgets n) ≡ key_of (row_for widgets kid)
    same n of also true q = same_key-true (key_of (row_for widgets n)) (key_of (row_for widgets kid)) q
    same n of also false q =
        let none = children_share_no_pixel scene (key_of (row_for widgets n)) (key_of (row_for widgets kid)) (key_of (row_for widgets id)) x y (rw rows valid.rows.planted) (keyed n of) (keyed kid parent) q in
        let both : (shows_at scene (key_of (row_for widgets n)) x y && shows_at scene (key_of (row_for widgets kid)) x y) ≡ true = ap (λ (b : Bool). b && shows_at scene (key_of (row_for widgets kid)) x y) also ∙ shown in
        absurd (true≢false (sym both ∙ none))

    only : (j : ℕ) (other : Row) → slice_get (rows_of widgets) j ≡ Some other → (is_child (row_for widgets id).client (row_for widgets id).name other && shows_at scene (key_of other) x y) ≡ true → key_of other ≡ key_of (row_for widgets kid)
    only j other there passes =
        let parts = and_parts (is_child (row_for widgets id).client (row_for widgets id).name other) (shows_at scene (key_of other) x y) passes in
        let number = child-number widgets id j other valid live there parts.0 in
        ap key_of (sym number.1) ∙ same number.0 number.2 (ap (λ (r : Row). shows_at scene (key_of r) x y) number.1 ∙ parts.1) (same_key (key_of (row_for widgets number.0)) (key_of (row_for widgets kid))) refl

-- an open window, from its index
pub window-among : (widgets : Widgets) (windows : List ℕ) (id : ℕ) → AreWindows widgets windows → Contains windows id → IsOpenWindow widgets id
window-among widgets windows id all among = window-open widgets id (subst (λ (n : ℕ). row_kind widgets.entries n ≡ Some Window) among.2 (all.each among.0 id among.1))

pub under-window : (widgets : Widgets) (windows : List ℕ) (id : ℕ) → IsWidgets widgets → AreWindows widgets windows → Contains windows id → IsUnderOpen widgets windows id
under-window widgets windows id valid all among = record { window = id; among = among; root = root-window widgets id valid (window-among widgets windows id all among) }

pub among-at : (windows : List ℕ) (index id : ℕ) → index < length windows → slice_get windows index ≡ Some id → Contains windows id
among-at windows index id less there = (index, less, get_or_from_slice_get windows index id id there)

pub window-shown : (scene : Scene) (widgets : Widgets) (id : ℕ) (x y : ℤ) → scene.rows ≡ rows_of widgets → IsWidgets widgets → IsOpenWindow widgets id
    → in_rect (place_in (rows_of widgets) (row_for widgets id)) x y ≡ true → on_screen scene x y ≡ true → shows_at scene (key_of (row_for widgets id)) x y ≡ true
window-shown scene widgets id x y rows valid window holds on = shows-window scene widgets id x y rows valid window ∙ ap (λ (b : Bool). b && on_screen scene x y) holds ∙ on

pub window-hidden : (scene : Scene) (widgets : Widgets) (id : ℕ) (x y : ℤ) → scene.rows ≡ rows_of widgets → IsWidgets widgets → IsOpenWindow widgets id
    → in_rect (place_in (rows_of widgets) (row_for widgets id)) x y ≡ false → shows_at scene (key_of (row_for widgets id)) x y ≡ false
window-hidden scene widgets id x y rows valid window beside = shows-window scene widgets id x y rows valid window ∙ ap (λ (b : Bool). b && on_screen scene x y) beside

pub first-here : (p : ℕ × List ℕ → Bool) (widgets : Widgets) (windows : List ℕ) (index id : ℕ) → index < length windows → slice_get windows index ≡ Some id → IsLive widgets id
    → p (key_of (row_for widgets id)) ≡ true → find p (keys_of widgets.entries (drop index windows)) ≡ Some (key_of (row_for widgets id))
first-here p widgets windows index id less there live passes =
    let e : get_or windows index 0 ≡ id = get_or_from_slice_get windows index id 0 there in
    find-here p widgets windows index less (subst (λ (n : ℕ). IsLive widgets n) (sym e) live) (ap (λ (n : ℕ). p (key_of (row_for widgets n))) e ∙ passes) ∙ ap (λ (n : ℕ). Some (key_of (row_for widgets n))) e

pub first-later : (p : ℕ × List ℕ → Bool) (widgets : Widgets) (windows : List ℕ) (index id : ℕ) → index < length windows → slice_get windows index ≡ Some id → IsLive widgets id
    → p (key_of (row_for widgets id)) ≡ false → find p (keys_of widgets.entries (drop index windows)) ≡ find p (keys_of widgets.entries (drop (index + 1) windows))
first-later p widgets windows index id less there live fails =
    let e : get_or windows index 0 ≡ id = get_or_from_slice_get windows index id 0 there in
    find-later p widgets windows index less (subst (λ (n : ℕ). IsLive widgets n) (sym e) live) (ap (λ (n : ℕ). p (key_of (row_for widgets n))) e ∙ fails)

-- the widget on top
pub top-found : (scene : Scene) (widgets : Widgets) (x y : ℤ) (id window most : ℕ) → IsLive widgets id → most ≡ most_levels
    → key_of (row_for widgets id) ≡ lowest_in most scene x y (key_of (row_for widgets window)) → Some (key_of (row_for widgets window)) ≡ window_at scene x y → key_at widgets.entries id ≡ top_of scene x y
unfolding top_of
top-found scene widgets x y id window most live levels lowest first =
    ap (option_map key_of) (live-there widgets id live)
    ∙ ap Some (lowest ∙ ap (λ (n : ℕ). lowest_in n scene x y (key_of (row_for widgets window))) levels)
    ∙ ap (option_map (lowest_in most_levels scene x y)) first

pub top-none : (scene : Scene) (x y : ℤ) → None ≡ window_at scene x y → None ≡ top_of scene x y
unfolding top_of
top-none scene x y none = ap (option_map (lowest_in most_levels scene x y)) none
