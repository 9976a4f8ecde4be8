-- The rows of the table at a pointer whose grab and focus are live numbers.
use Rattle.std.proofs.Common.{ℕ, ◌≡◌, Bool, true, false, cond, not, List, Option, Some, is_some, ap, ◌∙◌}
use Rattle.std.specs.Option.{option_map, option_map_or, option_and_then}
use Rattle.geom_core.specs.declared.rectangle.Rect.{Rect}
use Rattle.widget_model.specs.Rows.{Row}
use Rattle.widget_model.specs.Widgets.{Widgets, row_at, rows_of, key_at}
use Rattle.widget_model.specs.Forest.{IsWidgets}
use Rattle.widget_model.specs.Keys.{key_of, row_of}
use Rattle.widget_model.specs.Pointer as model
use Rattle.widget_model.specs.Pointer.{no_grab, on_widget, drags}
use Rattle.tree_core.specs.declared.id.Id.{Id}
use Rattle.tree_core.specs.declared.pointer.Grab.TheVariants.{Widget, Drag}
use Rattle.tree_core.specs.declared.pointer.Pointer.{Pointer}
use Rattle.tree_core.specs.Holds.{grab_seen, pointer_seen}
use Rattle.desk_model.specs.InputEffects as input
use Rattle.desk_model.specs.InputEffects.{only_pointer, at_widget}
use Rattle.desk_model.specs.InputTable.{motion_on, motion_by, drag_on, pointed_at, on_motion, press_on, pressed, on_press, release_on, release_by, on_release, key_on, on_key}
use Rattle.input_core.specs.declared.hit.Hit.{Hit}
use Rattle.input_core.specs.Numbered.{numbered}
use Rattle.input_core.specs.Seen.{key_seen, hit_seen}
use Rattle.input_core.proofs.Keys.{key_at-numbered, key_seen-numbered, row_of-numbered}

-- a live widget that is grabbed, and a live window that is dragged
pub grab-widget : (es : List (ℕ × Row)) (id : Id) → is_some (row_at es id.key) ≡ true → grab_seen es (Widget id) ≡ on_widget (key_of (numbered es id.key))
grab-widget es id live = ap (λ (key : Option (ℕ × List ℕ)). option_map_or on_widget key no_grab) (key_at-numbered es id.key live)

pub grab-drag : (es : List (ℕ × Row)) (id : Id) (dx dy : ℕ) → is_some (row_at es id.key) ≡ true → grab_seen es (Drag id dx dy) ≡ drags (key_of (numbered es id.key)) dx dy
grab-drag es id dx dy live = ap (λ (key : Option (ℕ × List ℕ)). option_map_or (λ (k : ℕ × List ℕ). drags k dx dy) key no_grab) (key_at-numbered es id.key live)

-- what happens to a live widget in its place
at_widget-numbered : (w : Widgets) (id : Id) (place : Rect) (held : Option Rect) (pointer : model.Pointer) (happens : Rect → Row → input.Effects) → IsWidgets w → is_some (row_at w.entries id.key) ≡ true → held ≡ Some place → at_widget (rows_of w) (key_of (numbered w.entries id.key)) held pointer happens ≡ happens place (numbered w.entries id.key)
at_widget-numbered w id place held pointer happens kept live is =
    ap (λ (h : Option Rect). at_widget (rows_of w) (key_of (numbered w.entries id.key)) h pointer happens) is
    ∙ ap (λ (row : Option Row). option_map_or (happens place) row (only_pointer pointer)) (row_of-numbered w id.key kept live)

pub on_motion-widget : (w : Widgets) (pointer : Pointer) (id : Id) (place : Rect) (held : Option Rect) (width height x y : ℕ) → IsWidgets w → is_some (row_at w.entries id.key) ≡ true → pointer.down ≡ true → pointer.grab ≡ Widget id → held ≡ Some place → on_motion (rows_of w) (pointer_seen w.entries pointer) held width height x y ≡ motion_on (numbered w.entries id.key).kind (rows_of w) (pointed_at width height x y (pointer_seen w.entries pointer)) place (numbered w.entries id.key)
unfolding on_motion
on_motion-widget w pointer id place held width height x y kept live down grab is =
    ap (λ (b : Bool). cond b (motion_by (grab_seen w.entries pointer.grab) (rows_of w) there held) (only_pointer there)) down
    ∙ ap (λ (g : model.Grab). motion_by g (rows_of w) there held) (ap (grab_seen w.entries) grab ∙ grab-widget w.entries id live)
    ∙ at_widget-numbered w id place held there (λ (place : Rect) (row : Row). motion_on row.kind (rows_of w) there place row) kept live is
  where
    there : model.Pointer
    there = pointed_at width height x y (pointer_seen w.entries pointer)

pub on_motion-drag : (w : Widgets) (pointer : Pointer) (id : Id) (dx dy : ℕ) (held : Option Rect) (width height x y : ℕ) → IsWidgets w → is_some (row_at w.entries id.key) ≡ true → pointer.down ≡ true → pointer.grab ≡ Drag id dx dy → on_motion (rows_of w) (pointer_seen w.entries pointer) held width height x y ≡ drag_on (numbered w.entries id.key).kind (pointed_at width height x y (pointer_seen w.entries pointer)) dx dy (numbered w.entries id.key)
unfolding on_motion
on_motion-drag w pointer id dx dy held width height x y kept live down grab =
    ap (λ (b : Bool). cond b (motion_by (grab_seen w.entries pointer.grab) (rows_of w) there held) (only_pointer there)) down
    ∙ ap (λ (g : model.Grab). motion_by g (rows_of w) there held) (ap (grab_seen w.entries) grab ∙ grab-drag w.entries id dx dy live)
    ∙ ap (λ (row : Option Row). option_map_or (λ (row : Row). drag_on row.kind there dx dy row) row (only_pointer there)) (row_of-numbered w id.key kept live)
  where
    there : model.Pointer
    there = pointed_at width height x y (pointer_seen w.entries pointer)

-- the pointer with its button up and nothing grabbed
abbrev pub up : model.Pointer → model.Pointer
up pointer = record pointer { down = false; grab = no_grab }

pub on_release-widget : (w : Widgets) (pointer : Pointer) (id : Id) (place : Rect) (hit : Option input.Hit) (held : Option Rect) → IsWidgets w → is_some (row_at w.entries id.key) ≡ true → pointer.down ≡ true → pointer.grab ≡ Widget id → held ≡ Some place → on_release (rows_of w) (pointer_seen w.entries pointer) hit held ≡ release_on (numbered w.entries id.key).kind (up (pointer_seen w.entries pointer)) hit place (numbered w.entries id.key)
unfolding on_release
on_release-widget w pointer id place hit held kept live down grab is =
    ap (λ (b : Bool). cond (not b) (only_pointer seen) (release_by (grab_seen w.entries pointer.grab) (rows_of w) (up seen) hit held)) down
    ∙ ap (λ (g : model.Grab). release_by g (rows_of w) (up seen) hit held) (ap (grab_seen w.entries) grab ∙ grab-widget w.entries id live)
    ∙ at_widget-numbered w id place held (up seen) (λ (place : Rect) (row : Row). release_on row.kind (up seen) hit place row) kept live is
  where
    seen : model.Pointer
    seen = pointer_seen w.entries pointer

pub on_press-hit : (w : Widgets) (pointer : Pointer) (hit : Hit) (is : Option Hit) → IsWidgets w → is_some (row_at w.entries hit.id.key) ≡ true → pointer.down ≡ false → is ≡ Some hit → on_press (rows_of w) (pointer_seen w.entries pointer) (option_map (hit_seen w.entries) is) ≡ press_on (numbered w.entries hit.id.key).kind (rows_of w) (pointer_seen w.entries pointer) hit.place (numbered w.entries hit.id.key) (pressed (rows_of w) (pointer_seen w.entries pointer) (numbered w.entries hit.id.key))
unfolding on_press
on_press-hit w pointer hit is kept live down there =
    ap (λ (h : Option Hit). on_press (rows_of w) seen (option_map (hit_seen w.entries) h)) there
    ∙ ap (λ (b : Bool). cond b (only_pointer seen) (by (row_of (rows_of w) (key_seen w.entries hit.id)))) down
    ∙ ap by (ap (row_of (rows_of w)) (key_seen-numbered w.entries hit.id live) ∙ row_of-numbered w hit.id.key kept live)
  where
    seen : model.Pointer
    seen = pointer_seen w.entries pointer

    by : Option Row → input.Effects
    by row = option_map_or (λ (r : Row). press_on r.kind (rows_of w) seen hit.place r (pressed (rows_of w) seen r)) row (only_pointer seen)

pub on_key-focus : (w : Widgets) (pointer : Pointer) (id : Id) (byte : ℕ) → IsWidgets w → is_some (row_at w.entries id.key) ≡ true → pointer.focus ≡ Some id → on_key (rows_of w) (pointer_seen w.entries pointer) byte ≡ key_on (numbered w.entries id.key).kind (pointer_seen w.entries pointer) byte (numbered w.entries id.key)
unfolding on_key
on_key-focus w pointer id byte kept live is =
    ap by (ap (λ (f : Option Id). option_and_then (row_of (rows_of w)) (option_and_then (λ (i : Id). key_at w.entries i.key) f)) is ∙ ap (option_and_then (row_of (rows_of w))) (key_at-numbered w.entries id.key live) ∙ row_of-numbered w id.key kept live)
  where
    by : Option Row → input.Effects
    by row = option_map_or (λ (r : Row). key_on r.kind (pointer_seen w.entries pointer) byte r) row (only_pointer (pointer_seen w.entries pointer))
