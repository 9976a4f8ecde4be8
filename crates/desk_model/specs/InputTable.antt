-- The table of inputs: what the pointer's motion, press and release and a key do, each by a definition with its cases
-- in order. `held` is the place of the widget that is grabbed.
use Rattle.std.specs.Prelude.{ℕ, pos, ◌-◌, ◌-ℤ◌, ◌++◌, min, Bool, true, false, ◌&&◌, not, int_lt, length, unsigned_abs, List, [], Option, Some, None, if◌then◌else◌}
use Rattle.std.specs.Option.{option_map, option_map_or, option_and_then}
use Rattle.std.specs.Ordering.{int_eq}
use Rattle.kind_core.specs.declared.kinds.Kind.{Kind}
use Rattle.kind_core.specs.declared.kinds.Kind.TheVariants.{Window, Button, Entry, Scale, Scrollbar, VScreen}
use Rattle.kind_core.specs.declared.kinds.Attr.TheVariants.{X, Y, Text}
use Rattle.kind_core.specs.declared.kinds.EventKind.TheVariants.{Press, Release, Click, Key, Change, Motion, Move}
use Rattle.kind_core.specs.Attributes.{minus}
use Rattle.kind_core.specs.Effective.{clamp}
use Rattle.geom_core.specs.declared.rectangle.Rect.{Rect}
use Rattle.widget_model.specs.Rows.{Row}
use Rattle.widget_model.specs.Keys.{key_of, same_key, row_of, root_key}
use Rattle.widget_model.specs.Pointer.{Pointer, Grab, no_grab, on_widget, drags}
use Rattle.scene_model.specs.Values.{number_of, text_of, caret_of}
use Rattle.desk_model.specs.InputEffects.{Hit, Effects, only_pointer, posted, posted_at, local_x, local_y, at_widget}
use Rattle.desk_model.specs.InputEdits.{edit_of, caret_at}
use Rattle.desk_model.specs.InputValues.{valued}

-- MOTION. A Window that is dragged keeps its pixel (dx, dy) under the pointer, as far as its range lets it. Where it
-- moves, `move` is posted with its new x and y.
unfoldable pub dragged : Pointer → ℕ → ℕ → Row → Effects
dragged pointer dx dy row =
    let x = clamp (pos pointer.x -ℤ pos dx) (minus 1024) (pos 1024) in
    let y = clamp (pos pointer.y -ℤ pos dy) (minus 1024) (pos 1024) in
    if int_eq x (number_of X row) && int_eq y (number_of Y row) then only_pointer pointer
    else record (only_pointer pointer) { moved = Some (key_of row, x, y); posts = posted Move x y row }

-- Only a Window is dragged.
unfoldable pub drag_on : Kind → Pointer → ℕ → ℕ → Row → Effects
drag_on Window pointer dx dy row = dragged pointer dx dy row
drag_on _ pointer dx dy row = only_pointer pointer

-- A grabbed Scale or Scrollbar takes its value from the pointer; to a grabbed VScreen `motion` is posted.
unfoldable pub motion_on : Kind → List Row → Pointer → Rect → Row → Effects
motion_on Scale rows pointer place row = valued rows place row (only_pointer pointer)
motion_on Scrollbar rows pointer place row = valued rows place row (only_pointer pointer)
motion_on VScreen rows pointer place row = record (only_pointer pointer) { posts = posted_at Motion pointer place row }
motion_on _ rows pointer place row = only_pointer pointer

-- by what is grabbed while the button is down
abbrev pub motion_by : Grab → List Row → Pointer → Option Rect → Effects
motion_by no_grab rows pointer held = only_pointer pointer
motion_by (on_widget key) rows pointer held = at_widget rows key held pointer (λ place row. motion_on row.kind rows pointer place row)
motion_by (drags window dx dy) rows pointer held = option_map_or (λ row. drag_on row.kind pointer dx dy row) (row_of rows window) (only_pointer pointer)

-- the pointer at the pixel, or at the nearest one of the screen to the right and below
abbrev pub pointed_at : ℕ → ℕ → ℕ → ℕ → Pointer → Pointer
pointed_at width height x y pointer = record pointer { x = min x (width - 1); y = min y (height - 1) }

unfoldable pub on_motion : List Row → Pointer → Option Rect → ℕ → ℕ → ℕ → ℕ → Effects
on_motion rows pointer held width height x y =
    let there = pointed_at width height x y pointer in
    if pointer.down then motion_by pointer.grab rows there held else only_pointer there

-- PRESS. The widget g under the pointer is grabbed, and its window is raised. Keys go to it where it is an Entry or a
-- VScreen, and else to none.
abbrev pub takes_keys : Kind → Bool
takes_keys Entry = true
takes_keys VScreen = true
takes_keys _ = false

abbrev pub pressed : List Row → Pointer → Row → Effects
pressed rows pointer row =
    record (only_pointer (record pointer { down = true; grab = on_widget (key_of row); focus = if takes_keys row.kind then Some (key_of row) else None })) { raise = Some (root_key rows (key_of row)) }

-- A press on a Window's title, its upper 12 rows, drags the window by the pixel.
unfoldable pub grabbed_title : Pointer → Rect → Row → Effects → Effects
grabbed_title pointer place row effects =
    let v = local_y pointer place in
    if int_lt v (pos 12)
    then record effects { pointer = record effects.pointer { grab = drags (key_of row) (unsigned_abs (local_x pointer place)) (unsigned_abs v) } }
    else effects

-- To a Button or VScreen `press` is posted, an Entry's caret goes to the pointer, and a Scale or Scrollbar takes its
-- value from it.
unfoldable pub press_on : Kind → List Row → Pointer → Rect → Row → Effects → Effects
press_on Window rows pointer place row effects = grabbed_title pointer place row effects
press_on Button rows pointer place row effects = record effects { posts = posted_at Press pointer place row }
press_on VScreen rows pointer place row effects = record effects { posts = posted_at Press pointer place row }
press_on Entry rows pointer place row effects =
    record effects { caret = Some (key_of row, pos (caret_at (local_x pointer place) (length (text_of Text row)))) }
press_on Scale rows pointer place row effects = valued rows place row effects
press_on Scrollbar rows pointer place row effects = valued rows place row effects
press_on _ rows pointer place row effects = effects

-- Where the button is down already, nothing happens. Where no widget is under the pointer, the focus is none.
unfoldable pub on_press : List Row → Pointer → Option Hit → Effects
on_press rows pointer hit =
    if pointer.down then only_pointer pointer else option_map_or (λ hit. press_hit hit) hit (only_pointer (record pointer { down = true; focus = None }))
  where
    press_hit : Hit → Effects
    press_hit hit = option_map_or (λ row. press_on row.kind rows pointer hit.place row (pressed rows pointer row)) (row_of rows hit.key) (only_pointer pointer)

-- RELEASE. To a Button `release` is posted, and then, where it is the top widget at the pointer, `click`. To a VScreen
-- `release` is posted.
abbrev pub is_hit : Option Hit → Row → Bool
is_hit hit row = option_map_or (λ hit. same_key (key_of row) hit.key) hit false

unfoldable pub release_on : Kind → Pointer → Option Hit → Rect → Row → Effects
release_on Button pointer hit place row =
    record (only_pointer pointer) { posts = posted_at Release pointer place row ++ (if is_hit hit row then posted_at Click pointer place row else []) }
release_on VScreen pointer hit place row = record (only_pointer pointer) { posts = posted_at Release pointer place row }
release_on _ pointer hit place row = only_pointer pointer

abbrev pub release_by : Grab → List Row → Pointer → Option Hit → Option Rect → Effects
release_by (on_widget key) rows pointer hit held = at_widget rows key held pointer (λ place row. release_on row.kind pointer hit place row)
release_by _ rows pointer hit held = only_pointer pointer

-- Where the button isn't down, nothing happens. Else it is up and nothing is grabbed.
unfoldable pub on_release : List Row → Pointer → Option Hit → Option Rect → Effects
on_release rows pointer hit held =
    if not pointer.down then only_pointer pointer else release_by pointer.grab rows (record pointer { down = false; grab = no_grab }) hit held

-- KEY. An Entry with the focus is edited. Then `key` is posted, and where its text changed `change` with the new length.
unfoldable pub key_on_entry : Pointer → ℕ → Row → Effects
key_on_entry pointer byte row =
    let edit = edit_of byte (text_of Text row) (caret_of row) in
    let text = option_and_then (λ edit. edit.text) edit in
    record (only_pointer pointer) {
      text = option_map (λ text. (key_of row, text)) text;
      caret = option_map (λ edit. (key_of row, pos edit.caret)) edit;
      posts = posted Key (pos byte) (pos 0) row ++ option_map_or (λ text. posted Change (pos (length text)) (pos 0) row) text [];
    }

-- To a VScreen with the focus `key` is posted.
unfoldable pub key_on : Kind → Pointer → ℕ → Row → Effects
key_on Entry pointer byte row = key_on_entry pointer byte row
key_on VScreen pointer byte row = record (only_pointer pointer) { posts = posted Key (pos byte) (pos 0) row }
key_on _ pointer byte row = only_pointer pointer

unfoldable pub on_key : List Row → Pointer → ℕ → Effects
on_key rows pointer byte =
    option_map_or (λ row. key_on row.kind pointer byte row) (option_and_then (row_of rows) pointer.focus) (only_pointer pointer)
