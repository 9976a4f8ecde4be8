-- An input leaves the pointer on the screen.
use Rattle.std.proofs.Common.{ℕ, ℤ, pos, ◌≡◌, ◌≤◌, ◌<◌, ◌-ℤ◌, ◌&&◌, Bool, true, false, cond, not, int_lt, List, Option, Some, None, refl, arith, unsigned_abs}
use Rattle.std.specs.Option.{option_map_or, option_and_then}
use Rattle.std.specs.Ordering.{int_eq}
use Rattle.kind_core.specs.declared.kinds.Kind.{Kind}
use Rattle.kind_core.specs.declared.kinds.Kind.TheVariants.{Window, Button, Entry, Scale, Scrollbar, VScreen}
use Rattle.kind_core.specs.declared.kinds.EventKind.TheVariants.{Change, Move}
use Rattle.kind_core.specs.declared.kinds.Attr.TheVariants.{X, Y}
use Rattle.kind_core.specs.Attributes.{minus}
use Rattle.kind_core.specs.Effective.{clamp}
use Rattle.geom_core.specs.declared.rectangle.Rect.{Rect}
use Rattle.cmd_words.specs.declared.inputs.Input.{Input}
use Rattle.cmd_words.specs.declared.inputs.Input.TheVariants as input
use Rattle.widget_model.specs.Rows.{Row}
use Rattle.widget_model.specs.Keys.{key_of, row_of}
use Rattle.widget_model.specs.Pointer.{Pointer, Grab, no_grab, on_widget, drags}
use Rattle.scene_model.specs.Values.{number_of}
use Rattle.desk_model.specs.InputEffects.{Hit, Effects, only_pointer, posted, at_widget, local_x, local_y}
use Rattle.desk_model.specs.InputValues.{pointed_value, shown_value, value_key, valued}
use Rattle.desk_model.specs.InputTable.{dragged, drag_on, motion_on, motion_by, pointed_at, on_motion, pressed, grabbed_title, press_on, on_press, release_on, release_by, on_release, key_on_entry, key_on, on_key}
use Rattle.desk_model.specs.Inputs.{effects_of}

pub record IsOnScreen (width height : ℕ) (pointer : Pointer) : Type 0 where
  pub across : pointer.x < width
  pub down : pointer.y < height

-- at the same pixel as another
record IsAt (pointer other : Pointer) : Type 0 where
  x : other.x ≡ pointer.x
  y : other.y ≡ pointer.y

at-own : (pointer : Pointer) → IsAt pointer pointer
at-own pointer = record { x = refl; y = refl }

on-at : (width height : ℕ) (pointer other : Pointer) → IsOnScreen width height pointer → IsAt pointer other → IsOnScreen width height other
on-at width height pointer other on at = record { across = omega (arith, on.across, at.x); down = omega (arith, on.down, at.y) }

valued-at : (rows : List Row) (place : Rect) (row : Row) (effects : Effects) (pointer : Pointer) → IsAt pointer effects.pointer → IsAt pointer (valued rows place row effects).pointer
unfolding valued
valued-at rows place row effects pointer at = by (int_eq (pointed_value effects.pointer place row) (shown_value rows row))
  where
    by : (b : Bool) → IsAt pointer (cond b effects (record effects { value = Some (value_key row, pointed_value effects.pointer place row); posts = posted Change (pointed_value effects.pointer place row) (pos 0) row })).pointer
    by true = at
    by false = at

dragged-at : (pointer : Pointer) (dx dy : ℕ) (row : Row) → IsAt pointer (dragged pointer dx dy row).pointer
unfolding dragged
dragged-at pointer dx dy row = by (int_eq x (number_of X row) && int_eq y (number_of Y row))
  where
    x : ℤ
    x = clamp (pos pointer.x -ℤ pos dx) (minus 1024) (pos 1024)

    y : ℤ
    y = clamp (pos pointer.y -ℤ pos dy) (minus 1024) (pos 1024)

    by : (b : Bool) → IsAt pointer (cond b (only_pointer pointer) (record (only_pointer pointer) { moved = Some (key_of row, x, y); posts = posted Move x y row })).pointer
    by true = at-own pointer
    by false = at-own pointer

drag_on-at : (kind : Kind) (pointer : Pointer) (dx dy : ℕ) (row : Row) → IsAt pointer (drag_on kind pointer dx dy row).pointer
unfolding drag_on
drag_on-at Window pointer dx dy row = dragged-at pointer dx dy row
drag_on-at _ pointer dx dy row = at-own pointer

motion_on-at : (kind : Kind) (rows : List Row) (pointer : Pointer) (place : Rect) (row : Row) → IsAt pointer (motion_on kind rows pointer place row).pointer
unfolding motion_on
motion_on-at Scale rows pointer place row = valued-at rows place row (only_pointer pointer) pointer (at-own pointer)
motion_on-at Scrollbar rows pointer place row = valued-at rows place row (only_pointer pointer) pointer (at-own pointer)
motion_on-at VScreen rows pointer place row = at-own pointer
motion_on-at _ rows pointer place row = at-own pointer

row-at : (pointer other : Pointer) (o : Option Row) (happens : Row → Effects) → IsAt pointer other → ((row : Row) → IsAt pointer (happens row).pointer) → IsAt pointer (option_map_or happens o (only_pointer other)).pointer
row-at pointer other None happens at each = at
row-at pointer other (Some row) happens at each = each row

widget-at : (rows : List Row) (key : ℕ × List ℕ) (held : Option Rect) (pointer other : Pointer) (happens : Rect → Row → Effects) → IsAt pointer other → ((place : Rect) (row : Row) → IsAt pointer (happens place row).pointer) → IsAt pointer (at_widget rows key held other happens).pointer
widget-at rows key None pointer other happens at each = at
widget-at rows key (Some place) pointer other happens at each = row-at pointer other (row_of rows key) (happens place) at (each place)

motion-at : (grab : Grab) (rows : List Row) (there : Pointer) (held : Option Rect) → IsAt there (motion_by grab rows there held).pointer
motion-at no_grab rows there held = at-own there
motion-at (on_widget key) rows there held = widget-at rows key held there there (λ (place : Rect) (row : Row). motion_on row.kind rows there place row) (at-own there) (λ place row. motion_on-at row.kind rows there place row)
motion-at (drags window dx dy) rows there held = row-at there there (row_of rows window) (λ (row : Row). drag_on row.kind there dx dy row) (at-own there) (λ row. drag_on-at row.kind there dx dy row)

motion-on : (rows : List Row) (pointer : Pointer) (held : Option Rect) (width height x y : ℕ) → 1 ≤ width → 1 ≤ height → IsOnScreen width height (on_motion rows pointer held width height x y).pointer
unfolding on_motion
motion-on rows pointer held width height x y wide high = by pointer.down
  where
    there : Pointer
    there = pointed_at width height x y pointer

    on : IsOnScreen width height there
    on = record { across = omega arith; down = omega arith }

    by : (b : Bool) → IsOnScreen width height (cond b (motion_by pointer.grab rows there held) (only_pointer there)).pointer
    by true = on-at width height there (motion_by pointer.grab rows there held).pointer on (motion-at pointer.grab rows there held)
    by false = on

title-at : (pointer : Pointer) (place : Rect) (row : Row) (effects : Effects) → IsAt pointer effects.pointer → IsAt pointer (grabbed_title pointer place row effects).pointer
unfolding grabbed_title
title-at pointer place row effects at = by (int_lt (local_y pointer place) (pos 12))
  where
    by : (b : Bool) → IsAt pointer (cond b (record effects { pointer = record effects.pointer { grab = drags (key_of row) (unsigned_abs (local_x pointer place)) (unsigned_abs (local_y pointer place)) } }) effects).pointer
    by true = record { x = at.x; y = at.y }
    by false = at

press_on-at : (kind : Kind) (rows : List Row) (pointer : Pointer) (place : Rect) (row : Row) (effects : Effects) → IsAt pointer effects.pointer → IsAt pointer (press_on kind rows pointer place row effects).pointer
unfolding press_on
press_on-at Window rows pointer place row effects at = title-at pointer place row effects at
press_on-at Button rows pointer place row effects at = at
press_on-at VScreen rows pointer place row effects at = at
press_on-at Entry rows pointer place row effects at = at
press_on-at Scale rows pointer place row effects at = valued-at rows place row effects pointer at
press_on-at Scrollbar rows pointer place row effects at = valued-at rows place row effects pointer at
press_on-at _ rows pointer place row effects at = at

press-at : (rows : List Row) (pointer : Pointer) (hit : Option Hit) → IsAt pointer (on_press rows pointer hit).pointer
unfolding on_press
press-at rows pointer hit = by pointer.down hit
  where
    happens : Hit → Row → Effects
    happens hit row = press_on row.kind rows pointer hit.place row (pressed rows pointer row)

    by : (b : Bool) (o : Option Hit) → IsAt pointer (cond b (only_pointer pointer) (option_map_or (λ (h : Hit). option_map_or (happens h) (row_of rows h.key) (only_pointer pointer)) o (only_pointer (record pointer { down = true; focus = None })))).pointer
    by true o = at-own pointer
    by false None = record { x = refl; y = refl }
    by false (Some h) = row-at pointer pointer (row_of rows h.key) (happens h) (at-own pointer) (λ row. press_on-at row.kind rows pointer h.place row (pressed rows pointer row) (record { x = refl; y = refl }))

release_on-at : (kind : Kind) (pointer : Pointer) (hit : Option Hit) (place : Rect) (row : Row) → IsAt pointer (release_on kind pointer hit place row).pointer
unfolding release_on
release_on-at Button pointer hit place row = at-own pointer
release_on-at VScreen pointer hit place row = at-own pointer
release_on-at _ pointer hit place row = at-own pointer

release-at : (rows : List Row) (pointer : Pointer) (hit : Option Hit) (held : Option Rect) → IsAt pointer (on_release rows pointer hit held).pointer
unfolding on_release
release-at rows pointer hit held = by pointer.down
  where
    up : Pointer
    up = record pointer { down = false; grab = no_grab }

    up-at : (other : Pointer) → IsAt up other → IsAt pointer other
    up-at other at = record { x = at.x; y = at.y }

    let_up : (grab : Grab) → IsAt pointer (release_by grab rows up hit held).pointer
    let_up (on_widget key) = up-at (at_widget rows key held up (λ (place : Rect) (row : Row). release_on row.kind up hit place row)).pointer (widget-at rows key held up up (λ (place : Rect) (row : Row). release_on row.kind up hit place row) (at-own up) (λ place row. release_on-at row.kind up hit place row))
    let_up no_grab = up-at up (at-own up)
    let_up (drags window dx dy) = up-at up (at-own up)

    by : (b : Bool) → IsAt pointer (cond (not b) (only_pointer pointer) (release_by pointer.grab rows up hit held)).pointer
    by true = let_up pointer.grab
    by false = at-own pointer

key_on-at : (kind : Kind) (pointer : Pointer) (byte : ℕ) (row : Row) → IsAt pointer (key_on kind pointer byte row).pointer
unfolding key_on key_on_entry
key_on-at Entry pointer byte row = at-own pointer
key_on-at VScreen pointer byte row = at-own pointer
key_on-at _ pointer byte row = at-own pointer

key-at : (rows : List Row) (pointer : Pointer) (byte : ℕ) → IsAt pointer (on_key rows pointer byte).pointer
unfolding on_key
key-at rows pointer byte = row-at pointer pointer (option_and_then (row_of rows) pointer.focus) (λ (row : Row). key_on row.kind pointer byte row) (at-own pointer) (λ row. key_on-at row.kind pointer byte row)

pub stays-on-screen : (rows : List Row) (pointer : Pointer) (hit : Option Hit) (held : Option Rect) (width height : ℕ) (asked : Input) → 1 ≤ width → 1 ≤ height → IsOnScreen width height pointer → IsOnScreen width height (effects_of rows pointer hit held width height asked).pointer
unfolding effects_of
stays-on-screen rows pointer hit held width height (input.Motion x y) wide high on = motion-on rows pointer held width height x y wide high
stays-on-screen rows pointer hit held width height input.Press wide high on = on-at width height pointer (on_press rows pointer hit).pointer on (press-at rows pointer hit)
stays-on-screen rows pointer hit held width height input.Release wide high on = on-at width height pointer (on_release rows pointer hit held).pointer on (release-at rows pointer hit held)
stays-on-screen rows pointer hit held width height (input.Key byte) wide high on = on-at width height pointer (on_key rows pointer byte).pointer on (key-at rows pointer byte)
