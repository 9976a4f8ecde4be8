-- An input gives text to Entries alone: only a key does, to the Entry with the focus.
use Rattle.std.proofs.Common.{◌≡◌, ℕ, Bool, true, false, cond, not, List, Option, Some, None, refl, sym, ap, ◌∙◌, subst}
use Rattle.std.specs.Prelude.{IfSome}
use Rattle.std.specs.Option.{option_map, option_map_or, option_and_then}
use Rattle.kind_core.specs.declared.kinds.Kind.{Kind}
use Rattle.kind_core.specs.declared.kinds.Kind.TheVariants.{Window, Button, Entry, Scale, Scrollbar, VScreen}
use Rattle.geom_core.specs.declared.rectangle.Rect.{Rect}
use Rattle.cmd_words.specs.declared.inputs.Input.{Input}
use Rattle.cmd_words.specs.declared.inputs.Input.TheVariants as input
use Rattle.widget_model.specs.Rows.{Row}
use Rattle.widget_model.specs.Named.{is_kind_of}
use Rattle.widget_model.specs.Keys.{key_of, row_of}
use Rattle.widget_model.specs.Pointer.{Pointer, Grab, no_grab, on_widget, drags}
use Rattle.scene_model.proofs.Parents.{row_of-own}
use Rattle.desk_model.specs.InputEffects.{Hit, Effects, only_pointer, at_widget}
use Rattle.desk_model.specs.InputValues.{valued}
use Rattle.desk_model.specs.InputTable.{dragged, drag_on, motion_on, motion_by, pointed_at, on_motion, pressed, grabbed_title, press_on, on_press, release_on, release_by, on_release, key_on_entry, key_on, on_key}
use Rattle.desk_model.specs.Inputs.{effects_of}
use Rattle.desk_moves.specs.Stays.{is_entry}

-- what either choice has
either : (b : Bool) (one two : Effects) (text : Option ((ℕ × List ℕ) × List ℕ)) → one.text ≡ text → two.text ≡ text → (cond b one two).text ≡ text
either true one two text first second = first
either false one two text first second = second

valued-text : (rows : List Row) (place : Rect) (row : Row) (effects : Effects) → (valued rows place row effects).text ≡ effects.text
unfolding valued
valued-text rows place row effects = either _ _ _ effects.text refl refl

dragged-text : (pointer : Pointer) (dx dy : ℕ) (row : Row) → (dragged pointer dx dy row).text ≡ None
unfolding dragged
dragged-text pointer dx dy row = either _ _ _ None refl refl

drag_on-text : (kind : Kind) (pointer : Pointer) (dx dy : ℕ) (row : Row) → (drag_on kind pointer dx dy row).text ≡ None
unfolding drag_on
drag_on-text Window pointer dx dy row = dragged-text pointer dx dy row
drag_on-text _ pointer dx dy row = refl

motion_on-text : (kind : Kind) (rows : List Row) (pointer : Pointer) (place : Rect) (row : Row) → (motion_on kind rows pointer place row).text ≡ None
unfolding motion_on
motion_on-text Scale rows pointer place row = valued-text rows place row (only_pointer pointer)
motion_on-text Scrollbar rows pointer place row = valued-text rows place row (only_pointer pointer)
motion_on-text VScreen rows pointer place row = refl
motion_on-text _ rows pointer place row = refl

found-text : (happens : Row → Effects) (pointer : Pointer) → ((row : Row) → (happens row).text ≡ None) → (o : Option Row) → (option_map_or happens o (only_pointer pointer)).text ≡ None
found-text happens pointer each None = refl
found-text happens pointer each (Some row) = each row

placed-text : (rows : List Row) (key : ℕ × List ℕ) (place : Option Rect) (pointer : Pointer) (happens : Rect → Row → Effects) → ((at : Rect) (row : Row) → (happens at row).text ≡ None) → (at_widget rows key place pointer happens).text ≡ None
placed-text rows key None pointer happens each = refl
placed-text rows key (Some place) pointer happens each = found-text (happens place) pointer (each place) (row_of rows key)

motion-text : (rows : List Row) (pointer : Pointer) (held : Option Rect) (width height x y : ℕ) → (on_motion rows pointer held width height x y).text ≡ None
unfolding on_motion
motion-text rows pointer held width height x y = either pointer.down _ _ None (by pointer.grab) refl
  where
    there : Pointer
    there = pointed_at width height x y pointer

    by : (grab : Grab) → (motion_by grab rows there held).text ≡ None
    by no_grab = refl
    by (on_widget key) = placed-text rows key held there (λ place row. motion_on row.kind rows there place row) (λ place row. motion_on-text row.kind rows there place row)
    by (drags window dx dy) = found-text (λ row. drag_on row.kind there dx dy row) there (λ row. drag_on-text row.kind there dx dy row) (row_of rows window)

press_on-text : (kind : Kind) (rows : List Row) (pointer : Pointer) (place : Rect) (row : Row) (effects : Effects) → (press_on kind rows pointer place row effects).text ≡ effects.text
unfolding press_on grabbed_title
press_on-text Window rows pointer place row effects = either _ _ _ effects.text refl refl
press_on-text Button rows pointer place row effects = refl
press_on-text VScreen rows pointer place row effects = refl
press_on-text Entry rows pointer place row effects = refl
press_on-text Scale rows pointer place row effects = valued-text rows place row effects
press_on-text Scrollbar rows pointer place row effects = valued-text rows place row effects
press_on-text _ rows pointer place row effects = refl

press-text : (rows : List Row) (pointer : Pointer) (hit : Option Hit) → (on_press rows pointer hit).text ≡ None
unfolding on_press
press-text rows pointer hit = either pointer.down _ _ None refl (by hit)
  where
    happens : Hit → Row → Effects
    happens hit row = press_on row.kind rows pointer hit.place row (pressed rows pointer row)

    by : (o : Option Hit) → (option_map_or (λ (h : Hit). option_map_or (happens h) (row_of rows h.key) (only_pointer pointer)) o (only_pointer (record pointer { down = true; focus = None }))).text ≡ None
    by None = refl
    by (Some h) = found-text (happens h) pointer (λ row. press_on-text row.kind rows pointer h.place row (pressed rows pointer row)) (row_of rows h.key)

release_on-text : (kind : Kind) (pointer : Pointer) (hit : Option Hit) (place : Rect) (row : Row) → (release_on kind pointer hit place row).text ≡ None
unfolding release_on
release_on-text Button pointer hit place row = refl
release_on-text VScreen pointer hit place row = refl
release_on-text _ pointer hit place row = refl

release-text : (rows : List Row) (pointer : Pointer) (hit : Option Hit) (held : Option Rect) → (on_release rows pointer hit held).text ≡ None
unfolding on_release
release-text rows pointer hit held = either (not pointer.down) _ _ None refl (by pointer.grab)
  where
    up : Pointer
    up = record pointer { down = false; grab = no_grab }

    by : (grab : Grab) → (release_by grab rows up hit held).text ≡ None
    by no_grab = refl
    by (on_widget key) = placed-text rows key held up (λ place row. release_on row.kind up hit place row) (λ place row. release_on-text row.kind up hit place row)
    by (drags window dx dy) = refl

-- text goes to Entries alone
abbrev GoesToEntries : List Row → Option ((ℕ × List ℕ) × List ℕ) → Type 0
GoesToEntries rows text = IfSome text (λ ask. is_kind_of is_entry (row_of rows ask.0) ≡ true)

no-text : (rows : List Row) (text : Option ((ℕ × List ℕ) × List ℕ)) → text ≡ None → GoesToEntries rows text
no-text rows text none = subst (GoesToEntries rows) (sym none) tt

key-text : (rows : List Row) (pointer : Pointer) (byte : ℕ) → GoesToEntries rows (on_key rows pointer byte).text
unfolding on_key key_on key_on_entry
key-text rows pointer byte = by pointer.focus
  where
    entry : (row : Row) → is_kind_of is_entry (row_of rows (key_of row)) ≡ true → (o : Option (List ℕ)) → GoesToEntries rows (option_map (λ (text : List ℕ). (key_of row, text)) o)
    entry row is None = tt
    entry row is (Some text) = is

    on : (row : Row) → row_of rows (key_of row) ≡ Some row → (kind : Kind) → row.kind ≡ kind → GoesToEntries rows (key_on kind pointer byte row).text
    on row found Entry is = entry row (ap (is_kind_of is_entry) found ∙ ap is_entry is) _
    on row found VScreen is = tt
    on row found _ is = tt

    at : (key : ℕ × List ℕ) (o : Option Row) → row_of rows key ≡ o → GoesToEntries rows (option_map_or (λ (row : Row). key_on row.kind pointer byte row) o (only_pointer pointer)).text
    at key None found = tt
    at key (Some row) found = on row (row_of-own rows key row found) row.kind refl

    by : (focus : Option (ℕ × List ℕ)) → GoesToEntries rows (option_map_or (λ (row : Row). key_on row.kind pointer byte row) (option_and_then (row_of rows) focus) (only_pointer pointer)).text
    by None = tt
    by (Some key) = at key (row_of rows key) refl

pub text-to-entries : (rows : List Row) (pointer : Pointer) (hit : Option Hit) (held : Option Rect) (width height : ℕ) (event : Input) → IfSome (effects_of rows pointer hit held width height event).text (λ ask. is_kind_of is_entry (row_of rows ask.0) ≡ true)
unfolding effects_of
text-to-entries rows pointer hit held width height (input.Motion x y) = no-text rows _ (motion-text rows pointer held width height x y)
text-to-entries rows pointer hit held width height input.Press = no-text rows _ (press-text rows pointer hit)
text-to-entries rows pointer hit held width height input.Release = no-text rows _ (release-text rows pointer hit held)
text-to-entries rows pointer hit held width height (input.Key byte) = key-text rows pointer byte
