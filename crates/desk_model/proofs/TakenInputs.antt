-- Each value that an input asks for is one that its widget's kind takes, and the window that it raises is open.
use Rattle.std.proofs.Common.{ℕ, ℤ, pos, negsuc, ◌≡◌, ◌≤◌, ◌<◌, ◌-◌, ◌*◌, ◌/◌, ◌-ℤ◌, min, Bool, true, false, cond, not, ◌&&◌, nat_le, nat_lt, nat_eq, int_lt, List, length, Option, Some, None, is_ok, unsigned_abs, refl, sym, ap, ◌∙◌, arith}
use Rattle.std.specs.Prelude.{Ok, Err, IfSome}
use Rattle.std.specs.List.{list_all}
use Rattle.std.specs.Option.{option_map, option_map_or, option_and_then}
use Rattle.std.specs.Ordering.{int_eq}
use Rattle.std.proofs.lemmas.Bool.{true≢false, and_parts, and_from, le-leb, leb-true, ltb-true}
use Rattle.std.proofs.lemmas.Bool.Decides.{nat_tests}
use Rattle.kind_core.specs.declared.kinds.Kind.{Kind}
use Rattle.kind_core.specs.declared.kinds.Kind.TheVariants.{Window, Button, Entry, Scale, Scrollbar, Variable, VScreen}
use Rattle.kind_core.specs.declared.kinds.Attr.{Attr}
use Rattle.kind_core.specs.declared.kinds.Attr.TheVariants.{X, Y, Text, Caret, Value, Max, Real, View}
use Rattle.kind_core.specs.declared.kinds.EventKind.TheVariants.{Change, Move}
use Rattle.kind_core.specs.declared.values.Value as value
use Rattle.kind_core.specs.declared.values.Value.TheVariants.{Number, Words}
use Rattle.kind_core.specs.declared.values.AttrRefusal.{AttrRefusal}
use Rattle.kind_core.specs.declared.values.AttrRefusal.TheVariants.{NotOfKind, OutOfRange}
use Rattle.kind_core.specs.Attributes.{minus, in_range, domain_of, judged}
use Rattle.kind_core.specs.Bytes.{is_printable, is_text}
use Rattle.kind_core.specs.Effective.{clamp}
use Rattle.geom_core.specs.declared.rectangle.Rect.{Rect}
use Rattle.cmd_words.specs.declared.inputs.Input.{Input}
use Rattle.cmd_words.specs.declared.inputs.Input.TheVariants as input
use Rattle.look_core.specs.Knob.{trough_length}
use Rattle.widget_model.specs.RowFacts.{links_right}
use Rattle.widget_model.specs.Rows.{Row, attr_of}
use Rattle.widget_model.specs.Kinds.{is_variable_kind}
use Rattle.widget_model.specs.Named.{has_name, row_named, is_kind_of}
use Rattle.widget_model.specs.Fitting.{fits_attr, fits_table, is_fit}
use Rattle.widget_model.specs.Keys.{key_of, row_of, root_key}
use Rattle.widget_model.specs.Pointer.{Pointer, Grab, no_grab, on_widget, drags}
use Rattle.scene_model.specs.Values.{number_of, count_of, text_of, caret_of, is_vertical}
use Rattle.desk_model.specs.Desk.{Desk, is_open}
use Rattle.desk_model.specs.InputEffects.{Hit, Effects, only_pointer, posted, at_widget, local_x, local_y}
use Rattle.desk_model.specs.InputEdits.{Edit, typed, erased, stepped_back, stepped_on, edit_of, caret_at}
use Rattle.desk_model.specs.InputValues.{value_at, knob_start, knob_length, greatest_value, pointed_place, pointed_value, shown_value, value_key, valued}
use Rattle.desk_model.specs.InputTable.{dragged, drag_on, motion_on, motion_by, pointed_at, on_motion, pressed, grabbed_title, press_on, on_press, release_on, release_by, on_release, key_on_entry, key_on, on_key}
use Rattle.desk_model.specs.Inputs.{effects_of}
use Rattle.desk_model.specs.InputFacts.{takes, AreTaken}
use Rattle.widget_model.proofs.Hanging.{all_at, find-element}
use Rattle.widget_model.proofs.Fit.{IsFit-is_fit}
use Rattle.scene_model.proofs.Parents.{key_of-found, row_of-own}
use Rattle.desk_model.proofs.Shares.{share}
use Rattle.desk_model.proofs.Texts.{is_text-insert, is_text-remove}
use Rattle.desk_model.proofs.Limits.{max_fits, real_fits, text_fits, attr_fits}

-- A number of a range is taken.
ok-number : (least greatest n : ℤ) → in_range least greatest n ≡ true → is_ok {T = Unit {0}} {E = AttrRefusal} (cond (in_range least greatest n) (Ok tt) (Err (OutOfRange least greatest))) ≡ true
ok-number least greatest n h = ap (λ (b : Bool). is_ok {T = Unit {0}} {E = AttrRefusal} (cond b (Ok tt) (Err (OutOfRange least greatest)))) h

ok-count : (most n : ℕ) → n ≤ most → is_ok {T = Unit {0}} {E = AttrRefusal} (cond (in_range (pos 0) (pos most) (pos n)) (Ok tt) (Err (OutOfRange (pos 0) (pos most)))) ≡ true
ok-count most n small = ok-number (pos 0) (pos most) (pos n) (and_from (nat_le 0 n) (nat_le n most) (le-leb 0 n (omega arith)) (le-leb n most small))

-- Where a Window is dragged to is in its range.
clamp-between : (v : ℤ) → int_lt v (minus 1024) ≡ false → int_lt (pos 1024) v ≡ false → in_range (minus 1024) (pos 1024) v ≡ true
clamp-between (pos n) low high = grind (arith, nat_tests)
clamp-between (negsuc n) low high = grind (arith, nat_tests)

clamp-within : (v : ℤ) → in_range (minus 1024) (pos 1024) (clamp v (minus 1024) (pos 1024)) ≡ true
clamp-within v = by (int_lt v (minus 1024)) (int_lt (pos 1024) v) refl refl
  where
    by : (a b : Bool) → int_lt v (minus 1024) ≡ a → int_lt (pos 1024) v ≡ b → in_range (minus 1024) (pos 1024) (cond a (minus 1024) (cond b (pos 1024) v)) ≡ true
    by true b low high = refl
    by false true low high = refl
    by false false low high = clamp-between v low high

-- The value from the pointer is at most the greatest.
start-between : (v : ℤ) (most : ℕ) → int_lt v (pos 0) ≡ false → int_lt (pos most) v ≡ false → unsigned_abs v ≤ most
start-between (pos n) most low high = grind (arith, nat_tests)
start-between (negsuc n) most low high = absurd (true≢false low)

start-most : (v : ℤ) (most : ℕ) → unsigned_abs (clamp v (pos 0) (pos most)) ≤ most
start-most v most = by (int_lt v (pos 0)) (int_lt (pos most) v) refl refl
  where
    by : (a b : Bool) → int_lt v (pos 0) ≡ a → int_lt (pos most) v ≡ b → unsigned_abs (cond a (pos 0) (cond b (pos most) v)) ≤ most
    by true b low high = omega arith
    by false true low high = omega arith
    by false false low high = start-between v most low high

pub value_at-most : (trough knob most : ℕ) (t : ℤ) → value_at trough knob most t ≤ most
unfolding value_at
value_at-most trough knob most t = by (nat_le trough knob)
  where
    by : (b : Bool) → cond b 0 (knob_start trough knob t * most / (trough - knob)) ≤ most
    by true = omega arith
    by false = share (knob_start trough knob t) most (trough - knob) (start-most (t -ℤ pos (knob / 2)) (trough - knob))

-- what holds of each row of a valid desk, by itself
pub record IsRowOf (rows : List Row) (row : Row) : Type 0 where
  pub own : row_of rows (key_of row) ≡ Some row
  pub fits : fits_table row ≡ true
  pub linked : links_right rows row ≡ true

pub IsRowOf-found : (rows : List Row) (key : ℕ × List ℕ) (row : Row) → list_all is_fit rows ≡ true → list_all (links_right rows) rows ≡ true → row_of rows key ≡ Some row → IsRowOf rows row
IsRowOf-found rows key row fits linked found =
    let at = find-element (has_name key.0 key.1) rows row found in
    record { own = row_of-own rows key row found; fits = (IsFit-is_fit row (all_at is_fit rows at.0 row fits at.1)).table; linked = all_at (links_right rows) rows at.0 row linked at.1 }

takes-at : (rows : List Row) (row : Row) (kind : Kind) (attr : Attr) (v : value.Value) → IsRowOf rows row → row.kind ≡ kind → is_ok (judged (domain_of kind attr) v) ≡ true → takes rows (key_of row) attr v ≡ true
takes-at rows row kind attr v good is ok =
    ap (is_kind_of (λ (k : Kind). is_ok (judged (domain_of k attr) v))) good.own ∙ ap (λ (k : Kind). is_ok (judged (domain_of k attr) v)) is ∙ ok

only-taken : (desk : Desk) (pointer : Pointer) → AreTaken desk (only_pointer pointer)
only-taken desk pointer = record { values = record { value = tt; text = tt; caret = tt; moved = tt }; raise = tt }

-- VALUES
most-same : {a b : ℕ} → a ≡ b → b ≤ 10000 → a ≤ 10000
most-same is small = omega arith

variable-takes : (kind : Kind) (n : ℕ) → n ≤ 10000 → is_variable_kind kind ≡ true → is_ok (judged (domain_of kind Value) (Number (pos n))) ≡ true
variable-takes Variable n small is = ok-number (minus 1000000) (pos 1000000) (pos n) (le-leb n 1000000 (omega arith))
variable-takes _ n small is = absurd (true≢false (sym is))

kind-implies : (p q : Kind → Bool) (o : Option Row) → ((kind : Kind) → p kind ≡ true → q kind ≡ true) → is_kind_of p o ≡ true → is_kind_of q o ≡ true
kind-implies p q None each h = absurd (true≢false (sym h))
kind-implies p q (Some row) each h = each row.kind h

value_key-takes : (rows : List Row) (row : Row) (n : ℕ) → n ≤ 10000 → IsRowOf rows row → is_ok (judged (domain_of row.kind Value) (Number (pos n))) ≡ true → takes rows (value_key row) Value (Number (pos n)) ≡ true
value_key-takes rows row n small good ok = by row.link good.linked
  where
    by : (link : Option (List ℕ)) → option_map_or (λ (name : List ℕ). is_kind_of is_variable_kind (row_named rows row.client name)) link true ≡ true → takes rows (option_map_or (λ (name : List ℕ). (row.client, name)) link (key_of row)) Value (Number (pos n)) ≡ true
    by None h = takes-at rows row row.kind Value (Number (pos n)) good refl ok
    by (Some name) h = kind-implies is_variable_kind (λ (k : Kind). is_ok (judged (domain_of k Value) (Number (pos n)))) (row_named rows row.client name) (λ kind is. variable-takes kind n small is) h

record IsPointed (v : ℤ) (most : ℕ) : Type 0 where
  count : ℕ
  is : v ≡ pos count
  small : count ≤ most

IsPointed-value : (pointer : Pointer) (place : Rect) (row : Row) → IsPointed (pointed_value pointer place row) (greatest_value row.kind row)
unfolding pointed_value
IsPointed-value pointer place row =
    let trough = trough_length (is_vertical row) place.w place.h in
    record {
      count = value_at trough (knob_length row.kind trough row) (greatest_value row.kind row) (pointed_place pointer place row);
      is = refl;
      small = value_at-most trough (knob_length row.kind trough row) (greatest_value row.kind row) (pointed_place pointer place row);
    }

valued-taken : (desk : Desk) (place : Rect) (row : Row) (effects : Effects) → IsRowOf desk.rows row → greatest_value row.kind row ≤ 10000 → ((n : ℕ) → n ≤ 10000 → is_ok (judged (domain_of row.kind Value) (Number (pos n))) ≡ true) → AreTaken desk effects → AreTaken desk (valued desk.rows place row effects)
unfolding valued
valued-taken desk place row effects good most ok taken = by (int_eq (pointed_value effects.pointer place row) (shown_value desk.rows row))
  where
    value_taken : takes desk.rows (value_key row) Value (Number (pointed_value effects.pointer place row)) ≡ true
    value_taken =
        let at = IsPointed-value effects.pointer place row in
        let small : at.count ≤ 10000 = omega arith in
        ap (λ (z : ℤ). takes desk.rows (value_key row) Value (Number z)) at.is ∙ value_key-takes desk.rows row at.count small good (ok at.count small)

    by : (b : Bool) → AreTaken desk (cond b effects (record effects { value = Some (value_key row, pointed_value effects.pointer place row); posts = posted Change (pointed_value effects.pointer place row) (pos 0) row }))
    by true = taken
    by false = record { values = record { value = value_taken; text = taken.values.text; caret = taken.values.caret; moved = taken.values.moved }; raise = taken.raise }

scale-taken : (desk : Desk) (place : Rect) (row : Row) (effects : Effects) → IsRowOf desk.rows row → row.kind ≡ Scale → AreTaken desk effects → AreTaken desk (valued desk.rows place row effects)
scale-taken desk place row effects good is taken =
    valued-taken desk place row effects good
    (most-same (ap (λ (k : Kind). greatest_value k row) is) (max_fits row.kind (attr_of row Max) (attr_fits row Max refl good.fits)))
    (λ n small. ap (λ (k : Kind). is_ok (judged (domain_of k Value) (Number (pos n)))) is ∙ ok-count 10000 n small) taken

scrollbar-taken : (desk : Desk) (place : Rect) (row : Row) (effects : Effects) → IsRowOf desk.rows row → row.kind ≡ Scrollbar → AreTaken desk effects → AreTaken desk (valued desk.rows place row effects)
scrollbar-taken desk place row effects good is taken =
    valued-taken desk place row effects good
    (most-same (ap (λ (k : Kind). greatest_value k row) is) (less (count_of Real row) (count_of View row) (real_fits row.kind (attr_of row Real) (attr_fits row Real refl good.fits))))
    (λ n small. ap (λ (k : Kind). is_ok (judged (domain_of k Value) (Number (pos n)))) is ∙ ok-count 10000 n small) taken
  where
    less : (a b : ℕ) → a ≤ 10000 → a - b ≤ 10000
    less a b h = omega arith

-- MOTION
dragged-taken : (desk : Desk) (pointer : Pointer) (dx dy : ℕ) (row : Row) → IsRowOf desk.rows row → row.kind ≡ Window → AreTaken desk (dragged pointer dx dy row)
unfolding dragged
dragged-taken desk pointer dx dy row good is = by (int_eq x (number_of X row) && int_eq y (number_of Y row))
  where
    x : ℤ
    x = clamp (pos pointer.x -ℤ pos dx) (minus 1024) (pos 1024)

    y : ℤ
    y = clamp (pos pointer.y -ℤ pos dy) (minus 1024) (pos 1024)

    by : (b : Bool) → AreTaken desk (cond b (only_pointer pointer) (record (only_pointer pointer) { moved = Some (key_of row, x, y); posts = posted Move x y row }))
    by true = only-taken desk pointer
    by false = record {
      values = record {
        value = tt;
        text = tt;
        caret = tt;
        moved = (
          takes-at desk.rows row Window X (Number x) good is (ok-number (minus 1024) (pos 1024) x (clamp-within (pos pointer.x -ℤ pos dx))),
          takes-at desk.rows row Window Y (Number y) good is (ok-number (minus 1024) (pos 1024) y (clamp-within (pos pointer.y -ℤ pos dy))),
        );
      };
      raise = tt;
    }

drag_on-taken : (desk : Desk) (kind : Kind) (pointer : Pointer) (dx dy : ℕ) (row : Row) → IsRowOf desk.rows row → row.kind ≡ kind → AreTaken desk (drag_on kind pointer dx dy row)
unfolding drag_on
drag_on-taken desk Window pointer dx dy row good is = dragged-taken desk pointer dx dy row good is
drag_on-taken desk _ pointer dx dy row good is = only-taken desk pointer

motion_on-taken : (desk : Desk) (kind : Kind) (pointer : Pointer) (place : Rect) (row : Row) → IsRowOf desk.rows row → row.kind ≡ kind → AreTaken desk (motion_on kind desk.rows pointer place row)
unfolding motion_on
motion_on-taken desk Scale pointer place row good is = scale-taken desk place row (only_pointer pointer) good is (only-taken desk pointer)
motion_on-taken desk Scrollbar pointer place row good is = scrollbar-taken desk place row (only_pointer pointer) good is (only-taken desk pointer)
motion_on-taken desk VScreen pointer place row good is = record { values = record { value = tt; text = tt; caret = tt; moved = tt }; raise = tt }
motion_on-taken desk _ pointer place row good is = only-taken desk pointer

-- what holds of all rows
pub record AreGood (rows : List Row) : Type 0 where
  pub fits : list_all is_fit rows ≡ true
  pub linked : list_all (links_right rows) rows ≡ true

-- what happens to the row with a key
at-row : (desk : Desk) (key : ℕ × List ℕ) (pointer : Pointer) (happens : Row → Effects) → AreGood desk.rows → ((row : Row) → IsRowOf desk.rows row → key_of row ≡ key → AreTaken desk (happens row)) → AreTaken desk (option_map_or happens (row_of desk.rows key) (only_pointer pointer))
at-row desk key pointer happens good each = by (row_of desk.rows key) refl
  where
    by : (o : Option Row) → row_of desk.rows key ≡ o → AreTaken desk (option_map_or happens o (only_pointer pointer))
    by None found = only-taken desk pointer
    by (Some row) found = each row (IsRowOf-found desk.rows key row good.fits good.linked found) (key_of-found desk.rows key row found)

at-place : (desk : Desk) (key : ℕ × List ℕ) (held : Option Rect) (pointer : Pointer) (happens : Rect → Row → Effects) → AreGood desk.rows → ((place : Rect) (row : Row) → IsRowOf desk.rows row → AreTaken desk (happens place row)) → AreTaken desk (at_widget desk.rows key held pointer happens)
at-place desk key None pointer happens good each = only-taken desk pointer
at-place desk key (Some place) pointer happens good each = at-row desk key pointer (happens place) good (λ row is keyed. each place row is)

motion-taken : (desk : Desk) (held : Option Rect) (width height x y : ℕ) → AreGood desk.rows → AreTaken desk (on_motion desk.rows desk.pointer held width height x y)
unfolding on_motion
motion-taken desk held width height x y good = by desk.pointer.down
  where
    there : Pointer
    there = pointed_at width height x y desk.pointer

    moved : (grab : Grab) → AreTaken desk (motion_by grab desk.rows there held)
    moved no_grab = only-taken desk there
    moved (on_widget key) = at-place desk key held there (λ (place : Rect) (row : Row). motion_on row.kind desk.rows there place row) good (λ place row is. motion_on-taken desk row.kind there place row is refl)
    moved (drags window dx dy) = at-row desk window there (λ (row : Row). drag_on row.kind there dx dy row) good (λ row is keyed. drag_on-taken desk row.kind there dx dy row is refl)

    by : (b : Bool) → AreTaken desk (cond b (motion_by desk.pointer.grab desk.rows there held) (only_pointer there))
    by true = moved desk.pointer.grab
    by false = only-taken desk there

-- PRESS
caret_at-most : (u : ℤ) (n : ℕ) → caret_at u n ≤ n
unfolding caret_at
caret_at-most u n = by (int_lt u (pos 2))
  where
    by : (b : Bool) → cond b 0 (min n (unsigned_abs (u -ℤ pos 2) / 6)) ≤ n
    by true = omega arith
    by false = omega arith

-- an Entry's text
text-short : (text : List ℕ) → is_text text ≡ true → length text ≤ 64
text-short text is = leb-true (length text) 64 (and_parts (nat_le (length text) 64) (list_all is_printable text) is).0

entry-text : (row : Row) → fits_table row ≡ true → row.kind ≡ Entry → is_text (text_of Text row) ≡ true
entry-text row fits is = text_fits (attr_of row Text) (sym (ap (λ (k : Kind). fits_attr k Text (attr_of row Text)) is) ∙ attr_fits row Text refl fits)

caret-taken : (rows : List Row) (row : Row) (caret : ℕ) → IsRowOf rows row → row.kind ≡ Entry → caret ≤ 64 → takes rows (key_of row) Caret (Number (pos caret)) ≡ true
caret-taken rows row caret good is small = takes-at rows row Entry Caret (Number (pos caret)) good is (ok-count 64 caret small)

title-taken : (desk : Desk) (pointer : Pointer) (place : Rect) (row : Row) (effects : Effects) → AreTaken desk effects → AreTaken desk (grabbed_title pointer place row effects)
unfolding grabbed_title
title-taken desk pointer place row effects taken = by (int_lt (local_y pointer place) (pos 12))
  where
    by : (b : Bool) → AreTaken desk (cond b (record effects { pointer = record effects.pointer { grab = drags (key_of row) (unsigned_abs (local_x pointer place)) (unsigned_abs (local_y pointer place)) } }) effects)
    by true = record { values = record { value = taken.values.value; text = taken.values.text; caret = taken.values.caret; moved = taken.values.moved }; raise = taken.raise }
    by false = taken

press_on-taken : (desk : Desk) (kind : Kind) (pointer : Pointer) (place : Rect) (row : Row) (effects : Effects) → IsRowOf desk.rows row → row.kind ≡ kind → AreTaken desk effects → AreTaken desk (press_on kind desk.rows pointer place row effects)
unfolding press_on
press_on-taken desk Window pointer place row effects good is taken = title-taken desk pointer place row effects taken
press_on-taken desk Button pointer place row effects good is taken = record { values = record { value = taken.values.value; text = taken.values.text; caret = taken.values.caret; moved = taken.values.moved }; raise = taken.raise }
press_on-taken desk VScreen pointer place row effects good is taken = record { values = record { value = taken.values.value; text = taken.values.text; caret = taken.values.caret; moved = taken.values.moved }; raise = taken.raise }
press_on-taken desk Entry pointer place row effects good is taken =
    let most = caret_at-most (local_x pointer place) (length (text_of Text row)) in
    let short = text-short (text_of Text row) (entry-text row good.fits is) in
    let small : caret_at (local_x pointer place) (length (text_of Text row)) ≤ 64 = omega (arith, most, short) in
    record { values = record { value = taken.values.value; text = taken.values.text; caret = caret-taken desk.rows row (caret_at (local_x pointer place) (length (text_of Text row))) good is small; moved = taken.values.moved }; raise = taken.raise }
press_on-taken desk Scale pointer place row effects good is taken = scale-taken desk place row effects good is taken
press_on-taken desk Scrollbar pointer place row effects good is taken = scrollbar-taken desk place row effects good is taken
press_on-taken desk _ pointer place row effects good is taken = taken

-- whether the widget that is hit is under an open window
abbrev pub HitsOpen : Desk → Option Hit → Type 0
HitsOpen desk hit = IfSome hit (λ hit. is_open desk hit.key.0 (root_key desk.rows hit.key).1 ≡ true)

press-taken : (desk : Desk) (hit : Option Hit) → AreGood desk.rows → HitsOpen desk hit → AreTaken desk (on_press desk.rows desk.pointer hit)
unfolding on_press
press-taken desk hit good opens = by desk.pointer.down hit opens
  where
    happens : Hit → Row → Effects
    happens hit row = press_on row.kind desk.rows desk.pointer hit.place row (pressed desk.rows desk.pointer row)

    here : (hit : Hit) → is_open desk hit.key.0 (root_key desk.rows hit.key).1 ≡ true → (row : Row) → IsRowOf desk.rows row → key_of row ≡ hit.key → AreTaken desk (happens hit row)
    here hit inside row is keyed =
        press_on-taken desk row.kind desk.pointer hit.place row (pressed desk.rows desk.pointer row) is refl
        (record { values = record { value = tt; text = tt; caret = tt; moved = tt }; raise = ap (λ (k : ℕ × List ℕ). is_open desk k.0 (root_key desk.rows k).1) keyed ∙ inside })

    by : (b : Bool) (o : Option Hit) → HitsOpen desk o → AreTaken desk (cond b (only_pointer desk.pointer) (option_map_or (λ (h : Hit). option_map_or (happens h) (row_of desk.rows h.key) (only_pointer desk.pointer)) o (only_pointer (record desk.pointer { down = true; focus = None }))))
    by true o opens = only-taken desk desk.pointer
    by false None opens = only-taken desk (record desk.pointer { down = true; focus = None })
    by false (Some h) opens = at-row desk h.key desk.pointer (happens h) good (λ row is keyed. here h opens row is keyed)

-- RELEASE
release_on-taken : (desk : Desk) (kind : Kind) (pointer : Pointer) (hit : Option Hit) (place : Rect) (row : Row) → AreTaken desk (release_on kind pointer hit place row)
unfolding release_on
release_on-taken desk Button pointer hit place row = record { values = record { value = tt; text = tt; caret = tt; moved = tt }; raise = tt }
release_on-taken desk VScreen pointer hit place row = record { values = record { value = tt; text = tt; caret = tt; moved = tt }; raise = tt }
release_on-taken desk _ pointer hit place row = only-taken desk pointer

release-taken : (desk : Desk) (hit : Option Hit) (held : Option Rect) → AreGood desk.rows → AreTaken desk (on_release desk.rows desk.pointer hit held)
unfolding on_release
release-taken desk hit held good = by desk.pointer.down
  where
    up : Pointer
    up = record desk.pointer { down = false; grab = no_grab }

    let_up : (grab : Grab) → AreTaken desk (release_by grab desk.rows up hit held)
    let_up (on_widget key) = at-place desk key held up (λ (place : Rect) (row : Row). release_on row.kind up hit place row) good (λ place row is. release_on-taken desk row.kind up hit place row)
    let_up no_grab = only-taken desk up
    let_up (drags window dx dy) = only-taken desk up

    by : (b : Bool) → AreTaken desk (cond (not b) (only_pointer desk.pointer) (release_by desk.pointer.grab desk.rows up hit held))
    by true = let_up desk.pointer.grab
    by false = only-taken desk desk.pointer

-- KEY
record IsFitEdit (edit : Edit) : Type 0 where
  text : IfSome edit.text (λ text. is_text text ≡ true)
  caret : edit.caret ≤ 64

if-fit : (b : Bool) (edit : Edit) (rest : Option Edit) → (b ≡ true → IsFitEdit edit) → IfSome rest IsFitEdit → IfSome (cond b (Some edit) rest) IsFitEdit
if-fit true edit rest fit others = fit refl
if-fit false edit rest fit others = others

edit-fits : (byte : ℕ) (text : List ℕ) (caret : ℕ) → is_text text ≡ true → caret ≤ length text → IfSome (edit_of byte text caret) IsFitEdit
unfolding edit_of
edit-fits byte text caret is within =
    let short = text-short text is in
    if-fit (is_printable byte && nat_lt (length text) 64) (typed byte text caret) _
    (λ h.
    let parts = and_parts (is_printable byte) (nat_lt (length text) 64) h in
    let room : length text < 64 = ltb-true (length text) 64 parts.1 in
    record { text = is_text-insert text caret byte parts.0 room within is; caret = omega (arith, room, within) })
    (if-fit (nat_eq byte 8 && nat_lt 0 caret) (erased text caret) _ (λ h. record { text = is_text-remove text (caret - 1) is; caret = omega (arith, short, within) })
    (if-fit (nat_eq byte 2 && nat_lt 0 caret) (stepped_back caret) _ (λ h. record { text = tt; caret = omega (arith, short, within) })
    (if-fit (nat_eq byte 6 && nat_lt caret (length text)) (stepped_on caret) None (λ h. record { text = tt; caret = omega (arith, short, ltb-true caret (length text) (and_parts (nat_eq byte 6) (nat_lt caret (length text)) h).1) }) tt)))

-- the widget that takes a text, and the one that takes a caret
abbrev text_at : Row → List ℕ → (ℕ × List ℕ) × List ℕ
text_at row text = (key_of row, text)

abbrev caret_for : Row → Edit → (ℕ × List ℕ) × ℤ
caret_for row edit = (key_of row, pos edit.caret)

key_on_entry-taken : (desk : Desk) (pointer : Pointer) (byte : ℕ) (row : Row) → IsRowOf desk.rows row → row.kind ≡ Entry → AreTaken desk (key_on_entry pointer byte row)
unfolding key_on_entry
key_on_entry-taken desk pointer byte row good is =
    record { values = record { value = tt; text = text_of_edit (edit_of byte (text_of Text row) (caret_of row)) fit; caret = caret_of_edit (edit_of byte (text_of Text row) (caret_of row)) fit; moved = tt }; raise = tt }
  where
    fit : IfSome (edit_of byte (text_of Text row) (caret_of row)) IsFitEdit
    fit = edit-fits byte (text_of Text row) (caret_of row) (entry-text row good.fits is) (omega arith)

    text_taken : (text : Option (List ℕ)) → IfSome text (λ text. is_text text ≡ true) → IfSome (option_map (text_at row) text) (λ ask. takes desk.rows ask.0 Text (Words ask.1) ≡ true)
    text_taken None h = tt
    text_taken (Some text) h = takes-at desk.rows row Entry Text (Words text) good is (ap (λ (b : Bool). is_ok {T = Unit {0}} {E = AttrRefusal} (cond b (Ok tt) (Err NotOfKind))) h)

    text_of_edit : (o : Option Edit) → IfSome o IsFitEdit → IfSome (option_map (text_at row) (option_and_then (λ (edit : Edit). edit.text) o)) (λ ask. takes desk.rows ask.0 Text (Words ask.1) ≡ true)
    text_of_edit None h = tt
    text_of_edit (Some edit) h = text_taken edit.text h.text

    caret_of_edit : (o : Option Edit) → IfSome o IsFitEdit → IfSome (option_map (caret_for row) o) (λ ask. takes desk.rows ask.0 Caret (Number ask.1) ≡ true)
    caret_of_edit None h = tt
    caret_of_edit (Some edit) h = caret-taken desk.rows row edit.caret good is h.caret

key_on-taken : (desk : Desk) (kind : Kind) (pointer : Pointer) (byte : ℕ) (row : Row) → IsRowOf desk.rows row → row.kind ≡ kind → AreTaken desk (key_on kind pointer byte row)
unfolding key_on
key_on-taken desk Entry pointer byte row good is = key_on_entry-taken desk pointer byte row good is
key_on-taken desk VScreen pointer byte row good is = record { values = record { value = tt; text = tt; caret = tt; moved = tt }; raise = tt }
key_on-taken desk _ pointer byte row good is = only-taken desk pointer

key-taken : (desk : Desk) (byte : ℕ) → AreGood desk.rows → AreTaken desk (on_key desk.rows desk.pointer byte)
unfolding on_key
key-taken desk byte good = by desk.pointer.focus
  where
    by : (focus : Option (ℕ × List ℕ)) → AreTaken desk (option_map_or (λ (row : Row). key_on row.kind desk.pointer byte row) (option_and_then (row_of desk.rows) focus) (only_pointer desk.pointer))
    by None = only-taken desk desk.pointer
    by (Some key) = at-row desk key desk.pointer (λ (row : Row). key_on row.kind desk.pointer byte row) good (λ row is keyed. key_on-taken desk row.kind desk.pointer byte row is refl)

-- all inputs
pub effects-taken : (desk : Desk) (hit : Option Hit) (held : Option Rect) (width height : ℕ) (asked : Input) → AreGood desk.rows → HitsOpen desk hit → AreTaken desk (effects_of desk.rows desk.pointer hit held width height asked)
unfolding effects_of
effects-taken desk hit held width height (input.Motion x y) good opens = motion-taken desk held width height x y good
effects-taken desk hit held width height input.Press good opens = press-taken desk hit good opens
effects-taken desk hit held width height input.Release good opens = release-taken desk hit held good
effects-taken desk hit held width height (input.Key byte) good opens = key-taken desk byte good
