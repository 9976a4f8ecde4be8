-- Each input keeps what holds of a desk: the values that it gives fit their kind's table, the window that it raises is
-- an open one, and rings stay rings.
use Rattle.std.proofs.Common.{ℕ, zero, suc, ◌+◌, ◌≡◌, ◌≤◌, Bool, true, false, cond, not, ◌||◌, nat_eq, nat_lt, min, List, [], ◌∷◌, ◌++◌, length, drop, slice_get, Option, Some, None, Result, Ok, Err, is_ok, refl, sym, ap, ◌∙◌, arith, pos, ℤ, length-append, length-drop}
use Rattle.std.specs.Prelude.{IfSome}
use Rattle.std.specs.List.{fold, filter, list_all, list_any}
use Rattle.std.specs.Option.{option_map, option_map_or}
use Rattle.std.specs.Str.{bytes_eq}
use Rattle.std.specs.Cmp.Lexicographic.{nat_list_eq_equiv}
use Rattle.std.specs.Cmp.{nat_eq_equiv}
use Rattle.std.proofs.lemmas.Bool.{true≢false, and_parts, and_from, ltb-true, eqb-true}
use Rattle.std.proofs.lemmas.Slice.Eq.{bytes_eq-Decides}
use Rattle.kind_core.specs.declared.kinds.Kind.{Kind}
use Rattle.kind_core.specs.declared.kinds.Kind.TheVariants.{Window}
use Rattle.kind_core.specs.declared.kinds.Attr.{Attr}
use Rattle.kind_core.specs.declared.kinds.Attr.TheVariants.{X, Y, Text, Caret, Value}
use Rattle.kind_core.specs.declared.kinds.EventKind.{EventKind}
use Rattle.kind_core.specs.declared.shapes.Cell.{Cell}
use Rattle.kind_core.specs.declared.values.Value as value
use Rattle.kind_core.specs.declared.values.Value.TheVariants.{Number, Words}
use Rattle.kind_core.specs.declared.values.AttrRefusal.{AttrRefusal}
use Rattle.kind_core.specs.Attributes.{domain_of, judged}
use Rattle.cmd_words.specs.declared.inputs.Input.{Input}
use Rattle.bind_core.specs.Ring.{Event, RingState, IsRing}
use Rattle.bind_core.specs.Posting.{has_room, kept_with, after_post}
use Rattle.widget_model.specs.Rows.{Row, with_attr}
use Rattle.widget_model.specs.Kinds.{is_window_kind}
use Rattle.widget_model.specs.Named.{has_name, row_named, is_kind_of}
use Rattle.widget_model.specs.Keys.{root_key}
use Rattle.widget_model.specs.Trees.{can_be_child, parent_of, root_in, most_levels}
use Rattle.widget_model.specs.Planted.{IsPlanted, hangs_right}
use Rattle.scene_model.specs.Showing.{place_of, top_of, shows_at}
use Rattle.desk_model.specs.Desk.{Desk, Ring, is_open, is_window}
use Rattle.desk_model.specs.DeskFacts.{AreRingsOf, IsDesk}
use Rattle.desk_model.specs.DeskLaws.{InputsKeepDesks}
use Rattle.desk_model.specs.Seen.{scene_of}
use Rattle.desk_model.specs.Polling.{with_ring}
use Rattle.desk_model.specs.Windows.{with_top}
use Rattle.desk_model.specs.InputEffects.{Effects}
use Rattle.desk_model.specs.InputFacts.{takes, AreTaken}
use Rattle.desk_model.specs.Feeding.{hit_of, held_place, with_value_at, with_number, with_text, with_moved, rows_after, tag_of, with_post, carried_out, effects_on, step_feed}
use Rattle.widget_model.proofs.Hanging.{all_at, none_at, find-element, changed, hangs_right-at}
use Rattle.widget_model.proofs.Leaves.{LeavesNode, LeavesNode-changed}
use Rattle.widget_model.proofs.Fit.{is_fit-with_attr}
use Rattle.widget_model.proofs.ChangedRows.{is_kind_of-map, Suits, Suits-change}
use Rattle.widget_model.proofs.LeftRows.{all-kept}
use Rattle.scene_model.proofs.Parents.{parent_of-found}
use Rattle.scene_model.proofs.TopWidget.{top_is_on_top}
use Rattle.desk_model.proofs.Sound.{names_window, AreWindows, IsSound, IsSound-desk, IsDesk-let_go}
use Rattle.desk_model.proofs.KeptRows.{IsSound-with_named}
use Rattle.desk_model.proofs.KeptOut.{AreOpenOnce-filter}
use Rattle.desk_model.proofs.KeptWindows.{none-left}
use Rattle.desk_model.proofs.Rings.{AreRingsOf-with_ring}
use Rattle.desk_model.proofs.TakenInputs.{HitsOpen, effects-taken}

-- ROWS. A value that is taken keeps them.
ok-is : (answer : Result (Unit {0}) AttrRefusal) → is_ok answer ≡ true → answer ≡ Ok tt
ok-is (Ok done) h = refl
ok-is (Err refusal) h = absurd (true≢false (sym h))

with_attr-leaves : (attr : Attr) (v : value.Value) → LeavesNode (with_attr attr v)
with_attr-leaves attr v = record { client = λ row. refl; name = λ row. refl; kind = λ row. refl }

Suits-with_attr : (rows : List Row) (key : ℕ × List ℕ) (attr : Attr) (v : value.Value) (row : Row) → IsPlanted rows → is_ok (judged (domain_of row.kind attr) v) ≡ true → Suits rows key.0 key.1 row (with_attr attr v)
Suits-with_attr rows key attr v row planted ok =
    Suits-change rows key.0 key.1 row (with_attr attr v) (record { leaves = with_attr-leaves attr v; attached = λ row. refl }) (λ row. refl) (λ row. refl) planted
    (is_fit-with_attr row attr v (ok-is (judged (domain_of row.kind attr) v) ok))

IsSound-value : (desk : Desk) (key : ℕ × List ℕ) (attr : Attr) (v : value.Value) → IsSound desk → takes desk.rows key attr v ≡ true → IsSound (record desk { rows = with_value_at key attr v desk.rows })
IsSound-value desk key attr v sound taken = by (row_named desk.rows key.0 key.1) refl taken
  where
    by : (o : Option Row) → row_named desk.rows key.0 key.1 ≡ o → is_kind_of (λ (kind : Kind). is_ok (judged (domain_of kind attr) v)) o ≡ true → IsSound (record desk { rows = with_value_at key attr v desk.rows })
    by None found h = absurd (true≢false (sym h))
    by (Some row) found h = IsSound-with_named desk key.0 key.1 row (with_attr attr v) sound found (Suits-with_attr desk.rows key attr v row sound.rows.planted h) (λ h. h) refl

pub takes-kept : (rows : List Row) (key other : ℕ × List ℕ) (attr asked : Attr) (v w : value.Value) → takes (with_value_at key attr v rows) other asked w ≡ takes rows other asked w
takes-kept rows key other attr asked v w =
    is_kind_of-map rows (changed key.0 key.1 (with_attr attr v)) (λ (kind : Kind). is_ok (judged (domain_of kind asked) w)) other.0 other.1 (LeavesNode-changed key.0 key.1 (with_attr attr v) (with_attr-leaves attr v))

-- the rows so far, which take what the desk's took
record AreStill (desk : Desk) (rows : List Row) : Type 0 where
  sound : IsSound (record desk { rows = rows })
  same : (key : ℕ × List ℕ) (attr : Attr) (v : value.Value) → takes rows key attr v ≡ takes desk.rows key attr v

still-value : (desk : Desk) (rows : List Row) (key : ℕ × List ℕ) (attr : Attr) (v : value.Value) → AreStill desk rows → takes desk.rows key attr v ≡ true → AreStill desk (with_value_at key attr v rows)
still-value desk rows key attr v still taken =
    record {
      sound = IsSound-value (record desk { rows = rows }) key attr v still.sound (still.same key attr v ∙ taken);
      same = λ other asked w. takes-kept rows key other attr asked v w ∙ still.same other asked w;
    }

still-number : (desk : Desk) (rows : List Row) (attr : Attr) (asked : Option ((ℕ × List ℕ) × ℤ)) → AreStill desk rows → IfSome asked (λ ask. takes desk.rows ask.0 attr (Number ask.1) ≡ true) → AreStill desk (with_number attr asked rows)
still-number desk rows attr None still taken = still
still-number desk rows attr (Some ask) still taken = still-value desk rows ask.0 attr (Number ask.1) still taken

still-text : (desk : Desk) (rows : List Row) (asked : Option ((ℕ × List ℕ) × List ℕ)) → AreStill desk rows → IfSome asked (λ ask. takes desk.rows ask.0 Text (Words ask.1) ≡ true) → AreStill desk (with_text asked rows)
still-text desk rows None still taken = still
still-text desk rows (Some ask) still taken = still-value desk rows ask.0 Text (Words ask.1) still taken

still-moved : (desk : Desk) (rows : List Row) (asked : Option ((ℕ × List ℕ) × ℤ × ℤ)) → AreStill desk rows → IfSome asked (λ ask. (takes desk.rows ask.0 X (Number ask.1) ≡ true) × (takes desk.rows ask.0 Y (Number ask.2) ≡ true)) → AreStill desk (with_moved asked rows)
still-moved desk rows None still taken = still
still-moved desk rows (Some ask) still taken =
    still-value desk (with_value_at ask.0 X (Number ask.1) rows) ask.0 Y (Number ask.2) (still-value desk rows ask.0 X (Number ask.1) still taken.0) taken.1

still-after : (desk : Desk) (effects : Effects) → IsSound desk → AreTaken desk effects → AreStill desk (rows_after effects desk.rows)
still-after desk effects sound taken =
    let start : AreStill desk desk.rows = record { sound = sound; same = λ key attr v. refl } in
    let valued = still-number desk desk.rows Value effects.value start taken.values.value in
    let texted = still-text desk (with_number Value effects.value desk.rows) effects.text valued taken.values.text in
    let careted = still-number desk (with_text effects.text (with_number Value effects.value desk.rows)) Caret effects.caret texted taken.values.caret in
    still-moved desk (with_number Caret effects.caret (with_text effects.text (with_number Value effects.value desk.rows))) effects.moved careted taken.values.moved

-- WINDOWS. One that is open goes to the top.
pub window-there : (rows : List Row) (client : ℕ) (name : List ℕ) (windows : List (ℕ × List ℕ)) → list_all (names_window rows) windows ≡ true → list_any (is_window client name) windows ≡ true → names_window rows (client, name) ≡ true
window-there rows client name [] all any = absurd (true≢false (sym any))
window-there rows client name (window ∷ windows) all any = by (window-there rows client name windows) (is_window client name window) refl any (and_parts (names_window rows window) (list_all (names_window rows) windows) all)
  where
    by : (list_all (names_window rows) windows ≡ true → list_any (is_window client name) windows ≡ true → names_window rows (client, name) ≡ true) → (b : Bool) → is_window client name window ≡ b → (b || list_any (is_window client name) windows) ≡ true → (names_window rows window ≡ true) × (list_all (names_window rows) windows ≡ true) → names_window rows (client, name) ≡ true
    by rest true is h parts =
        let same = and_parts (nat_eq client window.0) (bytes_eq name window.1) is in
        ap (λ (c : ℕ). names_window rows (c, name)) (eqb-true client window.0 same.0) ∙ ap (λ (n : List ℕ). names_window rows (window.0, n)) ((bytes_eq-Decides name window.1).0 same.1) ∙ parts.0
    by rest false is h parts = rest parts.1 h

AreWindows-top : (rows : List Row) (client : ℕ) (name : List ℕ) (windows : List (ℕ × List ℕ)) → AreWindows rows windows → list_any (is_window client name) windows ≡ true → AreWindows rows (with_top client name windows)
AreWindows-top rows client name windows kept opened =
    record {
      there = and_from (names_window rows (client, name)) (list_all (names_window rows) (filter (λ window. not (is_window client name window)) windows)) (window-there rows client name windows kept.there opened) (all-kept (names_window rows) (λ window. not (is_window client name window)) windows kept.there);
      once = (none-left (is_window client name) windows, AreOpenOnce-filter (λ window. not (is_window client name window)) windows kept.once);
    }

AreWindows-raised : (rows : List Row) (desk : Desk) (raise : Option (ℕ × List ℕ)) → AreWindows rows desk.windows → IfSome raise (λ window. is_open desk window.0 window.1 ≡ true) → AreWindows rows (option_map_or (λ (window : ℕ × List ℕ). with_top window.0 window.1 desk.windows) raise desk.windows)
AreWindows-raised rows desk None kept opened = kept
AreWindows-raised rows desk (Some window) kept opened = AreWindows-top rows window.0 window.1 desk.windows kept opened

-- RINGS. A post leaves a ring a ring.
IsRing-after_post : (ring : RingState) (event : Event) → IsRing ring → IsRing (after_post ring event)
unfolding after_post kept_with
IsRing-after_post ring event is = record { few = few (has_room ring.kept) refl; counted = counted (has_room ring.kept) }
  where
    few : (b : Bool) → nat_lt (length ring.kept) 32 ≡ b → length ((cond b ring.kept (drop 1 ring.kept)) ++ event ∷ []) ≤ 32
    few true room = omega (arith, length-append ring.kept (event ∷ []), ltb-true (length ring.kept) 32 room)
    few false room = omega (arith, length-append (drop 1 ring.kept) (event ∷ []), length-drop 1 ring.kept, is.few)

    counted : (b : Bool) → cond b ring.lost (min (ring.lost + 1) 4294967295) ≤ 4294967295
    counted true = is.counted
    counted false = omega arith

AreRingsOf-post : (clients : List ℕ) (rows : List Row) (rings : List Ring) (post : (ℕ × List ℕ) × EventKind × ℤ × ℤ) → AreRingsOf clients rings → AreRingsOf clients (with_post rows rings post)
AreRingsOf-post clients rows rings (key, event, a, b) kept = by (tag_of rows key event)
  where
    by : (tag : Option (List ℕ)) → AreRingsOf clients (option_map_or (λ (tag : List ℕ). with_ring key.0 (λ ring. after_post ring (tag, event, a, b)) rings) tag rings)
    by None = kept
    by (Some tag) = AreRingsOf-with_ring clients rings key.0 (λ ring. after_post ring (tag, event, a, b)) (λ ring is. IsRing-after_post ring (tag, event, a, b) is) kept

AreRingsOf-posts : (clients : List ℕ) (rows : List Row) (posts : List ((ℕ × List ℕ) × EventKind × ℤ × ℤ)) (rings : List Ring) → AreRingsOf clients rings → AreRingsOf clients (fold (with_post rows) rings posts)
AreRingsOf-posts clients rows [] rings kept = kept
AreRingsOf-posts clients rows (post ∷ posts) rings kept = AreRingsOf-posts clients rows posts (with_post rows rings post) (AreRingsOf-post clients rows rings post kept)

-- THE HIT. The widget on top is an open window or under one.
loose-root : (most : ℕ) (rows : List Row) (client : ℕ) (name : List ℕ) → parent_of rows client name ≡ None → root_in most rows client name ≡ name
loose-root zero rows client name alone = refl
loose-root (suc most) rows client name alone = ap (λ (o : Option (List ℕ)). option_map_or (root_in most rows client) o name) alone

-- a Window hangs in no other widget
window-alone : (rows : List Row) (row : Row) → hangs_right rows row ≡ true → is_window_kind row.kind ≡ true → row.attached ≡ None
window-alone rows row right is = by row.attached refl
  where
    no_child : (kind : Kind) → is_window_kind kind ≡ true → can_be_child kind ≡ true → ⊥
    no_child Window h child = true≢false (sym child)
    no_child _ h child = true≢false (sym h)

    by : (o : Option (List ℕ × Cell)) → row.attached ≡ o → o ≡ None
    by None at = refl
    by (Some attached) at = absurd (no_child row.kind is (hangs_right-at rows row attached.0 attached.1 right at).can_be_child)

pub window-root : (rows : List Row) (window : ℕ × List ℕ) → IsPlanted rows → names_window rows window ≡ true → root_key rows window ≡ window
window-root rows window planted is = by (row_named rows window.0 window.1) refl is
  where
    by : (o : Option Row) → row_named rows window.0 window.1 ≡ o → is_kind_of is_window_kind o ≡ true → root_key rows window ≡ window
    by None found h = absurd (true≢false (sym h))
    by (Some row) found h =
        let at = find-element (has_name window.0 window.1) rows row found in
        let loose : row.attached ≡ None = window-alone rows row (all_at (hangs_right rows) rows at.0 row planted.hang at.1) h in
        let alone : parent_of rows window.0 window.1 ≡ None = parent_of-found rows window.0 window.1 row found ∙ ap (option_map (λ (attached : List ℕ × Cell). attached.0)) loose in
        ap (λ (name : List ℕ). (window.0, name)) (loose-root most_levels rows window.0 window.1 alone)

-- an element is one of the open windows
open-at : (desk : Desk) (i : ℕ) (window : ℕ × List ℕ) → slice_get desk.windows i ≡ Some window → is_open desk window.0 window.1 ≡ true
open-at desk i window there = by (is_open desk window.0 window.1) refl
  where
    by : (b : Bool) → is_open desk window.0 window.1 ≡ b → b ≡ true
    by true is = refl
    by false is = absurd (true≢false (sym (and_from (nat_eq window.0 window.0) (bytes_eq window.1 window.1) (nat_eq_equiv.refl window.0) (nat_list_eq_equiv.refl window.1)) ∙ none_at (is_window window.0 window.1) desk.windows i window is there))

top-open : (desk : Desk) (key : ℕ × List ℕ) (x y : ℤ) → IsDesk desk → top_of (scene_of desk) x y ≡ Some key → is_open desk key.0 (root_key desk.rows key).1 ≡ true
top-open desk key x y kept top =
    let on = top_is_on_top (scene_of desk) key x y kept.rows.planted kept.rows.names top in
    let at = find-element (λ (window : ℕ × List ℕ). shows_at (scene_of desk) window x y) desk.windows on.0 on.1.first in
    let is : names_window desk.rows on.0 ≡ true = all_at (names_window desk.rows) desk.windows at.0 on.0 kept.windows at.1 in
    ap (λ (k : ℕ × List ℕ). is_open desk k.0 k.1) (on.1.under ∙ window-root desk.rows on.0 kept.rows.planted is) ∙ open-at desk at.0 on.0 at.1

pub HitsOpen-hit_of : (desk : Desk) → IsDesk desk → HitsOpen desk (hit_of desk)
unfolding hit_of
HitsOpen-hit_of desk kept = by (top_of (scene_of desk) (pos desk.pointer.x) (pos desk.pointer.y)) refl
  where
    by : (o : Option (ℕ × List ℕ)) → top_of (scene_of desk) (pos desk.pointer.x) (pos desk.pointer.y) ≡ o → HitsOpen desk (option_map (λ (key : ℕ × List ℕ). record { key = key; place = place_of (scene_of desk) key }) o)
    by None top = tt
    by (Some key) top = top-open desk key (pos desk.pointer.x) (pos desk.pointer.y) kept top

-- Each value that an input asks for is taken, and the window that it raises is open.
pub AreTaken-input : (desk : Desk) (input : Input) → IsDesk desk → AreTaken desk (effects_on desk input)
AreTaken-input desk input kept =
    effects-taken desk (hit_of desk) (held_place desk) desk.shape.width desk.shape.height input (record { fits = kept.rows.fitting; linked = kept.rows.linked }) (HitsOpen-hit_of desk kept)

-- What an input asks for leaves a sound desk.
pub IsSound-carried_out : (desk : Desk) (effects : Effects) → IsSound desk → AreTaken desk effects → IsSound (carried_out effects desk)
unfolding carried_out
IsSound-carried_out desk effects sound taken =
    let rows = (still-after desk effects sound taken).sound in
    record {
      shape = sound.shape;
      clients = sound.clients;
      connected_once = sound.connected_once;
      rows = rows.rows;
      by_kind = rows.by_kind;
      roster = rows.roster;
      rings = AreRingsOf-posts desk.clients desk.rows effects.posts desk.rings sound.rings;
      windows = AreWindows-raised (rows_after effects desk.rows) desk effects.raise rows.windows taken.raise;
    }

pub inputs_keep : InputsKeepDesks
unfolding step_feed
inputs_keep desk input kept =
    IsDesk-let_go (carried_out (effects_on desk input) desk)
    (IsSound-carried_out desk (effects_on desk input) (IsSound-desk desk kept) (AreTaken-input desk input kept))
