-- Two children of one widget stand in different cells of a Grid, so their places share no pixel.
use Rattle.std.proofs.Common.{◌≡◌, ◌≤◌, ◌<◌, ◌+◌, ◌*◌, ◌-◌, ℕ, zero, suc, ℤ, pos, ◌+ℤ◌, Bool, true, false, ◌&&◌, nat_eq, nat_lt, List, [], ◌∷◌, sum, take, Option, Some, refl, sym, ap, ◌∙◌, arith, slice_get, slice_index_or}
use Rattle.std.proofs.lemmas.Bool.{true≢false, and_parts, and_from, eqb-true, ltb-true}
use Rattle.std.proofs.lemmas.Bool.Decides.{nat_tests}
use Rattle.std.proofs.lemmas.Int.{ints}
use Rattle.std.proofs.lemmas.List.Sums.{sum_by-cons}
use Rattle.std.specs.Cmp.{nat_eq_equiv}
use Rattle.std.specs.Cmp.Lexicographic.{nat_list_eq_equiv}
use Rattle.std.specs.Option.{option_and_then, option_map_or}
use Rattle.geom_core.specs.declared.rectangle.Rect.{Rect}
use Rattle.geom_core.specs.Rect.{in_span, in_rect}
use Rattle.kind_core.specs.declared.kinds.Kind.{Kind}
use Rattle.kind_core.specs.declared.kinds.Kind.TheVariants.{Window, Grid, Frame, Button, Label, Entry, Scale, Scrollbar, Variable, VScreen}
use Rattle.kind_core.specs.declared.shapes.Cell.{Cell}
use Rattle.widget_model.specs.Rows.{Row}
use Rattle.widget_model.specs.Named.{row_named}
use Rattle.widget_model.specs.Keys.{key_of, same_key, row_of, parent_key}
use Rattle.widget_model.specs.Trees.{most_levels, has_children}
use Rattle.widget_model.specs.Planted.{IsPlanted, is_cell, takes_cell, has_cell, hangs_right}
use Rattle.widget_model.proofs.Hanging.{all_at, HangsIn-from, hangs_right-at}
use Rattle.widget_model.proofs.Cells.{child_in-own}
use Rattle.scene_model.specs.declared.axis.Axis.{Axis}
use Rattle.scene_model.specs.declared.axis.Axis.TheVariants.{Across, Down}
use Rattle.scene_model.specs.declared.axis.Span.{Span}
use Rattle.scene_model.specs.Spans.{inset, rect_of}
use Rattle.scene_model.specs.Tracks.{track_in, needs_of, rules_of, track_lengths, track_span}
use Rattle.scene_model.specs.Least.{least_of}
use Rattle.scene_model.specs.Placing.{grid_span, child_span, parent_row, span_along, place_in}
use Rattle.scene_model.specs.Scene.{Scene}
use Rattle.scene_model.specs.Showing.{place_of, parent_in, shows_in, shows_at}
use Rattle.scene_model.specs.ShowingLaws.{PlacesOfChildrenAreApart, ChildrenShareNoPixel, ShownLiesInParents, ShownLiesInPlace}
use Rattle.scene_model.proofs.Parents.{HangsFrom, HangsFrom-parent_row, key_of-found, row_of-own}
use Rattle.scene_model.proofs.Levels.{span_along-child}
use Rattle.scene_model.proofs.LevelLaws.{ends-found, IsParentKey-parent_key, children_show_within_parents}
use Rattle.scene_model.proofs.Leasts.{IsFitCell-attached, cell_of-attached, track_in-some}

-- a track ends where the next begins, or before
track-ends : (lengths : List ℕ) (i j : ℕ) → i < j → sum (take i lengths) + slice_index_or lengths i 0 ≤ sum (take j lengths)
track-ends [] i zero less = absurd (omega arith)
track-ends [] zero (suc j) less = omega arith
track-ends [] (suc i) (suc j) less = omega arith
track-ends (n ∷ ns) i zero less = absurd (omega arith)
track-ends (n ∷ ns) zero (suc j) less = omega (arith, sum_by-cons (λ (x : ℕ). x) n (take j ns))
track-ends (n ∷ ns) (suc i) (suc j) less =
    let rest = track-ends ns i j (omega arith) in
    omega (arith, rest, sum_by-cons (λ (x : ℕ). x) n (take i ns), sum_by-cons (λ (x : ℕ). x) n (take j ns))

-- parts of two spans of which one ends before the other begins
parts-apart : (from : ℤ) (before len after more p q : ℕ) (x : ℤ) → before + len ≤ after
    → (in_span ((from +ℤ pos before) +ℤ pos p) (len - 2 * p) x && in_span ((from +ℤ pos after) +ℤ pos q) (more - 2 * q) x) ≡ false
parts-apart from before len after more p q x ends = grind (arith, ints)

and-turned : (a b : Bool) → (a && b) ≡ false → (b && a) ≡ false
and-turned true true h = h
and-turned true false h = refl
and-turned false true h = refl
and-turned false false h = refl

abbrev pub within : Span → ℤ → Bool
within span x = in_span span.from span.len x

tracks-before : (lengths : List ℕ) (span : Span) (s t p q : ℕ) (x : ℤ) → 1 ≤ s → s < t → (within (inset p (track_span lengths span s)) x && within (inset q (track_span lengths span t)) x) ≡ false
unfolding track_span
tracks-before lengths span s t p q x some less =
    parts-apart span.from (sum (take (s - 1) lengths)) (slice_index_or lengths (s - 1) 0) (sum (take (t - 1) lengths)) (slice_index_or lengths (t - 1) 0) p q x (track-ends lengths (s - 1) (t - 1) (omega arith))

tracks-apart : (lengths : List ℕ) (span : Span) (s t p q : ℕ) (x : ℤ) → 1 ≤ s → 1 ≤ t → nat_eq s t ≡ false → (within (inset p (track_span lengths span s)) x && within (inset q (track_span lengths span t)) x) ≡ false
tracks-apart lengths span s t p q x some also differ = by (nat_lt s t) refl
  where
    by : (b : Bool) → nat_lt s t ≡ b → (within (inset p (track_span lengths span s)) x && within (inset q (track_span lengths span t)) x) ≡ false
    by true less = tracks-before lengths span s t p q x some (ltb-true s t less)
    by false less =
        let order : t < s = grind (arith, nat_tests, differ, less) in
        and-turned (within (inset q (track_span lengths span t)) x) (within (inset p (track_span lengths span s)) x) (tracks-before lengths span t s q p x also order)

-- a key's row, the cell in which it hangs and the row in which it does
pub record IsChildRow (rows : List Row) (key parent : ℕ × List ℕ) : Type 0 where
  pub i : ℕ
  pub row : Row
  pub upper : Row
  pub there : slice_get rows i ≡ Some row
  pub found : row_of rows key ≡ Some row
  pub upper_found : row_of rows parent ≡ Some upper
  pub hangs : HangsFrom rows row upper
  pub has_cell : has_cell upper.kind hangs.cell ≡ true

one-cell : (row : Row) (name other : List ℕ) (cell second : Cell) → row.attached ≡ Some (name, cell) → row.attached ≡ Some (other, second) → cell ≡ second
one-cell row name other cell second attached also = let pairs : ◌≡◌ {A = List ℕ × Cell} (name, cell) (other, second) = cc in ap (λ (pair : List ℕ × Cell). pair.1) pairs

pub IsChildRow-parent_key : (rows : List Row) (key parent : ℕ × List ℕ) → IsPlanted rows → parent_key rows key ≡ Some parent → IsChildRow rows key parent
IsChildRow-parent_key rows key parent planted is =
    let above = IsParentKey-parent_key rows key parent is in
    let h = HangsIn-from rows key.0 key.1 above.name above.hung in
    let right = hangs_right-at rows h.row above.name h.cell (all_at (hangs_right rows) rows h.i h.row planted.hang h.there) h.attached in
    let upper_found : row_named rows key.0 above.name ≡ Some right.upper = ap (λ (client : ℕ). row_named rows client above.name) (sym h.named.client_is) ∙ right.found in
    let hung : parent_row rows h.row ≡ Some right.upper = ap (option_and_then (λ (attached : List ℕ × Cell). row_named rows h.row.client attached.0)) h.attached ∙ right.found in
    let hangs = HangsFrom-parent_row rows h.row right.upper hung in
    record {
      i = h.i;
      row = h.row;
      upper = right.upper;
      there = h.there;
      found = h.found;
      upper_found = ap (row_of rows) (sym above.keyed) ∙ upper_found;
      hangs = hangs;
      has_cell = ap (has_cell right.upper.kind) (sym (one-cell h.row above.name right.upper.name h.cell hangs.cell h.attached hangs.attached)) ∙ right.has_cell;
    }

-- two children of one widget in one cell are one
one-in-cell : (rows : List Row) (a b parent : ℕ × List ℕ) → IsPlanted rows → (one : IsChildRow rows a parent) → (two : IsChildRow rows b parent) → same_key a b ≡ false → one.hangs.cell.column ≡ two.hangs.cell.column → one.hangs.cell.row ≡ two.hangs.cell.row → ⊥
one-in-cell rows a b parent planted one two differ columns lines =
    let first = child_in-own rows one.i one.row one.upper.name one.hangs.cell planted.own_cells one.there one.hangs.attached in
    let second = child_in-own rows two.i two.row two.upper.name two.hangs.cell planted.own_cells two.there two.hangs.attached in
    let uppers : one.upper ≡ two.upper = cc (one.upper_found, two.upper_found) in
    let clients : one.row.client ≡ two.row.client = cc (one.hangs.client, two.hangs.client, uppers) in
    let same : one.row ≡ two.row = cc (first, second, uppers, clients, columns, lines) in
    let keys : a ≡ b = sym (key_of-found rows a one.row one.found) ∙ ap key_of same ∙ key_of-found rows b two.row two.found in
    let alike : same_key b b ≡ true = and_from _ _ (nat_eq_equiv.refl b.0) (nat_list_eq_equiv.refl b.1) in
    true≢false (sym alike ∙ ap (λ (key : ℕ × List ℕ). same_key key b) (sym keys) ∙ differ)

-- the spans of children in different tracks of a Grid
grid-span : (rows : List Row) (axis : Axis) (key parent : ℕ × List ℕ) → IsPlanted rows → (one : IsChildRow rows key parent) → one.upper.kind ≡ Grid
    → span_along rows axis one.row ≡ inset one.hangs.cell.pad (track_span (track_lengths (needs_of (least_of rows axis) axis rows one.upper) (rules_of axis one.upper) (span_along rows axis one.upper).len) (span_along rows axis one.upper) (track_in axis one.hangs.cell))
unfolding grid_span
grid-span rows axis key parent planted one is =
    span_along-child rows axis one.row one.upper (record { named = row_of-own rows key one.row one.found }) one.hangs (ends-found rows one.row planted (row_of-own rows key one.row one.found))
    ∙ ap (λ (kind : Kind). child_span kind axis rows one.upper (span_along rows axis one.upper) one.row) is
    ∙ ap (λ (cell : Cell). inset cell.pad (track_span (track_lengths (needs_of (least_of rows axis) axis rows one.upper) (rules_of axis one.upper) (span_along rows axis one.upper).len) (span_along rows axis one.upper) (track_in axis cell))) (cell_of-attached one.row one.upper.name one.hangs.cell one.hangs.attached)

grid-apart : (rows : List Row) (axis : Axis) (a b parent : ℕ × List ℕ) (x : ℤ) → IsPlanted rows → (one : IsChildRow rows a parent) → (two : IsChildRow rows b parent) → one.upper.kind ≡ Grid → nat_eq (track_in axis one.hangs.cell) (track_in axis two.hangs.cell) ≡ false
    → (within (span_along rows axis one.row) x && within (span_along rows axis two.row) x) ≡ false
grid-apart rows axis a b parent x planted one two is differ =
    let uppers : one.upper ≡ two.upper = cc (one.upper_found, two.upper_found) in
    let lengths = λ (upper : Row). track_lengths (needs_of (least_of rows axis) axis rows upper) (rules_of axis upper) (span_along rows axis upper).len in
    let fit_one = IsFitCell-attached rows one.i one.row one.upper.name one.hangs.cell planted one.there one.hangs.attached in
    let fit_two = IsFitCell-attached rows two.i two.row two.upper.name two.hangs.cell planted two.there two.hangs.attached in
    let second = grid-span rows axis b parent planted two (ap (λ (upper : Row). upper.kind) (sym uppers) ∙ is) in
    ap (λ (span : Span). within span x && within (span_along rows axis two.row) x) (grid-span rows axis a parent planted one is)
    ∙ ap (λ (span : Span). within (inset one.hangs.cell.pad (track_span (lengths one.upper) (span_along rows axis one.upper) (track_in axis one.hangs.cell))) x && within span x) second
    ∙ ap (λ (upper : Row). within (inset one.hangs.cell.pad (track_span (lengths one.upper) (span_along rows axis one.upper) (track_in axis one.hangs.cell))) x && within (inset two.hangs.cell.pad (track_span (lengths upper) (span_along rows axis upper) (track_in axis two.hangs.cell))) x) (sym uppers)
    ∙ tracks-apart (lengths one.upper) (span_along rows axis one.upper) (track_in axis one.hangs.cell) (track_in axis two.hangs.cell) one.hangs.cell.pad two.hangs.cell.pad x (track_in-some axis one.hangs.cell fit_one) (track_in-some axis two.hangs.cell fit_two) differ

-- rectangles that share no column, or no row
apart-across : (a b c d : Bool) → (a && c) ≡ false → ((a && b) && (c && d)) ≡ false
apart-across true b true d h = absurd (true≢false h)
apart-across true true false d h = refl
apart-across true false false d h = refl
apart-across false b c d h = refl

apart-down : (a b c d : Bool) → (b && d) ≡ false → ((a && b) && (c && d)) ≡ false
apart-down a true c true h = absurd (true≢false h)
apart-down true true true false h = refl
apart-down true true false false h = refl
apart-down false true c false h = refl
apart-down true false c d h = refl
apart-down false false c d h = refl

places-apart : (rows : List Row) (a b parent : ℕ × List ℕ) (x y : ℤ) → IsPlanted rows → (one : IsChildRow rows a parent) → (two : IsChildRow rows b parent) → same_key a b ≡ false
    → (in_rect (place_in rows one.row) x y && in_rect (place_in rows two.row) x y) ≡ false
unfolding place_in
places-apart rows a b parent x y planted one two differ =
    let parts = and_parts (has_children one.upper.kind) (takes_cell one.upper.kind one.hangs.cell) one.has_cell in
    by one.upper.kind refl parts.0 parts.1
  where
    uppers : one.upper ≡ two.upper
    uppers = cc (one.upper_found, two.upper_found)

    Goal : Type 0
    Goal = (in_rect (rect_of (span_along rows Across one.row) (span_along rows Down one.row)) x y && in_rect (rect_of (span_along rows Across two.row) (span_along rows Down two.row)) x y) ≡ false

    -- a Window or Frame has one cell
    single : (kind : Kind) → one.upper.kind ≡ kind → (cell : Cell) → takes_cell kind cell ≡ (is_cell cell && (nat_eq cell.column 1 && nat_eq cell.row 1)) → takes_cell kind cell ≡ true → (cell.column ≡ 1) × (cell.row ≡ 1)
    single kind is cell means takes =
        let both = and_parts (is_cell cell) (nat_eq cell.column 1 && nat_eq cell.row 1) (sym means ∙ takes) in
        let numbers = and_parts (nat_eq cell.column 1) (nat_eq cell.row 1) both.1 in
        (eqb-true cell.column 1 numbers.0, eqb-true cell.row 1 numbers.1)

    other_takes : (kind : Kind) → one.upper.kind ≡ kind → takes_cell kind two.hangs.cell ≡ true
    other_takes kind is =
        ap (λ (k : Kind). takes_cell k two.hangs.cell) (sym is ∙ ap (λ (upper : Row). upper.kind) uppers)
        ∙ (and_parts (has_children two.upper.kind) (takes_cell two.upper.kind two.hangs.cell) two.has_cell).1

    lone : (kind : Kind) → one.upper.kind ≡ kind → ((cell : Cell) → takes_cell kind cell ≡ (is_cell cell && (nat_eq cell.column 1 && nat_eq cell.row 1))) → takes_cell kind one.hangs.cell ≡ true → ⊥
    lone kind is means takes =
        let first = single kind is one.hangs.cell (means one.hangs.cell) takes in
        let second = single kind is two.hangs.cell (means two.hangs.cell) (other_takes kind is) in
        one-in-cell rows a b parent planted one two differ (first.0 ∙ sym second.0) (first.1 ∙ sym second.1)

    cells : (columns lines : Bool) → one.upper.kind ≡ Grid → nat_eq one.hangs.cell.column two.hangs.cell.column ≡ columns → nat_eq one.hangs.cell.row two.hangs.cell.row ≡ lines → Goal
    cells false lines is c r =
        apart-across (within (span_along rows Across one.row) x) (within (span_along rows Down one.row) y) (within (span_along rows Across two.row) x) (within (span_along rows Down two.row) y)
        (grid-apart rows Across a b parent x planted one two is c)
    cells true false is c r =
        apart-down (within (span_along rows Across one.row) x) (within (span_along rows Down one.row) y) (within (span_along rows Across two.row) x) (within (span_along rows Down two.row) y)
        (grid-apart rows Down a b parent y planted one two is r)
    cells true true is c r =
        absurd (one-in-cell rows a b parent planted one two differ (eqb-true one.hangs.cell.column two.hangs.cell.column c) (eqb-true one.hangs.cell.row two.hangs.cell.row r))

    by : (kind : Kind) → one.upper.kind ≡ kind → has_children kind ≡ true → takes_cell kind one.hangs.cell ≡ true → Goal
    by Window is has takes = absurd (lone Window is (λ cell. refl) takes)
    by Frame is has takes = absurd (lone Frame is (λ cell. refl) takes)
    by Grid is has takes = cells (nat_eq one.hangs.cell.column two.hangs.cell.column) (nat_eq one.hangs.cell.row two.hangs.cell.row) is refl refl
    by Button is has takes = absurd (true≢false (sym has))
    by Label is has takes = absurd (true≢false (sym has))
    by Entry is has takes = absurd (true≢false (sym has))
    by Scale is has takes = absurd (true≢false (sym has))
    by Scrollbar is has takes = absurd (true≢false (sym has))
    by Variable is has takes = absurd (true≢false (sym has))
    by VScreen is has takes = absurd (true≢false (sym has))

place_of-found : (scene : Scene) (key : ℕ × List ℕ) (row : Row) → row_of scene.rows key ≡ Some row → place_of scene key ≡ place_in scene.rows row
unfolding place_of
place_of-found scene key row found = ap (λ (o : Option Row). option_map_or (place_in scene.rows) o (record { x = pos 0; y = pos 0; w = 0; h = 0 })) found

-- the laws
pub places_of_children_are_apart : PlacesOfChildrenAreApart
unfolding parent_in
places_of_children_are_apart scene a b parent x y planted above_a above_b differ =
    let one = IsChildRow-parent_key scene.rows a parent planted above_a in
    let two = IsChildRow-parent_key scene.rows b parent planted above_b in
    ap (λ (place : Rect). in_rect place x y && in_rect (place_of scene b) x y) (place_of-found scene a one.row one.found)
    ∙ ap (λ (place : Rect). in_rect (place_in scene.rows one.row) x y && in_rect place x y) (place_of-found scene b two.row two.found)
    ∙ places-apart scene.rows a b parent x y planted one two differ

both-within : (p q r s : Bool) → (p && q) ≡ false → ((p && r) && (q && s)) ≡ false
both-within true true r s h = absurd (true≢false h)
both-within true false true s h = refl
both-within true false false s h = refl
both-within false q r s h = refl

pub children_share_no_pixel : ChildrenShareNoPixel
children_share_no_pixel scene a b parent x y planted above_a above_b differ =
    ap (λ (shown : Bool). shown && shows_at scene b x y) (children_show_within_parents scene a parent x y planted above_a)
    ∙ ap (λ (shown : Bool). (in_rect (place_of scene a) x y && shows_at scene parent x y) && shown) (children_show_within_parents scene b parent x y planted above_b)
    ∙ both-within (in_rect (place_of scene a) x y) (in_rect (place_of scene b) x y) (shows_at scene parent x y) (shows_at scene parent x y) (places_of_children_are_apart scene a b parent x y planted above_a above_b differ)

pub shown_lies_in_parents : ShownLiesInParents
shown_lies_in_parents scene key parent x y planted above shown =
    (and_parts (in_rect (place_of scene key) x y) (shows_at scene parent x y) (sym (children_show_within_parents scene key parent x y planted above) ∙ shown)).1

shows_in-place : (most : ℕ) (scene : Scene) (key : ℕ × List ℕ) (x y : ℤ) → shows_in most scene key x y ≡ true → in_rect (place_of scene key) x y ≡ true
shows_in-place zero scene key x y shown = absurd (true≢false (sym shown))
shows_in-place (suc most) scene key x y shown = (and_parts (in_rect (place_of scene key) x y) _ shown).0

pub shown_lies_in_place : ShownLiesInPlace
unfolding shows_at
shown_lies_in_place scene key x y shown = shows_in-place most_levels scene key x y shown
