-- A window's places are made from its own rows and what these are linked to.
use Rattle.std.proofs.Common.{◌≡◌, ◌≤◌, ◌+◌, ◌*◌, ℕ, zero, suc, ℤ, Bool, true, false, cond, ◌&&◌, nat_eq, length, List, [], ◌∷◌, map, Option, Some, None, refl, sym, ap, ap₂, ◌∙◌, slice_get}
use Rattle.std.proofs.lemmas.Bool.{true≢false}
use Rattle.std.specs.List.{filter, find}
use Rattle.std.specs.Option.{option_map, option_map_or, option_and_then}
use Rattle.kind_core.specs.declared.kinds.Kind.{Kind}
use Rattle.kind_core.specs.declared.kinds.Kind.TheVariants.{Window, Grid, Frame, Button, Label, Entry, Scale, Scrollbar, Variable, VScreen}
use Rattle.kind_core.specs.declared.kinds.Attr.TheVariants.{X, Y, W, H, Text, Cols}
use Rattle.kind_core.specs.declared.shapes.Cell.{Cell}
use Rattle.kind_core.specs.Effective.{label_text, frame_offset}
use Rattle.widget_model.specs.Rows.{Row}
use Rattle.widget_model.specs.Named.{has_name, row_named, AreNamedApart}
use Rattle.widget_model.specs.Keys.{key_of, same_key, root_key}
use Rattle.widget_model.specs.Trees.{parent_of, is_child, most_levels}
use Rattle.widget_model.specs.Planted.{IsPlanted, hangs_right}
use Rattle.widget_model.proofs.Hanging.{all_at, find-element, row_named-own, IsNamed-row_named, hangs_right-at}
use Rattle.scene_model.specs.declared.axis.Axis.{Axis}
use Rattle.scene_model.specs.declared.axis.Axis.TheVariants.{Across, Down}
use Rattle.scene_model.specs.declared.axis.Span.{Span}
use Rattle.scene_model.specs.Spans.{along, no_span, inset, content, framed, rect_of}
use Rattle.scene_model.specs.Values.{linked_value, count_of, text_of, number_of, is_vertical, offset_of}
use Rattle.scene_model.specs.Tracks.{Need, cell_of, track_in, children_of, need_of, needs_of, rules_of, grid_least, track_lengths, track_span}
use Rattle.scene_model.specs.Least.{bar_size, own_size, is_grid, least_by, least_in, least_of}
use Rattle.scene_model.specs.Placing.{root_span, grid_span, child_span, parent_row, span_in, span_along, place_in}
use Rattle.scene_model.specs.WindowRows.{is_in_window, window_rows, KeepsWindow, AreHung, PlacesStay}
use Rattle.scene_model.proofs.Lists.{map-filter-same}
use Rattle.scene_model.proofs.Parents.{IsFound, HangsFrom, HangsFrom-parent_row, IsChildOf-is_child, parent_of-found, parent_of-hangs}
use Rattle.scene_model.proofs.Levels.{root_key-child}
use Rattle.scene_model.proofs.LevelsDown.{AllEnd-planted}

-- elements of what a test keeps are elements that pass it, and the other way round
record IsKept (p : Row → Bool) (rows : List Row) (row : Row) : Type 0 where
  i : ℕ
  there : slice_get rows i ≡ Some row
  passes : p row ≡ true

IsKept-filter : (p : Row → Bool) (rows : List Row) (i : ℕ) (row : Row) → slice_get (filter p rows) i ≡ Some row → IsKept p rows row
IsKept-filter p [] i row there = absurd (cc)
IsKept-filter p (first ∷ rows) i row there = by (λ j at. IsKept-filter p rows j row at) (p first) refl i there
  where
    later : IsKept p rows row → IsKept p (first ∷ rows) row
    later is = record { i = suc is.i; there = is.there; passes = is.passes }

    by : ((j : ℕ) → slice_get (filter p rows) j ≡ Some row → IsKept p rows row) → (b : Bool) → p first ≡ b → (j : ℕ) → slice_get (cond b (first ∷ filter p rows) (filter p rows)) j ≡ Some row → IsKept p (first ∷ rows) row
    by rest true is zero at = let same : first ≡ row = cc in record { i = zero; there = ap Some same; passes = ap p (sym same) ∙ is }
    by rest true is (suc j) at = later (rest j at)
    by rest false is j at = later (rest j at)

record IsThere (rows : List Row) (row : Row) : Type 0 where
  i : ℕ
  there : slice_get rows i ≡ Some row

IsThere-filter : (p : Row → Bool) (rows : List Row) (i : ℕ) (row : Row) → slice_get rows i ≡ Some row → p row ≡ true → IsThere (filter p rows) row
IsThere-filter p [] i row there passes = absurd (cc)
IsThere-filter p (first ∷ rows) zero row there passes =
    let same : first ≡ row = cc in
    by (p first) (ap p same ∙ passes) same
  where
    by : (b : Bool) → b ≡ true → first ≡ row → IsThere (cond b (first ∷ filter p rows) (filter p rows)) row
    by true is same = record { i = zero; there = ap Some same }
    by false is same = absurd (cc)
IsThere-filter p (first ∷ rows) (suc i) row there passes = by (IsThere-filter p rows i row there passes) (p first)
  where
    by : IsThere (filter p rows) row → (b : Bool) → IsThere (cond b (first ∷ filter p rows) (filter p rows)) row
    by is true = record { i = suc is.i; there = is.there }
    by is false = is

filter_within : (p q : Row → Bool) (rows : List Row) → ((i : ℕ) (row : Row) → slice_get rows i ≡ Some row → q row ≡ true → p row ≡ true) → filter q (filter p rows) ≡ filter q rows
filter_within p q [] wider = refl
filter_within p q (row ∷ rows) wider = by (filter_within p q rows (λ i other there. wider (suc i) other there)) (p row) refl (q row) refl
  where
    by : filter q (filter p rows) ≡ filter q rows → (a : Bool) → p row ≡ a → (b : Bool) → q row ≡ b → filter q (cond a (row ∷ filter p rows) (filter p rows)) ≡ cond b (row ∷ filter q rows) (filter q rows)
    by rest true is true has = rw (has, rest) refl
    by rest true is false has = rw (has, rest) refl
    by rest false is true has = absurd (true≢false (sym (wider zero row refl has) ∙ is))
    by rest false is false has = rest

-- a row of the window, in the rows and in those of the window
record IsMember (rows : List Row) (window : ℕ × List ℕ) (row : Row) : Type 0 where
  i : ℕ
  there : slice_get rows i ≡ Some row
  within : is_in_window rows window row ≡ true

IsMember-at : (rows : List Row) (window : ℕ × List ℕ) (i : ℕ) (row : Row) → slice_get (window_rows rows window) i ≡ Some row → IsMember rows window row
unfolding window_rows
IsMember-at rows window i row there =
    let kept = IsKept-filter (is_in_window rows window) rows i row there in
    record { i = kept.i; there = kept.there; within = kept.passes }

at-IsMember : (rows : List Row) (window : ℕ × List ℕ) (row : Row) → IsMember rows window row → IsThere (window_rows rows window) row
unfolding window_rows
at-IsMember rows window row is = IsThere-filter (is_in_window rows window) rows is.i row is.there is.within

found-at : (rows : List Row) (i : ℕ) (row : Row) → AreHung rows → slice_get rows i ≡ Some row → IsFound rows row
found-at rows i row hung there = record { named = row_named-own rows i row hung.names there }

-- children of a widget of the window are of the window
child_within : (rows : List Row) (window : ℕ × List ℕ) (row : Row) → AreHung rows → IsMember rows window row → (i : ℕ) (child : Row) → slice_get rows i ≡ Some child → is_child row.client row.name child ≡ true → is_in_window rows window child ≡ true
child_within rows window row hung is i child there child_is =
    let found = found-at rows i child hung there in
    let hangs = IsChildOf-is_child row.client row.name child child_is in
    let up : parent_of rows child.client child.name ≡ Some row.name =
    parent_of-found rows child.client child.name child found.named ∙ ap (option_map (λ (attached : List ℕ × Cell). attached.0)) hangs.attached in
    let root : root_key rows (child.client, child.name) ≡ root_key rows (child.client, row.name) =
    root_key-child rows (child.client, child.name) row.name up ((AllEnd-planted rows hung.planted).each i child there) in
    let same : root_key rows (child.client, row.name) ≡ root_key rows (row.client, row.name) = ap (λ (client : ℕ). root_key rows (client, row.name)) hangs.owner in
    ap (same_key window) (root ∙ same) ∙ is.within

-- so the children are among the window's rows
children_within : (rows : List Row) (window : ℕ × List ℕ) (row : Row) → AreHung rows → IsMember rows window row → filter (is_child row.client row.name) (window_rows rows window) ≡ children_of rows row
unfolding window_rows
children_within rows window row hung is =
    filter_within (is_in_window rows window) (is_child row.client row.name) rows (λ i child there child_is. child_within rows window row hung is i child there child_is)

-- the parent of a widget of the window is of the window
parent_within : (rows : List Row) (window : ℕ × List ℕ) (row parent : Row) → AreHung rows → IsMember rows window row → HangsFrom rows row parent → IsMember rows window parent
parent_within rows window row parent hung is hangs =
    let at = find-element (has_name row.client parent.name) rows parent hangs.found in
    let found = found-at rows is.i row hung is.there in
    let root : root_key rows (row.client, row.name) ≡ root_key rows (row.client, parent.name) =
    root_key-child rows (row.client, row.name) parent.name (parent_of-hangs rows row parent found hangs) ((AllEnd-planted rows hung.planted).each is.i row is.there) in
    let same : root_key rows (row.client, parent.name) ≡ root_key rows (parent.client, parent.name) = ap (λ (client : ℕ). root_key rows (client, parent.name)) (sym hangs.client) in
    record { i = at.0; there = at.1; within = ap (same_key window) (sym same ∙ sym root) ∙ is.within }

-- what a widget needs by itself is made from its row and what that is linked to
own_by : Kind → Option ℤ → Row → ℕ × ℕ
own_by Label linked row = (6 * length (label_text (text_of Text row) linked) + 4, 12)
own_by Button linked row = (6 * length (text_of Text row) + 8, 16)
own_by Entry linked row = (6 * count_of Cols row + 4, 12)
own_by Scale linked row = bar_size (is_vertical row)
own_by Scrollbar linked row = bar_size (is_vertical row)
own_by VScreen linked row = option_map_or (λ film. (film.width, film.height)) row.film (16, 16)
own_by Frame linked row = (16, 16)
own_by Window linked row = (count_of W row, count_of H row)
own_by Grid linked row = (0, 0)
own_by Variable linked row = (0, 0)

own_size-by : (kind : Kind) (rows : List Row) (row : Row) → own_size kind rows row ≡ own_by kind (linked_value rows row) row
unfolding own_by
own_size-by Label rows row = refl
own_size-by Button rows row = refl
own_size-by Entry rows row = refl
own_size-by Scale rows row = refl
own_size-by Scrollbar rows row = refl
own_size-by VScreen rows row = refl
own_size-by Frame rows row = refl
own_size-by Window rows row = refl
own_size-by Grid rows row = refl
own_size-by Variable rows row = refl

-- Both lists of rows, and a window that is kept.
record Keeping (window : ℕ × List ℕ) (before after : List Row) : Type 0 where
  hung : AreHung before
  hung_after : AreHung after
  keeps : KeepsWindow window before after

moved : (window : ℕ × List ℕ) (before after : List Row) (row : Row) → Keeping window before after → IsMember before window row → IsMember after window row
moved window before after row k is =
    let at = at-IsMember before window row is in
    IsMember-at after window at.i row (ap (λ (rows : List Row). slice_get rows at.i) k.keeps.rows ∙ at.there)

linked-same : (window : ℕ × List ℕ) (before after : List Row) (row : Row) → Keeping window before after → IsMember before window row → linked_value after row ≡ linked_value before row
linked-same window before after row k is =
    let at = at-IsMember before window row is in
    k.keeps.values at.i row at.there

own_size-same : (window : ℕ × List ℕ) (before after : List Row) (row : Row) → Keeping window before after → IsMember before window row → own_size row.kind after row ≡ own_size row.kind before row
own_size-same window before after row k is =
    own_size-by row.kind after row ∙ ap (λ (linked : Option ℤ). own_by row.kind linked row) (linked-same window before after row k is) ∙ sym (own_size-by row.kind before row)

-- the needs of a widget's children, where these have the same least lengths
needs-same : (window : ℕ × List ℕ) (before after : List Row) (row : Row) (f g : Row → ℕ) (axis : Axis) → Keeping window before after → IsMember before window row → ((other : Row) → IsMember before window other → f other ≡ g other) → needs_of f axis after row ≡ needs_of g axis before row
needs-same window before after row f g axis k is same =
    ap (map (need_of f axis)) (sym (children_within after window row k.hung_after (moved window before after row k is)) ∙ ap (filter (is_child row.client row.name)) k.keeps.rows)
    ∙ map-filter-same (need_of f axis) (need_of g axis) (is_child row.client row.name) (window_rows before window)
    (λ i child there child_is. ap (λ (least : ℕ). need_of (λ other. least) axis child) (same child (IsMember-at before window i child there)))
    ∙ ap (map (need_of g axis)) (children_within before window row k.hung is)

least_in-same : (most : ℕ) (window : ℕ × List ℕ) (before after : List Row) (axis : Axis) (row : Row) → Keeping window before after → IsMember before window row → least_in most after axis row ≡ least_in most before axis row
unfolding least_by
least_in-same zero window before after axis row k is = refl
least_in-same (suc most) window before after axis row k is =
    ap₂ (λ (needs : List Need) (own : ℕ × ℕ). cond (is_grid row.kind) (grid_least needs (rules_of axis row)) (along axis own.0 own.1))
    (needs-same window before after row (least_in most after axis) (least_in most before axis) axis k is (λ other other_is. least_in-same most window before after axis other k other_is))
    (own_size-same window before after row k is)

least_of-same : (window : ℕ × List ℕ) (before after : List Row) (axis : Axis) (row : Row) → Keeping window before after → IsMember before window row → least_of after axis row ≡ least_of before axis row
unfolding least_of
least_of-same window before after axis row k is = least_in-same most_levels window before after axis row k is

offset-same : (axis : Axis) (before after : List Row) (row : Row) → linked_value after row ≡ linked_value before row → offset_of axis after row ≡ offset_of axis before row
offset-same Across before after row same = refl
offset-same Down before after row same = ap (λ (linked : Option ℤ). frame_offset linked (number_of Y row)) same

child_span-same : (window : ℕ × List ℕ) (before after : List Row) (axis : Axis) (parent row : Row) (span : Span) → Keeping window before after → IsMember before window parent → IsMember before window row → (kind : Kind) → child_span kind axis after parent span row ≡ child_span kind axis before parent span row
unfolding grid_span
child_span-same window before after axis parent row span k up is Window = refl
child_span-same window before after axis parent row span k up is Grid =
    ap (λ (needs : List Need). inset (cell_of row).pad (track_span (track_lengths needs (rules_of axis parent) span.len) span (track_in axis (cell_of row))))
    (needs-same window before after parent (least_of after axis) (least_of before axis) axis k up (λ other other_is. least_of-same window before after axis other k other_is))
child_span-same window before after axis parent row span k up is Frame =
    ap₂ (λ (offset : ℤ) (least : ℕ). framed (cell_of row).pad offset least span)
    (offset-same axis before after parent (linked-same window before after parent k up)) (least_of-same window before after axis row k is)
child_span-same window before after axis parent row span k up is Button = refl
child_span-same window before after axis parent row span k up is Label = refl
child_span-same window before after axis parent row span k up is Entry = refl
child_span-same window before after axis parent row span k up is Scale = refl
child_span-same window before after axis parent row span k up is Scrollbar = refl
child_span-same window before after axis parent row span k up is Variable = refl
child_span-same window before after axis parent row span k up is VScreen = refl

-- the row in which a widget of the window hangs
parent_row-same : (window : ℕ × List ℕ) (before after : List Row) (row : Row) → Keeping window before after → IsMember before window row → parent_row after row ≡ parent_row before row
parent_row-same window before after row k is = by row.attached refl
  where
    up : List Row → Option (List ℕ × Cell) → Option Row
    up rows hung = option_and_then (λ (attached : List ℕ × Cell). row_named rows row.client attached.0) hung

    by : (o : Option (List ℕ × Cell)) → row.attached ≡ o → parent_row after row ≡ parent_row before row
    by None alone = ap (up after) alone ∙ sym (ap (up before) alone)
    by (Some hung) at =
        let right = hangs_right-at before row hung.0 hung.1 (all_at (hangs_right before) before is.i row k.hung.planted.hang is.there) at in
        let named = IsNamed-row_named before row.client hung.0 right.upper right.found in
        let hangs : HangsFrom before row right.upper = record {
          cell = hung.1;
          attached = at ∙ ap (λ (name : List ℕ). Some (name, hung.1)) (sym named.name_is);
          found = ap (row_named before row.client) named.name_is ∙ right.found;
          client = named.client_is;
        } in
        let above = moved window before after right.upper k (parent_within before window row right.upper k.hung is hangs) in
        let there : row_named after row.client hung.0 ≡ Some right.upper =
        ap₂ (λ (client : ℕ) (name : List ℕ). row_named after client name) (sym named.client_is) (sym named.name_is)
        ∙ row_named-own after above.i right.upper k.hung_after.names above.there in
        ap (up after) at ∙ there ∙ sym (ap (up before) at ∙ right.found)

span_in-same : (most : ℕ) (window : ℕ × List ℕ) (before after : List Row) (axis : Axis) (row : Row) → Keeping window before after → IsMember before window row → span_in most after axis row ≡ span_in most before axis row
span_in-same zero window before after axis row k is = refl
span_in-same (suc most) window before after axis row k is =
    ap (λ (o : Option Row). option_map_or (λ (parent : Row). child_span parent.kind axis after parent (span_in most after axis parent) row) o (root_span row.kind axis row)) (parent_row-same window before after row k is)
    ∙ by (λ parent member. span_in-same most window before after axis parent k member) (parent_row before row) refl
  where
    by : ((parent : Row) → IsMember before window parent → span_in most after axis parent ≡ span_in most before axis parent) → (o : Option Row) → parent_row before row ≡ o
        → option_map_or (λ (parent : Row). child_span parent.kind axis after parent (span_in most after axis parent) row) o (root_span row.kind axis row)
        ≡ option_map_or (λ (parent : Row). child_span parent.kind axis before parent (span_in most before axis parent) row) o (root_span row.kind axis row)
    by rest None found = refl
    by rest (Some parent) found =
        let member = parent_within before window row parent k.hung is (HangsFrom-parent_row before row parent found) in
        ap (λ (span : Span). child_span parent.kind axis after parent span row) (rest parent member)
        ∙ child_span-same window before after axis parent row (span_in most before axis parent) k member is parent.kind

span_along-same : (window : ℕ × List ℕ) (before after : List Row) (axis : Axis) (row : Row) → Keeping window before after → IsMember before window row → span_along after axis row ≡ span_along before axis row
unfolding span_along
span_along-same window before after axis row k is = span_in-same most_levels window before after axis row k is

pub places_stay : PlacesStay
unfolding place_in
places_stay window before after hung hung_after keeps i row at =
    let k : Keeping window before after = record { hung = hung; hung_after = hung_after; keeps = keeps } in
    let is = IsMember-at before window i row at in
    ap₂ rect_of (span_along-same window before after Across row k is) (span_along-same window before after Down row k is)
