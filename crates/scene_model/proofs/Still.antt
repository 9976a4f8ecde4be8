-- Where a change of rows moves nothing, each widget keeps its place.
use Rattle.std.proofs.Common.{◌≡◌, ◌+◌, ◌*◌, ℕ, zero, suc, ℤ, Bool, true, false, cond, ◌&&◌, nat_eq, List, [], ◌∷◌, map, Option, Some, None, refl, sym, ap, ap₂, ◌∙◌, slice_get}
use Rattle.std.specs.List.{filter}
use Rattle.std.specs.Option.{option_map, option_map_or, option_and_then}
use Rattle.std.specs.Str.{bytes_eq}
use Rattle.kind_core.specs.declared.kinds.Kind.{Kind}
use Rattle.kind_core.specs.declared.kinds.Kind.TheVariants.{Window, Grid, Frame, Button, Label, Entry, Scale, Scrollbar, Variable, VScreen}
use Rattle.kind_core.specs.declared.shapes.Cell.{Cell}
use Rattle.widget_model.specs.Rows.{Row}
use Rattle.widget_model.specs.Named.{has_name, row_named}
use Rattle.widget_model.specs.Trees.{is_child, most_levels}
use Rattle.widget_model.proofs.Hanging.{LeavesNames, row_named-map, find-element}
use Rattle.scene_model.specs.declared.axis.Axis.{Axis}
use Rattle.scene_model.specs.declared.axis.Axis.TheVariants.{Across, Down}
use Rattle.scene_model.specs.declared.axis.Span.{Span}
use Rattle.scene_model.specs.Spans.{along, no_span, inset, content, framed, rect_of}
use Rattle.scene_model.specs.Values.{offset_of}
use Rattle.scene_model.specs.Tracks.{Need, cell_of, track_in, children_of, need_of, needs_of, rules_of, grid_least, track_lengths, track_span}
use Rattle.scene_model.specs.Least.{own_size, is_grid, least_by, least_in, least_of}
use Rattle.scene_model.specs.Placing.{window_span, root_span, grid_span, child_span, parent_row, span_in, span_along, place_in}
use Rattle.scene_model.specs.Still.{AsksTheSame, MovesNothing, StillPlaces}

-- the children of a changed row are the children, changed
is_child-same : (change : Row → Row) (rows : List Row) (parent row : Row) → MovesNothing change rows → is_child (change parent).client (change parent).name (change row) ≡ is_child parent.client parent.name row
is_child-same change rows parent row still =
    ap₂ (λ (client : ℕ) (name : List ℕ). is_child client name (change row)) (still.client parent) (still.name parent)
    ∙ ap₂ (λ (owner : ℕ) (attached : Option (List ℕ × Cell)). nat_eq parent.client owner && option_map_or (λ (hung : List ℕ × Cell). bytes_eq parent.name hung.0) attached false) (still.client row) (still.attached row)

filter-map : (p q : Row → Bool) (change : Row → Row) (rows : List Row) → ((row : Row) → q (change row) ≡ p row) → filter q (map change rows) ≡ map change (filter p rows)
filter-map p q change [] same = refl
filter-map p q change (row ∷ rows) same = by (q (change row)) (same row) (filter-map p q change rows same)
  where
    by : (b : Bool) → b ≡ p row → filter q (map change rows) ≡ map change (filter p rows) → cond b (change row ∷ filter q (map change rows)) (filter q (map change rows)) ≡ map change (cond (p row) (row ∷ filter p rows) (filter p rows))
    by true is rest = rw (← is, rest) refl
    by false is rest = rw (← is, rest) refl

children-same : (change : Row → Row) (rows : List Row) (parent : Row) → MovesNothing change rows → children_of (map change rows) (change parent) ≡ map change (children_of rows parent)
children-same change rows parent still =
    filter-map (is_child parent.client parent.name) (is_child (change parent).client (change parent).name) change rows (λ row. is_child-same change rows parent row still)

map-map-same : (f g : Row → Need) (change : Row → Row) (p : Row → Bool) (rows : List Row) → ((i : ℕ) (row : Row) → slice_get rows i ≡ Some row → f (change row) ≡ g row) → map f (map change (filter p rows)) ≡ map g (filter p rows)
map-map-same f g change p [] same = refl
map-map-same f g change p (row ∷ rows) same = by (p row) (map-map-same f g change p rows (λ i other there. same (suc i) other there))
  where
    by : (b : Bool) → map f (map change (filter p rows)) ≡ map g (filter p rows) → map f (map change (cond b (row ∷ filter p rows) (filter p rows))) ≡ map g (cond b (row ∷ filter p rows) (filter p rows))
    by true rest = ap₂ (λ (need : Need) (needs : List Need). need ∷ needs) (same zero row refl) rest
    by false rest = rest

cell_of-same : (change : Row → Row) (rows : List Row) (row : Row) → MovesNothing change rows → cell_of (change row) ≡ cell_of row
cell_of-same change rows row still =
    ap (λ (attached : Option (List ℕ × Cell)). option_map_or (λ (hung : List ℕ × Cell). hung.1) attached (record { column = 0; row = 0; pad = 0 })) (still.attached row)

needs-same : (change : Row → Row) (rows : List Row) (parent : Row) (f g : Row → ℕ) (axis : Axis) → MovesNothing change rows → ((i : ℕ) (row : Row) → slice_get rows i ≡ Some row → f (change row) ≡ g row) → needs_of f axis (map change rows) (change parent) ≡ needs_of g axis rows parent
needs-same change rows parent f g axis still same =
    ap (map (need_of f axis)) (children-same change rows parent still)
    ∙ map-map-same (need_of f axis) (need_of g axis) change (is_child parent.client parent.name) rows
    (λ i row there.
    ap₂ (λ (cell : Cell) (least : ℕ). record { track = track_in axis cell; room = least + 2 * cell.pad }) (cell_of-same change rows row still) (same i row there))

least_in-same : (most : ℕ) (change : Row → Row) (rows : List Row) (axis : Axis) (i : ℕ) (row : Row) → MovesNothing change rows → slice_get rows i ≡ Some row → least_in most (map change rows) axis (change row) ≡ least_in most rows axis row
unfolding least_by
least_in-same zero change rows axis i row still there = refl
least_in-same (suc most) change rows axis i row still there =
    let asks = still.asks i row there in
    let needs : needs_of (least_in most (map change rows) axis) axis (map change rows) (change row) ≡ needs_of (least_in most rows axis) axis rows row =
    needs-same change rows row (least_in most (map change rows) axis) (least_in most rows axis) axis still (λ j other at. least_in-same most change rows axis j other still at) in
    let grid : grid_least (needs_of (least_in most (map change rows) axis) axis (map change rows) (change row)) (rules_of axis (change row)) ≡ grid_least (needs_of (least_in most rows axis) axis rows row) (rules_of axis row) =
    ap₂ (λ (needs : List Need) (rules : List (ℕ × ℕ)). grid_least needs rules) needs (asks.rules axis) in
    ap (λ (kind : Kind). cond (is_grid kind) (grid_least (needs_of (least_in most (map change rows) axis) axis (map change rows) (change row)) (rules_of axis (change row))) (along axis (own_size kind (map change rows) (change row)).0 (own_size kind (map change rows) (change row)).1)) (still.kind row)
    ∙ ap₂ (λ (least : ℕ) (own : ℕ × ℕ). cond (is_grid row.kind) least (along axis own.0 own.1)) grid asks.size

least_of-same : (change : Row → Row) (rows : List Row) (axis : Axis) (i : ℕ) (row : Row) → MovesNothing change rows → slice_get rows i ≡ Some row → least_of (map change rows) axis (change row) ≡ least_of rows axis row
unfolding least_of
least_of-same change rows axis i row still there = least_in-same most_levels change rows axis i row still there

pub leaves_names : (change : Row → Row) (rows : List Row) → MovesNothing change rows → LeavesNames change
leaves_names change rows still = record { client = still.client; name = still.name }

parent_row-same : (change : Row → Row) (rows : List Row) (row : Row) → MovesNothing change rows → parent_row (map change rows) (change row) ≡ option_map change (parent_row rows row)
parent_row-same change rows row still =
    ap₂ (λ (client : ℕ) (attached : Option (List ℕ × Cell)). option_and_then (λ (hung : List ℕ × Cell). row_named (map change rows) client hung.0) attached) (still.client row) (still.attached row)
    ∙ by row.attached
  where
    by : (o : Option (List ℕ × Cell)) → option_and_then (λ (hung : List ℕ × Cell). row_named (map change rows) row.client hung.0) o ≡ option_map change (option_and_then (λ (hung : List ℕ × Cell). row_named rows row.client hung.0) o)
    by None = refl
    by (Some hung) = row_named-map rows change row.client hung.0 (leaves_names change rows still)

root_span-same : (change : Row → Row) (rows : List Row) (axis : Axis) (i : ℕ) (row : Row) → MovesNothing change rows → slice_get rows i ≡ Some row → (kind : Kind) → root_span kind axis (change row) ≡ root_span kind axis row
root_span-same change rows axis i row still there Window = (still.asks i row there).span axis
root_span-same change rows axis i row still there Grid = refl
root_span-same change rows axis i row still there Frame = refl
root_span-same change rows axis i row still there Button = refl
root_span-same change rows axis i row still there Label = refl
root_span-same change rows axis i row still there Entry = refl
root_span-same change rows axis i row still there Scale = refl
root_span-same change rows axis i row still there Scrollbar = refl
root_span-same change rows axis i row still there Variable = refl
root_span-same change rows axis i row still there VScreen = refl

-- a child and its parent, each where it stands
record Hung (rows : List Row) (parent row : Row) : Type 0 where
  i : ℕ
  there : slice_get rows i ≡ Some row
  j : ℕ
  above : slice_get rows j ≡ Some parent

child_span-same : (change : Row → Row) (rows : List Row) (axis : Axis) (parent row : Row) (span : Span) → MovesNothing change rows → Hung rows parent row → (kind : Kind) → parent.kind ≡ kind → child_span kind axis (map change rows) (change parent) span (change row) ≡ child_span kind axis rows parent span row
unfolding grid_span
child_span-same change rows axis parent row span still hung Window is = ap (λ (cell : Cell). inset cell.pad (content axis span)) (cell_of-same change rows row still)
child_span-same change rows axis parent row span still hung Grid is =
    ap (λ (cell : Cell). inset cell.pad (track_span (track_lengths (needs_of (least_of (map change rows) axis) axis (map change rows) (change parent)) (rules_of axis (change parent)) span.len) span (track_in axis cell))) (cell_of-same change rows row still)
    ∙ ap₂ (λ (needs : List Need) (rules : List (ℕ × ℕ)). inset (cell_of row).pad (track_span (track_lengths needs rules span.len) span (track_in axis (cell_of row))))
    (needs-same change rows parent (least_of (map change rows) axis) (least_of rows axis) axis still (λ j other at. least_of-same change rows axis j other still at))
    ((still.asks hung.j parent hung.above).rules axis)
child_span-same change rows axis parent row span still hung Frame is =
    ap (λ (cell : Cell). framed cell.pad (offset_of axis (map change rows) (change parent)) (least_of (map change rows) axis (change row)) span) (cell_of-same change rows row still)
    ∙ ap₂ (λ (offset : ℤ) (least : ℕ). framed (cell_of row).pad offset least span) ((still.asks hung.j parent hung.above).offset axis is) (least_of-same change rows axis hung.i row still hung.there)
child_span-same change rows axis parent row span still hung Button is = refl
child_span-same change rows axis parent row span still hung Label is = refl
child_span-same change rows axis parent row span still hung Entry is = refl
child_span-same change rows axis parent row span still hung Scale is = refl
child_span-same change rows axis parent row span still hung Scrollbar is = refl
child_span-same change rows axis parent row span still hung Variable is = refl
child_span-same change rows axis parent row span still hung VScreen is = refl

span_in-same : (most : ℕ) (change : Row → Row) (rows : List Row) (axis : Axis) (i : ℕ) (row : Row) → MovesNothing change rows → slice_get rows i ≡ Some row → span_in most (map change rows) axis (change row) ≡ span_in most rows axis row
span_in-same zero change rows axis i row still there = refl
span_in-same (suc most) change rows axis i row still there =
    ap (λ (o : Option Row). option_map_or (λ (parent : Row). child_span parent.kind axis (map change rows) parent (span_in most (map change rows) axis parent) (change row)) o (root_span (change row).kind axis (change row))) (parent_row-same change rows row still)
    ∙ by (λ j parent at. span_in-same most change rows axis j parent still at) (parent_row rows row) refl
  where
    alone : root_span (change row).kind axis (change row) ≡ root_span row.kind axis row
    alone = ap (λ (kind : Kind). root_span kind axis (change row)) (still.kind row) ∙ root_span-same change rows axis i row still there row.kind

    above : (parent : Row) → parent_row rows row ≡ Some parent → (j : ℕ) × (slice_get rows j ≡ Some parent)
    above parent found = up row.attached refl found
      where
        up : (o : Option (List ℕ × Cell)) → row.attached ≡ o → option_and_then (λ (hung : List ℕ × Cell). row_named rows row.client hung.0) o ≡ Some parent → (j : ℕ) × (slice_get rows j ≡ Some parent)
        up None at h = absurd (cc)
        up (Some hung) at h = find-element (has_name row.client hung.0) rows parent h

    by : ((j : ℕ) (parent : Row) → slice_get rows j ≡ Some parent → span_in most (map change rows) axis (change parent) ≡ span_in most rows axis parent) → (o : Option Row) → parent_row rows row ≡ o
        → option_map_or (λ (parent : Row). child_span parent.kind axis (map change rows) parent (span_in most (map change rows) axis parent) (change row)) (option_map change o) (root_span (change row).kind axis (change row))
        ≡ option_map_or (λ (parent : Row). child_span parent.kind axis rows parent (span_in most rows axis parent) row) o (root_span row.kind axis row)
    by rest None found = alone
    by rest (Some parent) found =
        let at = above parent found in
        ap (λ (kind : Kind). child_span kind axis (map change rows) (change parent) (span_in most (map change rows) axis (change parent)) (change row)) (still.kind parent)
        ∙ ap (λ (span : Span). child_span parent.kind axis (map change rows) (change parent) span (change row)) (rest at.0 parent at.1)
        ∙ child_span-same change rows axis parent row (span_in most rows axis parent) still (record { i = i; there = there; j = at.0; above = at.1 }) parent.kind refl

pub still_places : StillPlaces
unfolding place_in span_along
still_places change rows still i row there =
    ap₂ rect_of (span_in-same most_levels change rows Across i row still there) (span_in-same most_levels change rows Down i row still there)
