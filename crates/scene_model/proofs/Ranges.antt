-- Places stay in range: a level moves a place by at most 66,016 pixels (15 tracks of 4,128, and a Frame's offset of
-- 4,096), a place is at most 4,128 wide, and there are 12 levels.
use Rattle.std.proofs.Common.{◌≡◌, ◌≤◌, ◌+◌, ◌*◌, ◌-◌, ℕ, zero, suc, ℤ, pos, neg_ℤ, ◌≤ℤ◌, List, sum, take, Option, Some, None, refl, arith, slice_get, length-take}
use Rattle.std.proofs.lemmas.Int.{ints}
use Rattle.std.proofs.lemmas.List.Elements.{All-take}
use Rattle.std.proofs.lemmas.List.Sums.{sum_by-le}
use Rattle.std.specs.List.{All}
use Rattle.std.specs.Option.{option_map_or}
use Rattle.geom_core.specs.Rect.{IsNear, IsInRange}
use Rattle.kind_core.specs.declared.kinds.Kind.{Kind}
use Rattle.kind_core.specs.declared.kinds.Kind.TheVariants.{Window, Grid, Frame, Button, Label, Entry, Scale, Scrollbar, Variable, VScreen}
use Rattle.kind_core.specs.declared.kinds.Attr.TheVariants.{X, Y, W, H}
use Rattle.kind_core.specs.Attributes.{minus}
use Rattle.kind_core.specs.Effective.{frame_offset}
use Rattle.widget_model.specs.Rows.{Row}
use Rattle.widget_model.specs.Named.{has_name}
use Rattle.widget_model.specs.Keys.{row_of}
use Rattle.widget_model.specs.Trees.{most_levels}
use Rattle.widget_model.proofs.Hanging.{find-element}
use Rattle.scene_model.specs.declared.axis.Axis.{Axis}
use Rattle.scene_model.specs.declared.axis.Axis.TheVariants.{Across, Down}
use Rattle.scene_model.specs.declared.axis.Span.{Span}
use Rattle.scene_model.specs.Spans.{no_span, inset, content, framed}
use Rattle.scene_model.specs.Values.{number_of, linked_value, offset_of}
use Rattle.scene_model.specs.Fit.{AreFit}
use Rattle.scene_model.specs.Tracks.{cell_of, track_in, needs_of, rules_of, track_lengths, track_span}
use Rattle.scene_model.specs.Least.{least_of}
use Rattle.scene_model.specs.Placing.{window_span, root_span, grid_span, child_span, parent_row, span_in, span_along, place_in}
use Rattle.scene_model.specs.Showing.{place_of}
use Rattle.scene_model.specs.RangeLaws.{LeastsAreSmall, TracksAreSmall, SpansAreSmall, PlacesAreInRange, PlacesOfKeysAreInRange}
use Rattle.scene_model.proofs.Lists.{index-most}
use Rattle.scene_model.proofs.Parents.{HangsFrom, HangsFrom-parent_row, row_of-own}
use Rattle.scene_model.proofs.FitRows.{IsBetween, number_of-takes, count_of-takes}
use Rattle.scene_model.proofs.Leasts.{IsFitRow, IsFitRow-at, IsFitCell, IsFitCell-attached, cell_of-attached, track_in-most, least_of-most, needs_of-fit, rules_of-fit, track_leasts-most, track_weights-most, track_lengths-most}

-- a span of at most 4,128 pixels that begins at most so far from 0
pub record IsAt (bound : ℕ) (span : Span) : Type 0 where
  pub low : neg_ℤ (pos bound) ≤ℤ span.from
  pub high : span.from ≤ℤ pos bound
  pub len : span.len ≤ 4128

no_span-at : (bound : ℕ) → IsAt bound no_span
no_span-at bound = record { low = omega (arith, ints); high = omega (arith, ints); len = omega arith }

inset-at : (bound more pad : ℕ) (span : Span) → pad ≤ 28 → bound + 28 ≤ more → IsAt bound span → IsAt more (inset pad span)
inset-at bound more pad span small room at = record { low = omega (arith, ints, at.low); high = omega (arith, ints, at.high); len = omega (arith, at.len) }

content-at : (bound : ℕ) (axis : Axis) (span : Span) → IsAt bound span → IsAt (bound + 12) (content axis span)
content-at bound Across span at = record { low = omega (arith, ints, at.low); high = omega (arith, ints, at.high); len = omega (arith, at.len) }
content-at bound Down span at = record { low = omega (arith, ints, at.low); high = omega (arith, ints, at.high); len = omega (arith, at.len) }

framed-at : (bound pad least : ℕ) (offset : ℤ) (span : Span) → pad ≤ 16 → least ≤ 4096 → IsBetween (pos 0) (pos 4096) offset → IsAt bound span → IsAt (bound + 66016) (framed pad offset least span)
framed-at bound pad least offset span small need moved at =
    record {
      low = omega (arith, ints, at.low, moved.high);
      high = omega (arith, ints, at.high, moved.low);
      len = omega (arith, at.len);
    }

-- so many tracks of at most 4,128
tracks-before : (count : ℕ) (lengths : List ℕ) → count ≤ 15 → All (λ n. n ≤ 4128) lengths → sum (take count lengths) ≤ 61920
tracks-before count lengths few each =
    let most = sum_by-le (λ x. x) 4128 (take count lengths) (All-take (λ (n : ℕ). n ≤ 4128) count lengths each) in
    let shorter = length-take count lengths in
    omega arith

track_span-at : (bound track : ℕ) (lengths : List ℕ) (span : Span) → track ≤ 16 → All (λ n. n ≤ 4128) lengths → IsAt bound span → IsAt (bound + 61920) (track_span lengths span track)
unfolding track_span
track_span-at bound track lengths span few each at =
    let before = tracks-before (track - 1) lengths (omega arith) each in
    record { low = omega (arith, ints, at.low); high = omega (arith, ints, at.high, before); len = index-most 4128 lengths (track - 1) each }

-- how far a Frame moves its child
pub offset-between : (rows : List Row) (axis : Axis) (row : Row) → row.kind ≡ Frame → IsFitRow row → IsBetween (pos 0) (pos 4096) (offset_of axis rows row)
offset-between rows Across row is fit = number_of-takes row X (pos 0) (pos 4096) (rw is (record { none = refl; words = λ text. refl; numbers = λ n. refl })) fit.values
offset-between rows Down row is fit = by (linked_value rows row)
  where
    by : (o : Option ℤ) → IsBetween (pos 0) (pos 4096) (frame_offset o (number_of Y row))
    by None = number_of-takes row Y (pos 0) (pos 4096) (rw is (record { none = refl; words = λ text. refl; numbers = λ n. refl })) fit.values
    by (Some v) = record { low = grind (arith, ints); high = grind (arith, ints) }

-- a child, from its parent
child_span-at : (bound : ℕ) (rows : List Row) (axis : Axis) (parent : Row) (span : Span) (i : ℕ) (row : Row) → AreFit rows → IsFitRow parent → slice_get rows i ≡ Some row → HangsFrom rows row parent → IsAt bound span → IsAt (bound + 66016) (child_span parent.kind axis rows parent span row)
unfolding grid_span
child_span-at bound rows axis parent span i row fit upper there hangs at = by parent.kind refl
  where
    cell : IsFitCell (cell_of row)
    cell = rw (cell_of-attached row parent.name hangs.cell hangs.attached) (IsFitCell-attached rows i row parent.name hangs.cell fit.planted there hangs.attached)

    by : (kind : Kind) → parent.kind ≡ kind → IsAt (bound + 66016) (child_span kind axis rows parent span row)
    by Window is = inset-at (bound + 12) (bound + 66016) (cell_of row).pad (content axis span) (omega (arith, cell.pad_most)) (omega arith) (content-at bound axis span at)
    by Grid is =
        let lengths = track_lengths (needs_of (least_of rows axis) axis rows parent) (rules_of axis parent) span.len in
        let each = track_lengths-most (needs_of (least_of rows axis) axis rows parent) (rules_of axis parent) span.len (needs_of-fit rows axis parent fit) (rules_of-fit axis parent upper) at.len in
        inset-at (bound + 61920) (bound + 66016) (cell_of row).pad (track_span lengths span (track_in axis (cell_of row))) (omega (arith, cell.pad_most)) (omega arith)
        (track_span-at bound (track_in axis (cell_of row)) lengths span (track_in-most axis (cell_of row) cell) each at)
    by Frame is = framed-at bound (cell_of row).pad (least_of rows axis row) (offset_of axis rows parent) span cell.pad_most (least_of-most rows axis i row fit there) (offset-between rows axis parent is upper) at
    by Button is = no_span-at (bound + 66016)
    by Label is = no_span-at (bound + 66016)
    by Entry is = no_span-at (bound + 66016)
    by Scale is = no_span-at (bound + 66016)
    by Scrollbar is = no_span-at (bound + 66016)
    by Variable is = no_span-at (bound + 66016)
    by VScreen is = no_span-at (bound + 66016)

root_span-at : (axis : Axis) (row : Row) → IsFitRow row → IsAt 1024 (root_span row.kind axis row)
root_span-at axis row fit = by row.kind refl
  where
    window : (axis : Axis) → row.kind ≡ Window → IsAt 1024 (window_span axis row)
    window Across is =
        let x = number_of-takes row X (minus 1024) (pos 1024) (rw is (record { none = refl; words = λ text. refl; numbers = λ n. refl })) fit.values in
        let w = count_of-takes row W 16 1024 (rw is (record { none = refl; words = λ text. refl; numbers = λ n. refl })) fit.values in
        record { low = x.low; high = x.high; len = omega (arith, w.most) }
    window Down is =
        let y = number_of-takes row Y (minus 1024) (pos 1024) (rw is (record { none = refl; words = λ text. refl; numbers = λ n. refl })) fit.values in
        let h = count_of-takes row H 16 1024 (rw is (record { none = refl; words = λ text. refl; numbers = λ n. refl })) fit.values in
        record { low = y.low; high = y.high; len = omega (arith, h.most) }

    by : (kind : Kind) → row.kind ≡ kind → IsAt 1024 (root_span kind axis row)
    by Window is = window axis is
    by Grid is = no_span-at 1024
    by Frame is = no_span-at 1024
    by Button is = no_span-at 1024
    by Label is = no_span-at 1024
    by Entry is = no_span-at 1024
    by Scale is = no_span-at 1024
    by Scrollbar is = no_span-at 1024
    by Variable is = no_span-at 1024
    by VScreen is = no_span-at 1024

IsAt-more : (bound more : ℕ) (span : Span) → bound ≤ more → IsAt bound span → IsAt more span
IsAt-more bound more span less at = record { low = omega (arith, ints, at.low); high = omega (arith, ints, at.high); len = at.len }

pub span_in-at : (most : ℕ) (rows : List Row) (axis : Axis) (i : ℕ) (row : Row) → AreFit rows → slice_get rows i ≡ Some row → IsAt (1024 + most * 66016) (span_in most rows axis row)
span_in-at zero rows axis i row fit there = no_span-at (1024 + 0 * 66016)
span_in-at (suc most) rows axis i row fit there = by (λ j parent at. span_in-at most rows axis j parent fit at) (parent_row rows row) refl
  where
    by : ((j : ℕ) (parent : Row) → slice_get rows j ≡ Some parent → IsAt (1024 + most * 66016) (span_in most rows axis parent)) → (o : Option Row) → parent_row rows row ≡ o
        → IsAt (1024 + suc most * 66016) (option_map_or (λ (parent : Row). child_span parent.kind axis rows parent (span_in most rows axis parent) row) o (root_span row.kind axis row))
    by rest None is = IsAt-more 1024 (1024 + suc most * 66016) (root_span row.kind axis row) (omega arith) (root_span-at axis row (IsFitRow-at rows i row fit there))
    by rest (Some parent) is =
        let hangs = HangsFrom-parent_row rows row parent is in
        let place = find-element (has_name row.client parent.name) rows parent hangs.found in
        IsAt-more (1024 + most * 66016 + 66016) (1024 + suc most * 66016) (child_span parent.kind axis rows parent (span_in most rows axis parent) row) (omega arith)
        (child_span-at (1024 + most * 66016) rows axis parent (span_in most rows axis parent) i row fit (IsFitRow-at rows place.0 parent fit place.1) there hangs (rest place.0 parent place.1))

span_along-levels : (rows : List Row) (axis : Axis) (i : ℕ) (row : Row) → AreFit rows → slice_get rows i ≡ Some row → IsAt (1024 + most_levels * 66016) (span_along rows axis row)
unfolding span_along
span_along-levels rows axis i row fit there = span_in-at most_levels rows axis i row fit there

levels-bound : 1024 + most_levels * 66016 ≡ 793216
unfolding most_levels
levels-bound = refl

pub span_along-at : (rows : List Row) (axis : Axis) (i : ℕ) (row : Row) → AreFit rows → slice_get rows i ≡ Some row → IsAt 793216 (span_along rows axis row)
span_along-at rows axis i row fit there = rw (← levels-bound) (span_along-levels rows axis i row fit there)

IsNear-at : (span : Span) → IsAt 793216 span → IsNear span.from span.len
IsNear-at span at =
    record {
      least = omega (arith, ints, at.low);
      greatest = omega (arith, ints, at.high, at.len);
      start = omega (arith, ints, at.high);
      size = omega (arith, at.len);
    }

-- the laws
pub leasts_are_small : LeastsAreSmall
leasts_are_small rows axis row fit found =
    let place = find-element (has_name row.client row.name) rows row found in
    least_of-most rows axis place.0 row fit place.1

pub tracks_are_small : TracksAreSmall
tracks_are_small rows axis grid fit found =
    let place = find-element (has_name grid.client grid.name) rows grid found in
    let needs = needs_of-fit rows axis grid fit in
    let rules = rules_of-fit axis grid (IsFitRow-at rows place.0 grid fit place.1) in
    record {
      leasts = track_leasts-most (needs_of (least_of rows axis) axis rows grid) (rules_of axis grid) needs rules;
      weights = track_weights-most (needs_of (least_of rows axis) axis rows grid) (rules_of axis grid) rules;
      lengths = λ room small. track_lengths-most (needs_of (least_of rows axis) axis rows grid) (rules_of axis grid) room needs rules small;
    }

pub spans_are_small : SpansAreSmall
spans_are_small rows axis row fit found =
    let place = find-element (has_name row.client row.name) rows row found in
    let at = span_along-at rows axis place.0 row fit place.1 in
    record { length = at.len; near = IsNear-at (span_along rows axis row) at }

pub places_are_in_range : PlacesAreInRange
unfolding place_in
places_are_in_range rows row fit found =
    let across = spans_are_small rows Across row fit found in
    let down = spans_are_small rows Down row fit found in
    record { width = across.length; height = down.length; in_range = record { across = across.near; down = down.near } }

pub places_of_keys_are_in_range : PlacesOfKeysAreInRange
unfolding place_of
places_of_keys_are_in_range scene key fit = by (row_of scene.rows key) refl
  where
    by : (o : Option Row) → row_of scene.rows key ≡ o → IsInRange (option_map_or (place_in scene.rows) o (record { x = pos 0; y = pos 0; w = 0; h = 0 }))
    by None is = record { across = IsNear-at no_span (no_span-at 793216); down = IsNear-at no_span (no_span-at 793216) }
    by (Some row) is = (places_are_in_range scene.rows row fit (row_of-own scene.rows key row is)).in_range
