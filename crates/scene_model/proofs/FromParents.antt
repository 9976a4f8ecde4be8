-- A child's place comes from its parent's place and row, and from what the children ask for.
use Rattle.std.proofs.Common.{◌≡◌, ℕ, ℤ, List, refl, sym, ap, ◌∙◌}
use Rattle.kind_core.specs.declared.kinds.Kind.{Kind}
use Rattle.kind_core.specs.declared.kinds.Kind.TheVariants.{Window, Grid, Frame, Button, Label, Entry, Scale, Scrollbar, Variable, VScreen}
use Rattle.widget_model.specs.Rows.{Row}
use Rattle.scene_model.specs.declared.axis.Axis.{Axis}
use Rattle.scene_model.specs.declared.axis.Axis.TheVariants.{Across, Down}
use Rattle.scene_model.specs.declared.axis.Span.{Span}
use Rattle.scene_model.specs.Spans.{span_of, rect_of, framed, inset}
use Rattle.scene_model.specs.Values.{offset_of}
use Rattle.scene_model.specs.Tracks.{Need, cell_of, track_in, rules_of, track_lengths, track_span}
use Rattle.scene_model.specs.Least.{least_of}
use Rattle.scene_model.specs.Placing.{grid_span, child_span, span_along, place_in}
use Rattle.scene_model.specs.DependLaws.{IsHeldAlike, PlacesComeFromParents}
use Rattle.scene_model.proofs.LevelLaws.{spans_come_from_parents}

pub child_span-alike : (a b : List Row) (kind : Kind) (axis : Axis) (parent : Row) (span : Span) (child : Row) → IsHeldAlike a b axis parent child → child_span kind axis a parent span child ≡ child_span kind axis b parent span child
unfolding grid_span
child_span-alike a b Window axis parent span child alike = refl
child_span-alike a b Grid axis parent span child alike =
    ap (λ (needs : List Need). inset (cell_of child).pad (track_span (track_lengths needs (rules_of axis parent) span.len) span (track_in axis (cell_of child)))) alike.needs
child_span-alike a b Frame axis parent span child alike =
    ap (λ (offset : ℤ). framed (cell_of child).pad offset (least_of a axis child) span) alike.offset
    ∙ ap (λ (least : ℕ). framed (cell_of child).pad (offset_of axis b parent) least span) alike.least
child_span-alike a b Button axis parent span child alike = refl
child_span-alike a b Label axis parent span child alike = refl
child_span-alike a b Entry axis parent span child alike = refl
child_span-alike a b Scale axis parent span child alike = refl
child_span-alike a b Scrollbar axis parent span child alike = refl
child_span-alike a b Variable axis parent span child alike = refl
child_span-alike a b VScreen axis parent span child alike = refl

-- a place has one span on each axis
spans-of-places : (a b : List Row) (axis : Axis) (row : Row) → place_in a row ≡ place_in b row → span_along a axis row ≡ span_along b axis row
unfolding place_in
spans-of-places a b Across row same = ap (span_of Across) same
spans-of-places a b Down row same = ap (span_of Down) same

pub places_come_from_parents : PlacesComeFromParents
unfolding place_in
places_come_from_parents a b parent child planted_a planted_b found_a found_b above_a above_b alike same =
    ap (λ (span : Span). rect_of span (span_along a Down child)) (spans Across) ∙ ap (rect_of (span_along b Across child)) (spans Down)
  where
    spans : (axis : Axis) → span_along a axis child ≡ span_along b axis child
    spans axis =
        spans_come_from_parents a axis child parent planted_a found_a above_a
        ∙ child_span-alike a b parent.kind axis parent (span_along a axis parent) child (alike axis)
        ∙ ap (λ (span : Span). child_span parent.kind axis b parent span child) (spans-of-places a b axis parent same)
        ∙ sym (spans_come_from_parents b axis child parent planted_b found_b above_b)
