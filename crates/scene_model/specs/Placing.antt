-- The place of a widget: the pixels that it takes, from its window down. A widget that hangs under no Window has none.
use Rattle.std.specs.Prelude.{ℕ, zero, suc, List, Option}
use Rattle.std.specs.Option.{option_map_or, option_and_then}
use Rattle.kind_core.specs.declared.kinds.Kind.{Kind}
use Rattle.kind_core.specs.declared.kinds.Kind.TheVariants.{Window, Grid, Frame}
use Rattle.kind_core.specs.declared.kinds.Attr.TheVariants.{X, Y, W, H}
use Rattle.geom_core.specs.declared.rectangle.Rect.{Rect}
use Rattle.widget_model.specs.Rows.{Row}
use Rattle.widget_model.specs.Named.{row_named}
use Rattle.widget_model.specs.Trees.{most_levels}
use Rattle.scene_model.specs.declared.axis.Axis.{Axis}
use Rattle.scene_model.specs.declared.axis.Axis.TheVariants.{Across, Down}
use Rattle.scene_model.specs.declared.axis.Span.{Span}
use Rattle.scene_model.specs.Spans.{along, no_span, inset, content, framed, rect_of}
use Rattle.scene_model.specs.Values.{number_of, count_of, offset_of}
use Rattle.scene_model.specs.Tracks.{cell_of, track_in, needs_of, rules_of, track_lengths, track_span}
use Rattle.scene_model.specs.Least.{least_of}

-- A Window begins at its x and y, and is as wide and high as its w and h.
abbrev pub window_span : Axis → Row → Span
window_span axis row = record { from = along axis (number_of X row) (number_of Y row); len = along axis (count_of W row) (count_of H row) }

abbrev pub root_span : Kind → Axis → Row → Span
root_span Window axis row = window_span axis row
root_span _ axis row = no_span

-- the span of a track of a Grid that has this span
unfoldable pub grid_span : Axis → List Row → Row → Span → Row → Span
grid_span axis rows grid span child =
    track_span (track_lengths (needs_of (least_of rows axis) axis rows grid) (rules_of axis grid) span.len) span (track_in axis (cell_of child))

-- the span of a child, from its parent's kind, row and span
abbrev pub child_span : Kind → Axis → List Row → Row → Span → Row → Span
child_span Window axis rows parent span child = inset (cell_of child).pad (content axis span)
child_span Grid axis rows parent span child = inset (cell_of child).pad (grid_span axis rows parent span child)
child_span Frame axis rows parent span child = framed (cell_of child).pad (offset_of axis rows parent) (least_of rows axis child) span
child_span _ axis rows parent span child = no_span

-- the widget in which the row hangs
abbrev pub parent_row : List Row → Row → Option Row
parent_row rows row = option_and_then (λ attached. row_named rows row.client attached.0) row.attached

-- the span of a widget along the axis, going up so many levels at the most
abbrev pub span_in : ℕ → List Row → Axis → Row → Span
span_in zero rows axis row = no_span
span_in (suc most) rows axis row =
    option_map_or (λ parent. child_span parent.kind axis rows parent (span_in most rows axis parent) row) (parent_row rows row) (root_span row.kind axis row)

unfoldable pub span_along : List Row → Axis → Row → Span
span_along rows axis row = span_in most_levels rows axis row

-- the place of a widget
unfoldable pub place_in : List Row → Row → Rect
place_in rows row = rect_of (span_along rows Across row) (span_along rows Down row)
