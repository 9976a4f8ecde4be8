-- One axis at a time: each rule of layout is said once, for an axis, which is across or down. A span is the pixels of
-- an axis from `from` on, `len` of them; a span across and one down make a rectangle.
use Rattle.std.specs.Prelude.{ℕ, ◌-◌, ◌*◌, max, ℤ, pos, ◌+ℤ◌, ◌-ℤ◌}
use Rattle.geom_core.specs.declared.rectangle.Rect.{Rect}
use Rattle.scene_model.specs.declared.axis.Axis.{Axis}
use Rattle.scene_model.specs.declared.axis.Axis.TheVariants.{Across, Down}
use Rattle.scene_model.specs.declared.axis.Span.{Span}

-- the one that is meant on this axis: of a width and a height, of columns and rows
abbrev pub along : {T : Type 0} → Axis → T → T → T
along Across width height = width
along Down width height = height

abbrev pub no_span : Span
no_span = record { from = pos 0; len = 0 }

abbrev pub span_of : Axis → Rect → Span
span_of axis place = record { from = along axis place.x place.y; len = along axis place.w place.h }

abbrev pub rect_of : Span → Span → Rect
rect_of across down = record { x = across.from; y = down.from; w = across.len; h = down.len }

-- without the pad on both ends
abbrev pub inset : ℕ → Span → Span
inset pad span = record { from = span.from +ℤ pos pad; len = span.len - 2 * pad }

-- What a Window has for its child: all but its edge of one pixel and, above, its title's 12 rows.
abbrev pub content : Axis → Span → Span
content Across span = record { from = span.from +ℤ pos 1; len = span.len - 2 }
content Down span = record { from = span.from +ℤ pos 12; len = span.len - 13 }

-- What a Frame has for its child: it begins at the Frame's start, plus the pad, less the offset, and is as long as the
-- Frame without the pad on both ends, and no shorter than the child's least length.
abbrev pub framed : ℕ → ℤ → ℕ → Span → Span
framed pad offset least span = record { from = (span.from +ℤ pos pad) -ℤ offset; len = max (span.len - 2 * pad) least }
