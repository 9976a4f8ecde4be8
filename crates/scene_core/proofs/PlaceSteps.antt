-- A place and its two spans.
use Rattle.std.proofs.Common.{◌≡◌, List, ap, ◌∙◌}
use Rattle.geom_core.specs.declared.rectangle.Rect.{Rect}
use Rattle.widget_model.specs.Rows.{Row}
use Rattle.scene_model.specs.declared.axis.Axis.{Axis}
use Rattle.scene_model.specs.declared.axis.Axis.TheVariants.{Across, Down}
use Rattle.scene_model.specs.declared.axis.Span.{Span}
use Rattle.scene_model.specs.Spans.{span_of, rect_of}
use Rattle.scene_model.specs.Placing.{place_in, span_along}

pub span-of-place : (rows : List Row) (axis : Axis) (row : Row) (place : Rect) → place ≡ place_in rows row → span_of axis place ≡ span_along rows axis row
unfolding place_in
span-of-place rows Across row place is = ap (span_of Across) is
span-of-place rows Down row place is = ap (span_of Down) is

pub rect-of-spans : (across down x y : Span) → across ≡ x → down ≡ y → rect_of across down ≡ rect_of x y
rect-of-spans across down x y a d = ap (λ (span : Span). rect_of span down) a ∙ ap (rect_of x) d

pub place-of-spans : (rows : List Row) (row : Row) (across down : Span) → across ≡ span_along rows Across row → down ≡ span_along rows Down row → rect_of across down ≡ place_in rows row
unfolding place_in
place-of-spans rows row across down a d = rect-of-spans across down (span_along rows Across row) (span_along rows Down row) a d
