-- A rectangle split along a row or a column is two parts that are disjoint and have its pixels.
use Rattle.std.proofs.Common.{◌≡◌, ℕ, zero, suc, ◌+◌, ◌-◌, ◌*◌, ◌/◌, ◌%◌, min, ◌≤◌, ℤ, pos, ◌+ℤ◌, Bool, false, ◌&&◌, ◌||◌, sym, ap, ◌∙◌, arith}
use Rattle.std.proofs.lemmas.Nat.{div-add-mod'}
use Rattle.geom_core.specs.declared.rectangle.Rect.{Rect}
use Rattle.geom_core.specs.Rect.{in_span, in_rect, area_of, IsInRange}
use Rattle.geom_core.specs.Splits.{row_at, upper_rows, lower_rows, left_columns, right_columns, IsSplit}
use Rattle.geom_core.proofs.RectLemmas.{rect_of}
use Rattle.geom_core.proofs.SpanLemmas.{in_span-add, in_span-apart, IsNear-first, IsNear-second}

split_right : (s t u w : Bool) → w ≡ (t || u) → (s && w) ≡ ((s && t) || (s && u))
split_right s t u w e = grind arith

apart_right : (s t u : Bool) → (t && u) ≡ false → ((s && t) && (s && u)) ≡ false
apart_right s t u e = grind arith

split_left : (s t u w : Bool) → w ≡ (t || u) → (w && s) ≡ ((t && s) || (u && s))
split_left s t u w e = grind arith

apart_left : (s t u : Bool) → (t && u) ≡ false → ((t && s) && (u && s)) ≡ false
apart_left s t u e = grind arith

times_parts : (w h k : ℕ) → k ≤ h → w * k + w * (h - k) ≡ w * h
times_parts w h k e = let d = h - k in let s : h ≡ k + d = omega arith in grind arith

parts_times : (w h k : ℕ) → k ≤ w → k * h + (w - k) * h ≡ w * h
parts_times w h k e = let d = w - k in let s : w ≡ k + d = omega arith in grind arith

pub IsSplit-rows : (a : Rect) (k : ℕ) → k ≤ a.h → IsInRange a → IsSplit a (upper_rows a k) (lower_rows a k)
IsSplit-rows a k e near = record {
  pixels = λ x y. split_right (in_span a.x a.w x) (in_span a.y k y) (in_span (a.y +ℤ pos k) (a.h - k) y) (in_span a.y a.h y) (in_span-add a.y a.h k (a.h - k) y (omega arith));
  apart = λ x y. apart_right (in_span a.x a.w x) (in_span a.y k y) (in_span (a.y +ℤ pos k) (a.h - k) y) (in_span-apart a.y k (a.h - k) y);
  areas = times_parts a.w a.h k e;
  first_in_range = record { across = near.across; down = IsNear-first a.y a.h k e near.down };
  second_in_range = record { across = near.across; down = IsNear-second a.y a.h k e near.down };
}

pub IsSplit-columns : (a : Rect) (k : ℕ) → k ≤ a.w → IsInRange a → IsSplit a (left_columns a k) (right_columns a k)
IsSplit-columns a k e near = record {
  pixels = λ x y. split_left (in_span a.y a.h y) (in_span a.x k x) (in_span (a.x +ℤ pos k) (a.w - k) x) (in_span a.x a.w x) (in_span-add a.x a.w k (a.w - k) x (omega arith));
  apart = λ x y. apart_left (in_span a.y a.h y) (in_span a.x k x) (in_span (a.x +ℤ pos k) (a.w - k) x) (in_span-apart a.x k (a.w - k) x);
  areas = parts_times a.w a.h k e;
  first_in_range = record { across = IsNear-first a.x a.w k e near.across; down = near.down };
  second_in_range = record { across = IsNear-second a.x a.w k e near.across; down = near.down };
}

-- a hole that is split off in four steps leaves the four parts around it
pub center_is : (a hole : Rect) (above left : ℕ) → a.y +ℤ pos above ≡ hole.y → a.x +ℤ pos left ≡ hole.x → left_columns (right_columns (upper_rows (lower_rows a above) hole.h) left) hole.w ≡ hole
center_is a hole above left e f = ap (λ (y : ℤ). rect_of (a.x +ℤ pos left) y hole.w hole.h) e ∙ ap (λ (x : ℤ). rect_of x hole.y hole.w hole.h) f

times_min : (k : ℕ) → k * min k 1 ≡ k
times_min zero = omega arith
times_min (suc k) = let e : min (suc k) 1 ≡ 1 = omega arith in rw e (omega arith)

-- the whole lines and the line drawn in part have n pixels
pub lines_areas : (a upper line left : Rect) (n w : ℕ) → w ≡ a.w → upper ≡ upper_rows a (n / w) → line.h ≡ min (n % w) 1 → left ≡ left_columns line (n % w) → area_of upper + area_of left ≡ n
lines_areas a upper line left n w e u h l =
    let first = ap area_of u ∙ ap (λ v. v * (n / w)) (sym e) in
    let second = ap area_of l ∙ ap (λ v. (n % w) * v) h ∙ times_min (n % w) in
    omega (arith, first, second, div-add-mod' n w)

-- one more of the upper rows, for a loop over the rows
pub in_rect-upper_rows_more : (a : Rect) (k : ℕ) (x y : ℤ) → in_rect (upper_rows a (k + 1)) x y ≡ (in_rect (upper_rows a k) x y || in_rect (row_at a k) x y)
in_rect-upper_rows_more a k x y = split_right (in_span a.x a.w x) (in_span a.y k y) (in_span (a.y +ℤ pos k) 1 y) (in_span a.y (k + 1) y) (in_span-add a.y (k + 1) k 1 y (omega arith))

-- no row has a pixel of the rows above it
pub row_at-apart : (a : Rect) (k : ℕ) (x y : ℤ) → (in_rect (upper_rows a k) x y && in_rect (row_at a k) x y) ≡ false
row_at-apart a k x y = apart_right (in_span a.x a.w x) (in_span a.y k y) (in_span (a.y +ℤ pos k) 1 y) (in_span-apart a.y k 1 y)
