-- Pixels of a screen by their row-major index: the index y * width + x is the pixel (x, y).
use Rattle.std.proofs.Common.{◌≡◌, ℕ, zero, suc, ◌+◌, ◌*◌, ◌/◌, ◌%◌, ◌<◌, ◌≤◌, ℤ, pos, ◌+ℤ◌, Bool, true, cond, ◌&&◌, List, map, get_or, sym, ap, ◌∙◌, arith, nat_le, nat_lt, nat_eq, inl, inr}
use Rattle.std.proofs.Math.Nat.{mul-le-mul_right, mod-lt}
use Rattle.std.specs.List.{range_with_len}
use Rattle.std.proofs.lemmas.List.FromFn.{sum_by-map-range_with_len_more, get_or-map-range_with_len}
use Rattle.std.proofs.lemmas.Nat.{div-mul-add, mod-mul-add, mul-add-lt, div-add-mod'}
use Rattle.std.proofs.lemmas.Bool.{cases_order}
use Rattle.std.proofs.lemmas.Bool.Decides.{nat_tests}
use Rattle.geom_core.specs.declared.rectangle.Rect.{Rect}
use Rattle.geom_core.specs.Rect.{in_rect, area_of, IsInside}
use Rattle.geom_core.specs.Pieces.{covers, total_area, AreDisjoint}
use Rattle.geom_core.specs.Count.{count_span, count_rows, count_in, screen_of, marks_on, true_count}
use Rattle.geom_core.proofs.CountLemmas.{count_in-rect, count_in-covers}

-- the column and the row of an index, as integers
abbrev pixel_at : (ℤ → ℤ → Bool) → ℕ → ℕ → Bool
pixel_at test width i = test (pos (i % width)) (pos (i / width))

-- a test at an index is the test at its column and row
pub test_at_index : (test : ℤ → ℤ → Bool) (width x y : ℕ) → x < width → test (pos ((y * width + x) % width)) (pos ((y * width + x) / width)) ≡ test (pos x) (pos y)
test_at_index test width x y h = ap (λ n. test (pos n) (pos ((y * width + x) / width))) (mod-mul-add y width x h) ∙ ap (λ n. test (pos x) (pos n)) (div-mul-add y width x h)

-- the mark of a pixel of the screen stands at its index
pub marks_on-at : (test : ℤ → ℤ → Bool) (width height x y : ℕ) (d : Bool) → x < width → y < height → get_or (marks_on test width height) (y * width + x) d ≡ test (pos x) (pos y)
marks_on-at test width height x y d h k =
    get_or-map-range_with_len (pixel_at test width) 0 (height * width) (y * width + x) (y * width + x) d (omega (arith, mul-add-lt y width x height k h)) (omega arith)
    ∙ test_at_index test width x y h

abbrev first_count : (ℤ → ℤ → Bool) → ℕ → ℕ → ℕ
first_count test width n = true_count (map (pixel_at test width) (range_with_len 0 n))

first_count-more : (test : ℤ → ℤ → Bool) (width n : ℕ) → first_count test width (n + 1) ≡ first_count test width n + cond (pixel_at test width n) 1 0
first_count-more test width n = sum_by-map-range_with_len_more (λ (b : Bool). cond b 1 0) (pixel_at test width) 0 n n (omega arith)

zeros : (test : ℤ → ℤ → Bool) (x y : ℕ) → test (pos x) (pos y) ≡ test (pos 0 +ℤ pos x) (pos 0 +ℤ pos y)
zeros test x y =
    let ex : x ≡ 0 + x = omega arith in
    let ey : y ≡ 0 + y = omega arith in
    ap (λ n. test (pos n) (pos y)) ex ∙ ap (λ n. test (pos (0 + x)) (pos n)) ey

-- the first pixels of row y
first_count-row : (test : ℤ → ℤ → Bool) (width y n : ℕ) → n ≤ width → first_count test width (y * width + n) ≡ first_count test width (y * width) + count_span (λ p. test p (pos 0 +ℤ pos y)) (pos 0) n
first_count-row test width y zero h =
    let none : y * width + 0 ≡ y * width = omega arith in
    omega (arith, ap (first_count test width) none)
first_count-row test width y (suc n) h =
    let next : y * width + suc n ≡ y * width + n + 1 = omega arith in
    let here = ap {B = ℕ} (λ (b : Bool). cond b 1 0) (test_at_index test width n y h ∙ zeros test n y) in
    omega (arith, ap (first_count test width) next, first_count-more test width (y * width + n), first_count-row test width y n (omega arith), here)

first_count-rows : (test : ℤ → ℤ → Bool) (width y : ℕ) → first_count test width (y * width) ≡ count_rows test (pos 0) width (pos 0) y
first_count-rows test width zero = let none : 0 * width ≡ 0 = omega arith in ap (first_count test width) none
first_count-rows test width (suc y) =
    let next : suc y * width ≡ y * width + width = omega arith in
    omega (arith, ap (first_count test width) next, first_count-row test width y width (omega arith), first_count-rows test width y)

-- along the screen's pixels as many pass as in the screen as a box
pub true_count-marks_on : (test : ℤ → ℤ → Bool) (width height : ℕ) → true_count (marks_on test width height) ≡ count_in test (screen_of width height)
true_count-marks_on test width height = first_count-rows test width height

-- on a screen a rectangle has as many pixels as its area
pub true_count-rect : (r : Rect) (width height : ℕ) → IsInside r (screen_of width height) → true_count (marks_on (in_rect r) width height) ≡ area_of r
true_count-rect r width height inside = true_count-marks_on (in_rect r) width height ∙ count_in-rect r (screen_of width height) inside

-- on a screen disjoint rectangles have as many pixels as the sum of their areas
pub true_count-covers : (rs : List Rect) (width height : ℕ) → AreDisjoint rs → ((x y : ℤ) → covers rs x y ≡ true → in_rect (screen_of width height) x y ≡ true) → true_count (marks_on (covers rs) width height) ≡ total_area rs
true_count-covers rs width height disjoint inside = true_count-marks_on (covers rs) width height ∙ count_in-covers rs (screen_of width height) disjoint inside

-- an index lies in a run of a row exactly where its row is that row and its column is in the run
pub run_at : (width rx rw x y row : ℕ) → x < width → rx + rw ≤ width → (nat_le (row * width + rx) (y * width + x) && nat_lt (y * width + x) (row * width + rx + rw)) ≡ ((nat_le rx x && nat_lt x (rx + rw)) && nat_eq y row)
run_at width rx rw x y row h k = elim (cases_order y row) [
  | inl same ↦ let p = ap (λ n. n * width) same in grind (arith, nat_tests)
  | inr other ↦ elim other [
    | inl above ↦ let p = mul-le-mul_right width above in grind (arith, nat_tests)
    | inr below ↦ let p = mul-le-mul_right width below in grind (arith, nat_tests)
  ]
]

one_line : (y row : ℕ) → (nat_le row y && nat_lt y (row + 1)) ≡ nat_eq y row
one_line y row = grind (arith, nat_tests)

-- a rectangle of one line of the screen has the pixels of a run of indices
pub line_at : (width x w row i : ℕ) → 0 < width → x + w ≤ width → in_rect (record { x = pos x; y = pos row; w = w; h = 1 }) (pos (i % width)) (pos (i / width)) ≡ (nat_le (row * width + x) i && nat_lt i (row * width + x + w))
line_at width x w row i some k =
    let column = i % width in
    let here : i / width * width + column ≡ i = div-add-mod' i width in
    let run = run_at width x w column (i / width) row (mod-lt i some) k in
    ap (λ t. (nat_le x column && nat_lt column (x + w)) && t) (one_line (i / width) row)
    ∙ sym run
    ∙ ap (λ n. nat_le (row * width + x) n && nat_lt n (row * width + x + w)) here
