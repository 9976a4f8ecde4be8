-- The overflow map: what its cells say of the pixels, what keeps its invariant, and the run that is taken.
use Rattle.std.proofs.Common.{◌≡◌, ℕ, ◌+◌, ◌-◌, ◌*◌, ◌/◌, ◌%◌, ◌<◌, ◌≤◌, min, ℤ, pos, Bool, true, false, not, ◌&&◌, ◌||◌, List, length, get_or, sym, ap, ◌∙◌, subst, inl, inr, arith, nat_le, nat_lt}
use Rattle.std.specs.Prelude.{nat_abs}
use Rattle.std.proofs.Math.Nat.{mul-le-mul_right, mod-lt}
use Rattle.std.proofs.lemmas.Int.{ints}
use Rattle.std.proofs.lemmas.Nat.{div-add-mod', div_below, mul-add-lt}
use Rattle.std.proofs.lemmas.Bool.{and_parts, cases_lt}
use Rattle.std.proofs.lemmas.Bool.Decides.{nat_tests}
use Rattle.geom_core.specs.declared.rectangle.Rect.{Rect}
use Rattle.geom_core.specs.Rect.{in_rect, in_span, IsEnclosed}
use Rattle.geom_core.specs.Count.{screen_of}
use Rattle.geom_core.proofs.RectLemmas.{corner_on_screen, rect_of, IsInside-from_enclosed}
use Rattle.geom_core.proofs.ScreenLemmas.{test_at_index, line_at}
use Rattle.redraw_core.specs.Dirt.{Dirt, IsDirt, IsTaken, EachPixel, is_dirty}
use Rattle.redraw_core.specs.Cells.{in_run, at_index, IsMarked, IsErased, IsWithin}
use Rattle.redraw_core.specs.Marking.{IsOverflow}

abbrev pub dirt_of : ℕ → ℕ → List Bool → Dirt
dirt_of width height marks = record { width = width; height = height; marks = marks }

-- the index of a pixel is one of the cells
index_fits : (width height x y : ℕ) (xs : List Bool) → length xs ≡ width * height → x < width → y < height → y * width + x < length xs
index_fits width height x y xs size hx hy = omega (arith, mul-add-lt y width x height hy hx)

-- a rectangle on the screen lies in its rows
pub IsWithin-from_enclosed : (dirt : Dirt) (width height n : ℕ) (xs : List Bool) (rect : Rect) → dirt_of width height xs ≡ dirt → IsEnclosed rect (screen_of dirt.width dirt.height) → length xs ≡ width * height → n ≡ length xs → IsWithin rect width n
IsWithin-from_enclosed dirt width height n xs rect is enclosed size same =
    let sides = subst (λ (d : Dirt). IsEnclosed rect (screen_of d.width d.height)) (sym is) enclosed in
    let corner = corner_on_screen rect width height sides in
    record { left = corner.0; upper = corner.1; right = corner.2; lower = omega (arith, mul-le-mul_right width corner.3) }

-- what a write over cells does to the pixels
pub pixels_marked : (dirt : Dirt) (width height count : ℕ) (xs ys zs : List Bool) (test : ℤ → ℤ → Bool) → dirt_of width height xs ≡ dirt → zs ≡ ys → length xs ≡ width * height → IsMarked (at_index test width) count xs ys → EachPixel dirt (λ x y. is_dirty (dirt_of width height zs) x y ≡ (is_dirty dirt x y || test (pos x) (pos y)))
pixels_marked dirt width height count xs ys zs test is same size m =
    subst (λ (d : Dirt). EachPixel d (λ x y. is_dirty (dirt_of width height zs) x y ≡ (is_dirty d x y || test (pos x) (pos y)))) is (λ x y hx hy.
    ap (λ (l : List Bool). get_or l (y * width + x) false) same ∙ m.each (y * width + x) (index_fits width height x y xs size hx hy) ∙ ap (λ t. get_or xs (y * width + x) false || t) (test_at_index test width x y hx))

pub pixels_erased : (dirt : Dirt) (width height count : ℕ) (xs ys zs : List Bool) (test : ℤ → ℤ → Bool) → dirt_of width height xs ≡ dirt → zs ≡ ys → length xs ≡ width * height → IsErased (at_index test width) count xs ys → EachPixel dirt (λ x y. is_dirty (dirt_of width height zs) x y ≡ (is_dirty dirt x y && not (test (pos x) (pos y))))
pixels_erased dirt width height count xs ys zs test is same size m =
    subst (λ (d : Dirt). EachPixel d (λ x y. is_dirty (dirt_of width height zs) x y ≡ (is_dirty d x y && not (test (pos x) (pos y))))) is (λ x y hx hy.
    ap (λ (l : List Bool). get_or l (y * width + x) false) same ∙ m.each (y * width + x) (index_fits width height x y xs size hx hy) ∙ ap (λ t. get_or xs (y * width + x) false && not t) (test_at_index test width x y hx))

IsDirt-sized : (width height : ℕ) (xs ys : List Bool) → IsDirt (dirt_of width height xs) → length ys ≡ length xs → IsDirt (dirt_of width height ys)
IsDirt-sized width height xs ys is size = record { least_width = is.least_width; greatest_width = is.greatest_width; greatest_height = is.greatest_height; size = size ∙ is.size }

-- no pixel above the rectangle is in it
above_rect : (rect : Rect) (width k : ℕ) → pos (nat_abs rect.y) ≡ rect.y → 1 ≤ width → k < nat_abs rect.y * width → at_index (in_rect rect) width k ≡ false
above_rect rect width k upper some above =
    let row : k / width < nat_abs rect.y = div_below k width (nat_abs rect.y) some above in
    let out : in_span rect.y rect.h (pos (k / width)) ≡ false = grind (arith, ints) in
    let across = in_span rect.x rect.w (pos (k % width)) in
    grind arith

-- after a rectangle was marked, the cursor is at most at its first row
pub IsOverflow-mark : (width height count first more row : ℕ) (xs ys zs : List Bool) (rect : Rect) (n : ℕ) → IsOverflow (dirt_of width height xs) count first → IsWithin rect width n → IsMarked (at_index (in_rect rect) width) more xs ys → zs ≡ ys → row ≡ nat_abs rect.y → IsOverflow (dirt_of width height zs) (count + more) (min first (row * width))
IsOverflow-mark width height count first more row xs ys zs rect n is within m same at_row =
    subst (λ (l : List Bool). IsOverflow (dirt_of width height l) (count + more) (min first (row * width))) (sym same) (record {
      valid = IsDirt-sized width height xs ys is.valid m.size;
      counted = omega (arith, is.counted, m.more);
      within = omega (arith, is.within, m.size);
      none = λ k h.
          let before : k < first = omega arith in
          let fits : k < length xs = omega (arith, is.within) in
          let up : k < nat_abs rect.y * width = let e = ap (λ v. v * width) at_row in omega (arith, e) in
          let old = is.none k before in
          let out = above_rect rect width k within.upper is.valid.least_width up in
          let e = m.each k fits in grind arith;
    })

-- after cells were erased, the cursor may stay
pub IsOverflow-erase : (width height count first fewer : ℕ) (xs ys zs : List Bool) (test : ℕ → Bool) → IsOverflow (dirt_of width height xs) count first → IsErased test fewer xs ys → zs ≡ ys → IsOverflow (dirt_of width height zs) (count - fewer) first
IsOverflow-erase width height count first fewer xs ys zs test is m same =
    subst (λ (l : List Bool). IsOverflow (dirt_of width height l) (count - fewer) first) (sym same) (record {
      valid = IsDirt-sized width height xs ys is.valid m.size;
      counted = omega (arith, is.counted, m.fewer);
      within = omega (arith, is.within, m.size);
      none = λ k h.
          let old = is.none k h in
          let e = m.each k (omega (arith, is.within)) in
          let t = test k in grind arith;
    })

-- after the run behind the cursor was erased, the cursor stands at its end
pub IsOverflow-run : (width height count first start end fewer : ℕ) (xs ys zs : List Bool) → IsOverflow (dirt_of width height xs) count first → ((k : ℕ) → first ≤ k → k < start → get_or xs k false ≡ false) → end ≤ length xs → IsErased (in_run start end) fewer xs ys → zs ≡ ys → IsOverflow (dirt_of width height zs) (count - fewer) end
IsOverflow-run width height count first start end fewer xs ys zs is skipped fits m same =
    subst (λ (l : List Bool). IsOverflow (dirt_of width height l) (count - fewer) end) (sym same) (record {
      valid = IsDirt-sized width height xs ys is.valid m.size;
      counted = omega (arith, is.counted, m.fewer);
      within = omega (arith, m.size);
      none = λ k h.
          let e = m.each k (omega arith) in
          elim (cases_lt k first) [
            | inl before ↦ let old = is.none k before in let t = in_run start end k in grind arith
            | inr after ↦ elim (cases_lt k start) [
              | inl front ↦ let old = skipped k after front in let t = in_run start end k in grind arith
              | inr inside ↦ let t : in_run start end k ≡ true = grind (arith, nat_tests) in let b = get_or xs k false in grind arith
            ]
          ];
    })

-- the row of a cell ends within the cells
pub row_end_fits : (width height start : ℕ) → 1 ≤ width → start < width * height → start - start % width + width ≤ width * height
row_end_fits width height start some h =
    let row : start / width < height = div_below start width height some (omega arith) in
    let e = div-add-mod' start width in
    let bound = mul-le-mul_right width row in
    omega (arith, bound, e)

abbrev run_at_start : ℕ → ℕ → ℕ → Rect
run_at_start width start end = rect_of (pos (start % width)) (pos (start / width)) (end - start) 1

-- a run of one row has the pixels of its cells
run_pixels : (width start end k : ℕ) → 1 ≤ width → start ≤ end → end ≤ start - start % width + width → at_index (in_rect (run_at_start width start end)) width k ≡ in_run start end k
run_pixels width start end k some order fits =
    let column : start % width < width = mod-lt start some in
    let e = div-add-mod' start width in
    let l : start / width * width + start % width + (end - start) ≡ end = omega (arith, e) in
    line_at width (start % width) (end - start) (start / width) k some (omega (arith, e))
    ∙ ap (λ n. nat_le n k && nat_lt k (start / width * width + start % width + (end - start))) e
    ∙ ap (λ n. nat_le start k && nat_lt k n) l

-- the run that is taken
pub IsTaken-run : (dirt : Dirt) (width height n start end fewer : ℕ) (xs ys zs : List Bool) (rect : Rect) → dirt_of width height xs ≡ dirt → IsDirt (dirt_of width height xs) → zs ≡ ys → start < end → end ≤ start + n → end ≤ start - start % width + width → start < length xs → ((k : ℕ) → start ≤ k → k < end → get_or xs k false ≡ true) → IsErased (in_run start end) fewer xs ys → rect ≡ run_at_start width start end → IsTaken n rect dirt (dirt_of width height zs)
IsTaken-run dirt width height n start end fewer xs ys zs rect is valid same some most in_row fits all m shape =
    let wide = valid.least_width in
    let run = run_at_start width start end in
    let column : start % width < width = mod-lt start wide in
    let row : start / width < height = div_below start width height wide (omega (arith, valid.size)) in
    let here = λ (x y : ℕ) (hx : x < width). sym (test_at_index (in_rect run) width x y hx) ∙ run_pixels width start end (y * width + x) wide (omega arith) in_row in
    subst (λ (d : Dirt). IsTaken n rect d (dirt_of width height zs)) is (subst (λ (r : Rect). IsTaken n r (dirt_of width height xs) (dirt_of width height zs)) (sym shape) (record {
      least = omega arith;
      most = omega arith;
      on_screen = IsInside-from_enclosed run (screen_of width height) (record {
        left = omega (arith, ints);
        right = omega (arith, ints, div-add-mod' start width);
        upper = omega (arith, ints);
        lower = omega (arith, ints);
      });
      were_dirty = λ x y hx hy h.
          let t : in_run start end (y * width + x) ≡ true = sym (here x y hx) ∙ h in
          let s = and_parts (nat_le start (y * width + x)) (nat_lt (y * width + x) end) t in
          all (y * width + x) (grind (arith, nat_tests)) (grind (arith, nat_tests));
      pixels = λ x y hx hy.
          ap (λ (l : List Bool). get_or l (y * width + x) false) same
          ∙ m.each (y * width + x) (index_fits width height x y xs valid.size hx hy)
          ∙ ap (λ t. get_or xs (y * width + x) false && not t) (sym (here x y hx));
    }))
