-- Cells written one by one and row by row.
use Rattle.std.proofs.Common.{◌≡◌, ℕ, ◌+◌, ◌*◌, ◌/◌, ◌%◌, ◌≤◌, ℤ, pos, ◌+ℤ◌, Bool, false, ◌||◌, List, get_or, refl, sym, ap, ◌∙◌, arith}
use Rattle.std.specs.Prelude.{nat_abs}
use Rattle.geom_core.specs.declared.rectangle.Rect.{Rect}
use Rattle.geom_core.specs.Rect.{in_rect}
use Rattle.geom_core.specs.Splits.{upper_rows, row_at}
use Rattle.geom_core.proofs.SplitLemmas.{in_rect-upper_rows_more}
use Rattle.geom_core.proofs.RectLemmas.{in_rect-empty, rect_of}
use Rattle.geom_core.proofs.ScreenLemmas.{line_at}
use Rattle.redraw_core.specs.Cells.{in_run, at_index, IsMarked, IsErased, IsWithin}

-- nothing written
pub IsMarked-none : (test : ℕ → Bool) (xs : List Bool) → ((k : ℕ) → test k ≡ false) → IsMarked test 0 xs xs
IsMarked-none test xs none = record { size = refl; each = λ k h. let e = none k in let b = get_or xs k false in grind arith; more = omega arith }

pub IsErased-none : (test : ℕ → Bool) (xs : List Bool) → ((k : ℕ) → test k ≡ false) → IsErased test 0 xs xs
IsErased-none test xs none = record { size = refl; each = λ k h. let e = none k in let b = get_or xs k false in grind arith; fewer = omega arith }

-- a second write after a first
pub IsMarked-then : (test more both : ℕ → Bool) (a b : ℕ) (xs ys zs : List Bool) → IsMarked test a xs ys → IsMarked more b ys zs → ((k : ℕ) → both k ≡ (test k || more k)) → IsMarked both (a + b) xs zs
IsMarked-then test more both a b xs ys zs m n joined = record {
  size = n.size ∙ m.size;
  each = λ k h. let e = joined k in let f = m.each k h in let g = n.each k (omega (arith, m.size)) in let t = get_or xs k false in grind arith;
  more = omega (arith, m.more, n.more);
}

pub IsErased-then : (test more both : ℕ → Bool) (a b : ℕ) (xs ys zs : List Bool) → IsErased test a xs ys → IsErased more b ys zs → ((k : ℕ) → both k ≡ (test k || more k)) → IsErased both (a + b) xs zs
IsErased-then test more both a b xs ys zs m n joined = record {
  size = n.size ∙ m.size;
  each = λ k h. let e = joined k in let f = m.each k h in let g = n.each k (omega (arith, m.size)) in let t = get_or xs k false in grind arith;
  fewer = omega (arith, m.fewer, n.fewer);
}

-- the rectangle's row is a run of cells
row_run : (rect : Rect) (width size row x y k : ℕ) → 1 ≤ width → IsWithin rect width size → x ≡ nat_abs rect.x → y ≡ nat_abs rect.y → at_index (in_rect (row_at rect row)) width k ≡ in_run ((y + row) * width + x) ((y + row) * width + x + rect.w) k
row_run rect width size row x y k some within is_x is_y =
    ap (λ (v : ℤ). in_rect (rect_of v (rect.y +ℤ pos row) rect.w 1) (pos (k % width)) (pos (k / width))) (sym within.left ∙ ap {B = ℤ} (λ n. pos n) (sym is_x))
    ∙ ap (λ (v : ℤ). in_rect (rect_of (pos x) (v +ℤ pos row) rect.w 1) (pos (k % width)) (pos (k / width))) (sym within.upper ∙ ap {B = ℤ} (λ n. pos n) (sym is_y))
    ∙ line_at width x rect.w (y + row) k some (omega (arith, within.right))

-- one row more
pub row_joined : (rect : Rect) (width size row x y k : ℕ) → 1 ≤ width → IsWithin rect width size → x ≡ nat_abs rect.x → y ≡ nat_abs rect.y → at_index (in_rect (upper_rows rect (row + 1))) width k ≡ (at_index (in_rect (upper_rows rect row)) width k || in_run ((y + row) * width + x) ((y + row) * width + x + rect.w) k)
row_joined rect width size row x y k some within is_x is_y =
    in_rect-upper_rows_more rect row (pos (k % width)) (pos (k / width))
    ∙ ap (λ t. at_index (in_rect (upper_rows rect row)) width k || t) (row_run rect width size row x y k some within is_x is_y)

-- no rows
pub no_rows : (rect : Rect) (width k : ℕ) → at_index (in_rect (upper_rows rect 0)) width k ≡ false
no_rows rect width k = in_rect-empty (upper_rows rect 0) (pos (k % width)) (pos (k / width)) (omega arith)
