-- How many pixels pass a test: in a box, counted row by row, and on a screen, counted along its row-major list of pixels.
use Rattle.std.specs.Prelude.{ℕ, zero, suc, ◌+◌, ◌*◌, ◌/◌, ◌%◌, ℤ, pos, ◌+ℤ◌, Bool, cond, List, map, count_by}
use Rattle.std.specs.List.{range_with_len}
use Rattle.geom_core.specs.declared.rectangle.Rect.{Rect}

-- how many of the `len` integers from `from` on pass the test
abbrev pub count_span : (ℤ → Bool) → ℤ → ℕ → ℕ
count_span test from zero = 0
count_span test from (suc n) = count_span test from n + cond (test (from +ℤ pos n)) 1 0

-- how many pixels of `rows` rows from `y` on, each of `w` pixels from `x` on, pass the test
abbrev pub count_rows : (ℤ → ℤ → Bool) → ℤ → ℕ → ℤ → ℕ → ℕ
count_rows test x w y zero = 0
count_rows test x w y (suc rows) = count_rows test x w y rows + count_span (λ p. test p (y +ℤ pos rows)) x w

-- how many pixels of the box pass the test
abbrev pub count_in : (ℤ → ℤ → Bool) → Rect → ℕ
count_in test box = count_rows test box.x box.w box.y box.h

-- the screen of that width and height, as a rectangle
abbrev pub screen_of : ℕ → ℕ → Rect
screen_of width height = record { x = pos 0; y = pos 0; w = width; h = height }

-- which pixels of a screen pass the test, row by row: the one at index i has the column i % width and the row i / width
abbrev pub marks_on : (ℤ → ℤ → Bool) → ℕ → ℕ → List Bool
marks_on test width height = map (λ i. test (pos (i % width)) (pos (i / width))) (range_with_len 0 (height * width))

-- how many of a list of truth values are true
abbrev pub true_count : List Bool → ℕ
true_count marks = count_by (λ b. b) marks
