-- Facts on pictures: where rows and pixels stand, and what `with_pixels` leaves.
use Rattle.std.proofs.Common.{◌≡◌, ℕ, ◌+◌, ◌-◌, ◌*◌, ◌<◌, ◌≤◌, List, ◌++◌, length, get_or, take, drop, slice_range, sym, ap, ◌∙◌, arith}
use Rattle.std.proofs.lemmas.List.{places, length-take, length-drop, length-append, take_at, get_or-take, append_assoc}
use Rattle.std.proofs.lemmas.List.Edits.{get_or-between}
use Rattle.std.proofs.Math.Seq.{take-add}
use Rattle.std.proofs.Math.Nat.{mul-le-mul_right, mul_comm}
use Rattle.vscreen_core.specs.Laws.{RowsHoldPixels}
use Rattle.vscreen_core.specs.Picture.{pixel_of, with_pixels}

-- a row of a film stands in a picture of its size
pub row_fits : (y w h : ℕ) → y < h → y * w + w ≤ w * h
row_fits y w h low =
    let rows : (y + 1) * w ≤ h * w = mul-le-mul_right w (omega arith) in
    omega (arith, mul_comm h w)

pub rows_hold_pixels : RowsHoldPixels
rows_hold_pixels w h u v picture across down size =
    (get_or-between picture (v * w) ((v + 1) * w) u 0 (omega arith), omega (arith, row_fits v w h down))

pub length-with_pixels : (old new : List ℕ) (from to : ℕ) → from ≤ to → to ≤ length old → to ≤ length new → length (with_pixels old new from to) ≡ length old
length-with_pixels old new from to order within_old within_new =
    omega (arith, length-append (take from old) (take (to - from) (drop from new) ++ drop to old), length-append (take (to - from) (drop from new)) (drop to old), length-take from old, length-take (to - from) (drop from new), length-drop from new, length-drop to old)

-- within the span the bytes are the new ones
pub get_or-with_pixels_in : (old new : List ℕ) (from to k : ℕ) → from ≤ k → k < to → from ≤ length old → to ≤ length new → get_or (with_pixels old new from to) k 0 ≡ get_or new k 0
get_or-with_pixels_in old new from to k low high within_old within_new = grind (arith, places)

-- before and after it they are the old ones
pub get_or-with_pixels_before : (old new : List ℕ) (from to k : ℕ) → k < from → from ≤ length old → get_or (with_pixels old new from to) k 0 ≡ get_or old k 0
get_or-with_pixels_before old new from to k low within = grind (arith, places)

pub get_or-with_pixels_after : (old new : List ℕ) (from to k : ℕ) → from ≤ to → to ≤ k → to ≤ length old → to ≤ length new → get_or (with_pixels old new from to) k 0 ≡ get_or old k 0
get_or-with_pixels_after old new from to k order high within_old within_new = grind (arith, places)

-- a front is a shorter front and what lies between
take_parts : (xs : List ℕ) (from to : ℕ) → from ≤ to → take to xs ≡ take from xs ++ slice_range xs from to
take_parts xs from to order = ap (λ n. take n xs) (omega arith) ∙ take-add from (to - from) xs

-- where both pictures agree up to the span, the one with the span agrees with the new one to its end
pub take-with_pixels : (old new : List ℕ) (from to : ℕ) → from ≤ to → to ≤ length old → to ≤ length new → take from old ≡ take from new → take to (with_pixels old new from to) ≡ take to new
take-with_pixels old new from to order within_old within_new same =
    let size : length (take from old ++ slice_range new from to) ≡ to = omega (arith, length-append (take from old) (slice_range new from to), length-take from old, length-take (to - from) (drop from new), length-drop from new) in
    let front : take to (with_pixels old new from to) ≡ take from old ++ slice_range new from to =
    ap (take to) (sym (append_assoc (take from old) (slice_range new from to) (drop to old))) ∙ take_at (take from old ++ slice_range new from to) (drop to old) to size in
    front ∙ ap (λ xs. xs ++ slice_range new from to) same ∙ sym (take_parts new from to order)

-- pixels of pictures that agree in front
pub same_pixels : (i m : ℕ) (xs ys : List ℕ) → i < m → take m xs ≡ take m ys → pixel_of xs i ≡ pixel_of ys i
same_pixels i m xs ys low same = sym (get_or-take m xs i 0 low) ∙ ap (λ zs. get_or zs i 0) same ∙ get_or-take m ys i 0 low
