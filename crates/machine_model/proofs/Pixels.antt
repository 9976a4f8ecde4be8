-- Between the pixel (x, y) and its place in a list of rows.
use Rattle.std.proofs.Common.{◌≡◌, ℕ, ◌+◌, ◌*◌, ◌/◌, ◌%◌, ◌<◌, ◌≤◌, get_or, map, ap, ◌∙◌, arith}
use Rattle.std.specs.List.{range_with_len}
use Rattle.std.proofs.lemmas.Nat.{mul-add-lt, div-mul-add, mod-mul-add, div-add-mod', div_below, mod_below}
use Rattle.std.proofs.lemmas.List.FromFn.{get_or-map-range_with_len}
use Rattle.std.proofs.Math.Nat.{mul_comm}
use Rattle.scene_model.specs.Shapes.{area}
use Rattle.kind_core.specs.declared.shapes.Shape.{Shape}
use Rattle.machine_model.specs.State.{EachPixel}

-- what holds of each pixel holds of each place
pub at_place : (shape : Shape) (P : ℕ → ℕ → Type 0) (k : ℕ) → k < area shape → 1 ≤ shape.width → EachPixel shape P → P (k % shape.width) (k / shape.width)
at_place shape P k within wide each =
    each (k % shape.width) (k / shape.width) (mod_below k shape.width wide) (div_below k shape.width shape.height wide (omega (arith, mul_comm shape.width shape.height)))

-- the place of the pixel that stands at k is k
pub place_of_pixel : (w k : ℕ) → k / w * w + k % w ≡ k
place_of_pixel w k = div-add-mod' k w

-- a list of all pixels that is made by a function of the place, read at a pixel
pub get_or-rows : {X : Type 0} (f : ℕ → ℕ → ℕ → X) (w h n x y : ℕ) (d : X) → n ≡ w * h → x < w → y < h → get_or (map (λ k. f k (k % w) (k / w)) (range_with_len 0 n)) (y * w + x) d ≡ f (y * w + x) x y
get_or-rows f w h n x y d size hx hy =
    let within = mul-add-lt y w x h hy hx in
    get_or-map-range_with_len (λ k. f k (k % w) (k / w)) 0 n (y * w + x) (y * w + x) d (omega arith) (omega arith)
    ∙ ap (λ m. f (y * w + x) m ((y * w + x) / w)) (mod-mul-add y w x hx)
    ∙ ap (λ m. f (y * w + x) x m) (div-mul-add y w x hx)
