-- The state at opening is valid, and nothing is dirty in it.
use Rattle.std.proofs.Common.{[], ◌≡◌, ℕ, ◌+◌, ◌*◌, false, replicate, refl, sym, ◌∙◌, zero, suc, arith}
use Rattle.std.proofs.lemmas.List.{length-replicate, get_or-replicate}
use Rattle.std.proofs.lemmas.Nat.{mul-add-lt}
use Rattle.kind_core.specs.declared.shapes.Shape.{Shape}
use Rattle.scene_model.specs.Shapes.{IsShape, area}
use Rattle.desk_model.specs.Desk.{opening_desk}
use Rattle.machine_model.specs.State.{IsState, opening, dirty_count, count_true}
use Rattle.scene_model.specs.Showing.{top_of}
use Rattle.scene_model.specs.Colours.{colour_at}
use Rattle.desk_model.specs.Seen.{colour}
use Rattle.desk_model.proofs.Desks.{IsDesk-opening}
use Rattle.machine_model.proofs.Marks.{count_true-cons}

-- at opening each pixel has the desk's own colour
colour-opening : (shape : Shape) (x y : ℕ) → colour (opening_desk shape) x y ≡ 2
unfolding colour colour_at top_of
colour-opening shape x y = refl

count_true-replicate : (n : ℕ) → count_true (replicate n false) ≡ 0
count_true-replicate zero = refl
count_true-replicate (suc n) = omega (arith, count_true-cons false (replicate n false), count_true-replicate n)

pub IsState-opening : (shape : Shape) → IsShape shape → IsState (opening shape)
unfolding opening
IsState-opening shape is = record {
  desk = IsDesk-opening shape is;
  screen = length-replicate (area shape) 2;
  dirt = length-replicate (area shape) false;
  current = λ x y hx hy clean.
      get_or-replicate (area shape) (y * shape.width + x) 2 0 (mul-add-lt y shape.width x shape.height hy hx)
      ∙ sym (colour-opening shape x y);
}

pub dirty_count-opening : (shape : Shape) → dirty_count (opening shape) ≡ 0
unfolding opening
dirty_count-opening shape = count_true-replicate (area shape)

-- no window is open at opening
pub windows-opening : (shape : Shape) → (opening shape).desk.windows ≡ []
unfolding opening
windows-opening shape = refl

pub shape-opening : (shape : Shape) → (opening shape).desk.shape ≡ shape
unfolding opening
shape-opening shape = refl
