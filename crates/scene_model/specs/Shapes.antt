-- A server's fixed numbers, and the pixels of its screen.
use Rattle.std.specs.Prelude.{ℕ, ◌*◌, ◌≤◌}
use Rattle.kind_core.specs.declared.shapes.Shape.{Shape}

-- The pixels of the screen.
abbrev pub area : Shape → ℕ
area shape = shape.width * shape.height

-- A server's numbers are in range: a screen of 16 by 16 to 1,024 by 768, and a spare part of the budget.
pub record IsShape (shape : Shape) : Type 0 where
  pub width_least : 16 ≤ shape.width
  pub width_most : shape.width ≤ 1024
  pub height_least : 16 ≤ shape.height
  pub height_most : shape.height ≤ 768
  pub budget_least : 1 ≤ shape.budget
  pub budget_most : shape.budget ≤ 786432
  pub spare_least : 1 ≤ shape.spare
  pub spare_most : shape.spare ≤ shape.budget
