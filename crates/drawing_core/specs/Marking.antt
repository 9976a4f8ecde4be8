-- What a change does to the dirt: it makes dirty what its reach has, and nothing clean.
use Rattle.std.specs.Prelude.{◌≡◌, ℕ, ℤ, pos, Bool, ◌&&◌, ◌||◌, nat_lt, List}
use Rattle.std.specs.List.{list_any, range_with_len}
use Rattle.shot_core.specs.Shot.{Seen, most_numbers}
use Rattle.damage_rules.specs.Numbering.{in_areas}
use Rattle.redraw_core.specs.Dirt.{Dirt, IsDirt, EachPixel, is_dirty}

-- Just the pixels that were dirty or pass the test are dirty.
pub record Marked (test : ℤ → ℤ → Bool) (old new : Dirt) : Type 0 where
  pub pixels : EachPixel old (λ x y. is_dirty new x y ≡ (is_dirty old x y || test (pos x) (pos y)))
  pub width : new.width ≡ old.width
  pub height : new.height ≡ old.height
  pub valid : IsDirt new

-- whether the pixel is in an area that the number gives the reach
abbrev pub in_number : Seen → Seen → List ℕ → ℕ → ℤ → ℤ → Bool
in_number before after looks key x y = in_areas before after looks x y key

-- The reach between two shots: what all numbers give, where `looks` has the numbers of the looks that differ.
abbrev pub is_given : Seen → Seen → List ℕ → ℤ → ℤ → Bool
is_given before after looks x y = list_any (in_areas before after looks x y) (range_with_len 0 most_numbers)

-- whether it is in an area that one of these numbers gives, as far as they are numbers of rows
abbrev pub is_given_of : Seen → Seen → List ℕ → List ℕ → ℤ → ℤ → Bool
is_given_of before after looks numbers x y = list_any (λ key. nat_lt key most_numbers && in_areas before after looks x y key) numbers

-- What the touched numbers give, in a change that leaves the shot as it is: the shown areas of the touched widgets.
abbrev pub is_given_touched : Seen → List ℕ → ℤ → ℤ → Bool
is_given_touched shot looks = is_given_of shot shot looks looks
