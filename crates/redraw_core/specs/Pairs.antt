-- Inner words of the proofs: two rectangles that may meet, or of which one continues the other.
use Rattle.std.specs.Prelude.{◌≡◌, ℕ, ℤ, pos, ◌+ℤ◌, Bool, ◌&&◌, ◌||◌, int_lt}
use Rattle.geom_core.specs.declared.rectangle.Rect.{Rect}
use Rattle.geom_core.specs.Rect.{in_rect}

-- whether each of two spans starts before the other's end: where that is false, they share nothing
abbrev pub spans_meet : ℤ → ℕ → ℤ → ℕ → Bool
spans_meet from len start size = int_lt from (start +ℤ pos size) && int_lt start (from +ℤ pos len)

abbrev pub may_meet : Rect → Rect → Bool
may_meet a b = spans_meet a.x a.w b.x b.w && spans_meet a.y a.h b.y b.h

-- the second begins where the first ends, with the same columns or the same rows
pub record IsBelow (first second : Rect) : Type 0 where
  pub column : first.x ≡ second.x
  pub width : first.w ≡ second.w
  pub row : first.y +ℤ pos first.h ≡ second.y

pub record IsBeside (first second : Rect) : Type 0 where
  pub row : first.y ≡ second.y
  pub height : first.h ≡ second.h
  pub column : first.x +ℤ pos first.w ≡ second.x

-- the pixels of the whole are those of the two parts
pub record IsJoined (whole first second : Rect) : Type 0 where
  pub pixels : (x y : ℤ) → in_rect whole x y ≡ (in_rect first x y || in_rect second x y)
