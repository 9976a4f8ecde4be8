-- Spans of integers: what two share, and what one is cut into.
use Rattle.std.proofs.Common.{◌≡◌, ℕ, ◌+◌, ◌-◌, ◌<◌, ◌≤◌, ℤ, pos, ◌+ℤ◌, ◌≤ℤ◌, ◌<ℤ◌, true, false, ◌&&◌, ◌||◌, ◌⊎◌, arith}
use Rattle.std.proofs.lemmas.Int.{ints}
use Rattle.geom_core.specs.Rect.{in_span, IsNear}

-- the later and the earlier of two integers
abbrev pub IsLater : ℤ → ℤ → ℤ → Type 0
IsLater a b m = (a ≤ℤ m) × (b ≤ℤ m) × ((m ≡ a) ⊎ (m ≡ b))

abbrev pub IsEarlier : ℤ → ℤ → ℤ → Type 0
IsEarlier a b m = (m ≤ℤ a) × (m ≤ℤ b) × ((m ≡ a) ⊎ (m ≡ b))

-- two spans share the span from the later start to the earlier end
pub shared_some : (fa fb from end : ℤ) (la lb len : ℕ) (p : ℤ) → IsLater fa fb from → IsEarlier (fa +ℤ pos la) (fb +ℤ pos lb) end → from +ℤ pos len ≡ end → in_span from len p ≡ (in_span fa la p && in_span fb lb p)
shared_some fa fb from end la lb len p a b c = grind (arith, ints)

-- spans of which one ends before the other starts share nothing
pub shared_none : (fa fb from end : ℤ) (la lb : ℕ) (p : ℤ) → IsLater fa fb from → IsEarlier (fa +ℤ pos la) (fb +ℤ pos lb) end → end ≤ℤ from → in_span from 0 p ≡ (in_span fa la p && in_span fb lb p)
shared_none fa fb from end la lb p a b c = grind (arith, ints)

-- a span with a part of it cut off in front: each integer is in one of the two
pub in_span-add : (from : ℤ) (len first second : ℕ) (p : ℤ) → first + second ≡ len → in_span from len p ≡ (in_span from first p || in_span (from +ℤ pos first) second p)
in_span-add from len first second p e = grind (arith, ints)

pub in_span-apart : (from : ℤ) (first second : ℕ) (p : ℤ) → (in_span from first p && in_span (from +ℤ pos first) second p) ≡ false
in_span-apart from first second p = grind (arith, ints)

pub IsNear-first : (from : ℤ) (len first : ℕ) → first ≤ len → IsNear from len → IsNear from first
IsNear-first from len first e near = record { least = near.least; greatest = omega (arith, ints, near.greatest); start = near.start; size = omega (arith, near.size) }

pub IsNear-second : (from : ℤ) (len first : ℕ) → first ≤ len → IsNear from len → IsNear (from +ℤ pos first) (len - first)
IsNear-second from len first e near = record { least = omega (arith, ints, near.least); greatest = omega (arith, ints, near.greatest); start = omega (arith, ints, near.greatest); size = omega (arith, near.size) }

-- the first integer of a span that isn't empty, and the last
pub in_span-first : (from : ℤ) (len : ℕ) → 0 < len → in_span from len from ≡ true
in_span-first from len e = grind (arith, ints)

pub in_span-last : (from : ℤ) (len : ℕ) → 0 < len → in_span from len (from +ℤ pos (len - 1)) ≡ true
in_span-last from len e = grind (arith, ints)

pub in_span-at : (from : ℤ) (len k : ℕ) → k < len → in_span from len (from +ℤ pos k) ≡ true
in_span-at from len k e = grind (arith, ints)

-- what a test of a span tells
pub in_span-true : (from : ℤ) (len : ℕ) (p : ℤ) → in_span from len p ≡ true → (from ≤ℤ p) × (p <ℤ (from +ℤ pos len))
in_span-true from len p e = (grind (arith, ints), grind (arith, ints))

-- a span with an integer in it isn't empty
pub in_span-some : (from : ℤ) (len : ℕ) (p : ℤ) → in_span from len p ≡ true → 0 < len
in_span-some from len p e = grind (arith, ints)

-- a span within another starts no earlier and ends no later
pub record IsPart (from : ℤ) (len : ℕ) (whole : ℤ) (size : ℕ) : Type 0 where
  pub start : whole ≤ℤ from
  pub end : (from +ℤ pos len) ≤ℤ (whole +ℤ pos size)

pub IsPart-from : (from : ℤ) (len : ℕ) (whole : ℤ) (size : ℕ) → 0 < len → ((p : ℤ) → in_span from len p ≡ true → in_span whole size p ≡ true) → IsPart from len whole size
IsPart-from from len whole size some h =
    let first = in_span-true whole size from (h from (in_span-first from len some)) in
    let last = in_span-true whole size (from +ℤ pos (len - 1)) (h (from +ℤ pos (len - 1)) (in_span-last from len some)) in
    record { start = first.0; end = omega (arith, ints, last.1) }

pub in_span-part : (from : ℤ) (len : ℕ) (whole : ℤ) (size : ℕ) (p : ℤ) → IsPart from len whole size → in_span from len p ≡ true → in_span whole size p ≡ true
in_span-part from len whole size p part e = grind (arith, ints, part.start, part.end)

pub IsNear-part : (from : ℤ) (len : ℕ) (whole : ℤ) (size : ℕ) → whole ≤ℤ from → (from +ℤ pos len) ≤ℤ (whole +ℤ pos size) → IsNear whole size → IsNear from len
IsNear-part from len whole size low high near = record {
  least = omega (arith, ints, near.least);
  greatest = omega (arith, ints, near.greatest);
  start = omega (arith, ints, near.greatest);
  size = omega (arith, ints, near.size);
}

pub IsNear-zero : (len : ℕ) → len ≤ 4096 → IsNear (pos 0) len
IsNear-zero len h = record { least = omega (arith, ints); greatest = omega (arith, ints); start = omega (arith, ints); size = omega arith }
