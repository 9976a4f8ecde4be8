-- Bytes put over a span, read by their places.
use Rattle.std.proofs.Common.{◌≡◌, ℕ, ◌+◌, ◌-◌, ◌*◌, ◌%◌, ◌^◌, ◌<◌, ◌≤◌, cond, List, [], ◌∷◌, ◌++◌, length, take, drop, get_or, set, sym, ap, add-one, ◌∙◌, arith}
use Rattle.std.proofs.lemmas.List.{places, append_assoc, drop-drop, take_all, set_split}
use Rattle.std.proofs.lemmas.Bool.Decides.{nat_tests}
use Rattle.std.proofs.lemmas.Nat.{mod_below}
use Rattle.std.proofs.Math.Nat.{mul-le-mul_right, mod-add-mod, mod-eq_of_lt, add_assoc, add-zero}
use Rattle.canvas_core.specs.Screen.{Screen, IsScreen, place, risen, spans_of, with_span, in_span}
use Rattle.canvas_core.specs.Lending.{written, with_row}

-- a count of all time that rose by nothing is what it was
pub risen-none : (all : ℕ) → all < 2 ^ 64 → all ≡ risen all 0
risen-none all fits = sym (mod-eq_of_lt fits) ∙ ap (λ n. n % 2 ^ 64) (sym (add-zero all))

-- a count of all time that rose twice
pub risen-then : (all some more : ℕ) → risen (risen all some) more ≡ risen all (some + more)
risen-then all some more = mod-add-mod (all + some) (2 ^ 64) more ∙ ap (λ n. n % 2 ^ 64) (add_assoc all some more)

-- one byte put is one byte set
pub with_span-one : (bytes : List ℕ) (at b : ℕ) → at < length bytes → with_span bytes at (b ∷ []) ≡ set bytes at b
with_span-one bytes at b h =
    append_assoc (take at bytes) (b ∷ []) (drop (at + 1) bytes) ∙ rw add-one (sym (set_split bytes at b h))

pub length-with_span : (bytes : List ℕ) (at : ℕ) (row : List ℕ) → at + length row ≤ length bytes → length (with_span bytes at row) ≡ length bytes
length-with_span bytes at row h = grind (arith, places)

pub get_or-with_span : (bytes : List ℕ) (at : ℕ) (row : List ℕ) (k d : ℕ) → at + length row ≤ length bytes → get_or (with_span bytes at row) k d ≡ cond (in_span at (length row) k) (get_or row (k - at) d) (get_or bytes k d)
get_or-with_span bytes at row k d h = grind (arith, places, nat_tests)

-- the last bytes of a row that is lent, where they are as many as were lent
pub written-with_span : (bytes : List ℕ) (at : ℕ) (row : List ℕ) → at + length row ≤ length bytes → written bytes at row ≡ with_span bytes at row
written-with_span bytes at row h =
    ap (λ rest. take (length bytes) (take at bytes ++ row ++ rest)) (drop-drop (length row) at bytes)
    ∙ take_all (length bytes) (with_span bytes at row) (omega (arith, length-with_span bytes at row h))

pub length-written : (bytes : List ℕ) (at : ℕ) (row : List ℕ) → length (written bytes at row) ≡ length bytes
length-written bytes at row = grind (arith, places)

-- so many pixels of a row have their places in the list of bytes
pub place-fits : (s : Screen) (x y len : ℕ) → IsScreen s → x + len ≤ s.width → y < s.height → place s x y + len ≤ length s.bytes
place-fits s x y len valid on_row on_screen =
    let below : (y + 1) * s.width ≤ s.height * s.width = mul-le-mul_right s.width (omega (arith, on_screen)) in
    grind (arith, valid.area, below)

-- a screen stays valid while a row is lent, whatever is written there
pub IsScreen-with_row : (s : Screen) (at len : ℕ) (row : List ℕ) → IsScreen s → s.writes + len < 2 ^ 32 → IsScreen (with_row s at len row)
IsScreen-with_row s at len row valid fits = record {
  least_width = valid.least_width;
  greatest_width = valid.greatest_width;
  least_height = valid.least_height;
  greatest_height = valid.greatest_height;
  area = length-written s.bytes at row ∙ valid.area;
  count_fits = fits;
  spans_within = grind (arith, valid.spans_within);
  all_writes_fit = mod_below (s.all_writes + len) (2 ^ 64) (omega arith);
  all_spans_fit = mod_below (s.all_spans + spans_of len) (2 ^ 64) (omega arith);
}
