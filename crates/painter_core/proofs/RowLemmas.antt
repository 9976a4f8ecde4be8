-- Rows: what a row does that is lent and written, and one row more of a piece.
use Rattle.std.proofs.Common.{◌≡◌, ℕ, ◌+◌, ◌-◌, ◌*◌, ◌^◌, ◌<◌, ◌≤◌, ℤ, pos, ◌+ℤ◌, Bool, true, false, cond, ◌&&◌, List, length, get_or, refl, sym, ap, subst, ◌∙◌, arith}
use Rattle.std.specs.Prelude.{nat_le, nat_lt, nat_eq, Option, Some, None, IfSome}
use Rattle.std.proofs.Math.Nat.{mul-le-mul_left}
use Rattle.std.proofs.lemmas.Bool.Decides.{nat_tests}
use Rattle.std.proofs.lemmas.Int.{ints}
use Rattle.canvas_core.specs.Screen.{Screen, IsScreen, place, pixel_of, in_span, risen}
use Rattle.canvas_core.specs.Lending.{with_row}
use Rattle.canvas_core.proofs.Span.{get_or-with_span, written-with_span, place-fits, IsScreen-with_row}
use Rattle.geom_core.specs.declared.rectangle.Rect.{Rect}
use Rattle.geom_core.specs.Rect.{in_rect, IsEnclosed, IsInRange, IsInside}
use Rattle.geom_core.specs.Count.{screen_of}
use Rattle.geom_core.specs.Splits.{upper_rows, row_at}
use Rattle.geom_core.proofs.RectLemmas.{IsInRange-from_enclosed, IsInRange-screen, in_rect-empty}
use Rattle.geom_core.proofs.ScreenLemmas.{run_at}
use Rattle.geom_core.proofs.SplitLemmas.{in_rect-upper_rows_more}
use Rattle.painter_core.specs.Layers.{Layers}
use Rattle.painter_core.specs.Painted.{Painted, Filled}
use Rattle.painter_core.proofs.PaintedLemmas.{Painted-none, Painted-then}

one_line : (y row : ℕ) → (nat_le row y && nat_lt y (row + 1)) ≡ nat_eq y row
one_line y row = grind (arith, nat_tests)

-- the index of a pixel is in the run of a line exactly where the line has the pixel
in_line : (width x y w u v : ℕ) → u < width → x + w ≤ width → in_rect (record { x = pos x; y = pos y; w = w; h = 1 }) (pos u) (pos v) ≡ in_span (y * width + x) w (v * width + u)
in_line width x y w u v l k =
    ap (λ t. (nat_le x u && nat_lt u (x + w)) && t) (one_line v y) ∙ sym (run_at width x w u v y l k)

in_line_at : (x y w u v : ℕ) → in_rect (record { x = pos x; y = pos y; w = w; h = 1 }) (pos u) (pos v) ≡ true → (x ≤ u) × (u < x + w) × (v ≡ y)
in_line_at x y w u v e = (grind (arith, nat_tests), grind (arith, nat_tests), grind (arith, nat_tests))

choose : (a b : Bool) (p c q : ℕ) → b ≡ a → (a ≡ true → p ≡ c) → cond b p q ≡ cond a c q
choose true b p c q e f = ap (λ (s : Bool). cond s p q) e ∙ f refl
choose false b p c q e f = ap (λ (s : Bool). cond s p q) e

pixel_there : (width x y w u v : ℕ) (row : List ℕ) (colour : ℤ → ℤ → ℕ) → length row ≡ w → ((i : ℕ) → i < length row → get_or row i 0 ≡ colour (pos x +ℤ pos i) (pos y)) → in_rect (record { x = pos x; y = pos y; w = w; h = 1 }) (pos u) (pos v) ≡ true → get_or row (v * width + u - (y * width + x)) 0 ≡ colour (pos u) (pos v)
pixel_there width x y w u v row colour len drawn e =
    let facts = in_line_at x y w u v e in
    let from = u - x in
    let rows = ap (λ n. n * width) facts.2 in
    let index : v * width + u - (y * width + x) ≡ from = omega (arith, rows, facts.0) in
    let within : from < length row = omega (arith, len, facts.1) in
    let across : pos x +ℤ pos from ≡ pos u = ap {B = ℤ} (λ n. pos n) (omega (arith, facts.0)) in
    ap (λ i. get_or row i 0) index
    ∙ drawn from within
    ∙ ap (λ (p : ℤ). colour p (pos y)) across
    ∙ ap (λ n. colour (pos u) (pos n)) (sym facts.2)

line_pixels : (s : Screen) (x y w : ℕ) (row : List ℕ) (colour : ℤ → ℤ → ℕ) → IsScreen s → x + w ≤ s.width → y < s.height → length row ≡ w → ((i : ℕ) → i < length row → get_or row i 0 ≡ colour (pos x +ℤ pos i) (pos y)) → (u v : ℕ) → u < s.width → v < s.height → pixel_of (with_row s (place s x y) w row) u v ≡ cond (in_rect (record { x = pos x; y = pos y; w = w; h = 1 }) (pos u) (pos v)) (colour (pos u) (pos v)) (pixel_of s u v)
line_pixels s x y w row colour valid across down len drawn u v l k =
    let fits : place s x y + length row ≤ length s.bytes = omega (arith, place-fits s x y w valid across down, len) in
    let span = in_line s.width x y w u v l across in
    let width_is : in_span (place s x y) (length row) (place s u v) ≡ in_span (place s x y) w (place s u v) = ap (λ n. in_span (place s x y) n (place s u v)) len in
    ap (λ bytes. get_or bytes (place s u v) 0) (written-with_span s.bytes (place s x y) row fits)
    ∙ get_or-with_span s.bytes (place s x y) row (place s u v) 0 fits
    ∙ choose (in_rect (record { x = pos x; y = pos y; w = w; h = 1 }) (pos u) (pos v)) (in_span (place s x y) (length row) (place s u v)) (get_or row (place s u v - place s x y) 0) (colour (pos u) (pos v)) (pixel_of s u v)
    (width_is ∙ sym span) (pixel_there s.width x y w u v row colour len drawn)

filled_at : (s : Screen) (x y w : ℕ) (row : List ℕ) (colour : ℤ → ℤ → ℕ) → IsScreen s → x + w ≤ s.width → y < s.height → 0 < w → length row ≡ w → s.writes + w < 2 ^ 32 → ((i : ℕ) → i < length row → get_or row i 0 ≡ colour (pos x +ℤ pos i) (pos y)) → Filled colour (record { x = pos x; y = pos y; w = w; h = 1 }) s (with_row s (place s x y) w row)
filled_at s x y w row colour valid across down some len fits drawn = record {
  painted = record {
    width = refl;
    height = refl;
    writes = omega arith;
    all_writes = ap (λ n. risen s.all_writes n) (omega arith);
    spans_grow = omega arith;
    all_spans = ap (λ n. risen s.all_spans n) (omega arith);
    valid = IsScreen-with_row s (place s x y) w row valid fits;
    pixels = line_pixels s x y w row colour valid across down len drawn;
  };
  spans = omega arith;
}

line_is : (line : Rect) (x y : ℕ) → pos x ≡ line.x → pos y ≡ line.y → line.h ≡ 1 → record { x = pos x; y = pos y; w = line.w; h = 1 } ≡ line
line_is line x y across down one =
    ap (λ (p : ℤ). record { x = p; y = pos y; w = line.w; h = 1 }) across
    ∙ ap (λ (p : ℤ). record { x = line.x; y = p; w = line.w; h = 1 }) down
    ∙ ap (λ n. record { x = line.x; y = line.y; w = line.w; h = n }) (sym one)

-- a line that was lent and written
pub Filled-line : (s : Screen) (line : Rect) (x y : ℕ) (row : List ℕ) (colour : ℤ → ℤ → ℕ) → IsScreen s → IsEnclosed line (screen_of s.width s.height) → pos x ≡ line.x → pos y ≡ line.y → line.h ≡ 1 → 0 < line.w → length row ≡ line.w → s.writes + line.w < 2 ^ 32 → ((i : ℕ) → i < length row → get_or row i 0 ≡ colour (line.x +ℤ pos i) line.y) → Filled colour line s (with_row s (place s x y) line.w row)
Filled-line s line x y row colour valid within across down one some len fits drawn =
    let right : x + line.w ≤ s.width = omega (arith, ints, within.right, across) in
    let low : y < s.height = omega (arith, ints, within.lower, down, one) in
    let here = λ (i : ℕ) (l : i < length row). drawn i l ∙ ap (λ (p : ℤ). colour (p +ℤ pos i) line.y) (sym across) ∙ ap (λ (p : ℤ). colour (pos x +ℤ pos i) p) (sym down) in
    subst (λ (r : Rect). Filled colour r s (with_row s (place s x y) line.w row)) (line_is line x y across down one) (filled_at s x y line.w row colour valid right low some len fits here)

-- one line more
pub Painted-line : (piece : Rect) (k : ℕ) (colour : ℤ → ℤ → ℕ) (old mid new : Screen) → Painted (in_rect (upper_rows piece k)) colour (piece.w * k) old mid → Painted (in_rect (row_at piece k)) colour (piece.w * 1) mid new → Painted (in_rect (upper_rows piece (k + 1))) colour (piece.w * (k + 1)) old new
Painted-line piece k colour old mid new a b =
    let count : piece.w * k + piece.w * 1 ≡ piece.w * (k + 1) = grind arith in
    subst (λ n. Painted (in_rect (upper_rows piece (k + 1))) colour n old new) count
    (Painted-then (in_rect (upper_rows piece k)) (in_rect (row_at piece k)) (in_rect (upper_rows piece (k + 1))) colour (piece.w * k) (piece.w * 1) old mid new a b (in_rect-upper_rows_more piece k))

-- a row of a piece is on it
pub row_in_piece : (piece : Rect) (k : ℕ) → k < piece.h → IsEnclosed (row_at piece k) piece
row_in_piece piece k within = record { left = omega (arith, ints); right = omega (arith, ints); upper = omega (arith, ints); lower = omega (arith, ints) }

pub IsEnclosed-trans : (a b c : Rect) → IsEnclosed a b → IsEnclosed b c → IsEnclosed a c
IsEnclosed-trans a b c p q = record {
  left = omega (arith, ints, p.left, q.left);
  right = omega (arith, ints, p.right, q.right);
  upper = omega (arith, ints, p.upper, q.upper);
  lower = omega (arith, ints, p.lower, q.lower);
}

-- a piece on a screen is within the limit of coordinates
pub IsInRange-on_screen : (piece : Rect) (s : Screen) → IsScreen s → IsEnclosed piece (screen_of s.width s.height) → IsInRange piece
IsInRange-on_screen piece s valid within =
    IsInRange-from_enclosed piece (screen_of s.width s.height) within (IsInRange-screen s.width s.height (omega (arith, valid.greatest_width)) (omega (arith, valid.greatest_height)))

-- what is inside an area that holds the whole
pub inside_of : (layers : Layers) (under : Option ℕ) (inner outer : Rect) → IsInside inner outer → IfSome under (λ id. IsInside outer (layers.rect id)) → IfSome under (λ id. IsInside inner (layers.rect id))
inside_of layers None inner outer within h = tt
inside_of layers (Some id) inner outer within h = λ x y e. h x y (within x y e)

-- a row of the piece needs no more room than what is left
pub rows_left : (w k h : ℕ) → k < h → w * k + w ≤ w * h
rows_left w k h within = let more : k + 1 ≤ h = omega arith in omega (arith, mul-le-mul_left w more)

no_rows : (piece : Rect) (x y : ℤ) → in_rect (upper_rows piece 0) x y ≡ false
no_rows piece x y = in_rect-empty (upper_rows piece 0) x y (omega arith)

-- before the first row
pub Painted-no_rows : (piece : Rect) (colour : ℤ → ℤ → ℕ) (s : Screen) → IsScreen s → Painted (in_rect (upper_rows piece 0)) colour (piece.w * 0) s s
Painted-no_rows piece colour s valid =
    let zero_count : 0 ≡ piece.w * 0 = omega arith in
    subst (λ n. Painted (in_rect (upper_rows piece 0)) colour n s s) zero_count (Painted-none (in_rect (upper_rows piece 0)) colour s valid (no_rows piece))
