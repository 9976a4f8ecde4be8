-- A band of a film as three runs: the pixels of each by their numbers, and no pixel in two of them.
use Rattle.std.proofs.Common.{◌≡◌, ◌≢◌, ℕ, ◌+◌, ◌-◌, ◌*◌, ◌<◌, ◌≤◌, min, ℤ, pos, ◌+ℤ◌, ◌-ℤ◌, ◌≤ℤ◌, ◌<ℤ◌, unsigned_abs, Bool, true, false, cond, ◌&&◌, ◌||◌, nat_le, nat_lt, nat_eq, inl, inr, refl, sym, ap, subst, ◌∙◌, arith}
use Rattle.std.proofs.Math.Nat.{mul-le-mul_left, mul-le-mul_right}
use Rattle.std.proofs.lemmas.Bool.{cases_lt, cases_order, eqb-true, false≢true, and_parts, and_from}
use Rattle.std.proofs.lemmas.Bool.Decides.{nat_tests}
use Rattle.std.proofs.lemmas.Int.{ints}
use Rattle.std.proofs.lemmas.Nat.{mul-add-lt}
use Rattle.geom_core.specs.declared.rectangle.Rect.{Rect}
use Rattle.geom_core.specs.Rect.{in_span, in_rect}
use Rattle.geom_core.proofs.SpanLemmas.{in_span-true}
use Rattle.geom_core.proofs.RectLemmas.{in_span-zero}
use Rattle.vscreen_core.specs.declared.band.Band.{Band}
use Rattle.vscreen_core.specs.Band.{has_pixel}
use Rattle.scene_model.specs.Bands.{in_band}
use Rattle.painter_core.specs.Runs.{AreRuns, first_end, last_end, part_of}

-- A pixel's number is below another's exactly where its row is above, or in the same row its column is left of it.
number_before : (w u v c r : ℕ) → u < w → c < w → nat_lt (v * w + u) (r * w + c) ≡ (nat_lt v r || (nat_eq v r && nat_lt u c))
number_before w u v c r l k = elim (cases_order v r) [
  | inl same ↦ let p = ap (λ n. n * w) same in grind (arith, nat_tests)
  | inr other ↦ elim other [
    | inl above ↦ let p = mul-le-mul_right w above in grind (arith, nat_tests)
    | inr below ↦ let p = mul-le-mul_right w below in grind (arith, nat_tests)
  ]
]

number_from : (w u v c r : ℕ) → u < w → c < w → nat_le (r * w + c) (v * w + u) ≡ (nat_lt r v || (nat_eq v r && nat_le c u))
number_from w u v c r l k = elim (cases_order v r) [
  | inl same ↦ let p = ap (λ n. n * w) same in grind (arith, nat_tests)
  | inr other ↦ elim other [
    | inl above ↦ let p = mul-le-mul_right w above in grind (arith, nat_tests)
    | inr below ↦ let p = mul-le-mul_right w below in grind (arith, nat_tests)
  ]
]

-- the columns and the row of a run, at a pixel of the film
abbrev in_run : ℕ → ℕ → ℕ → ℕ → ℕ → ℕ → Bool
in_run from len row rows u v = (nat_le from u && nat_lt u (from + len)) && (nat_le row v && nat_lt v (row + rows))

one_row_bits : (w u v row start end : ℕ) → u < w → start ≤ end → ((nat_lt row v || (nat_eq v row && nat_le start u)) && (nat_lt v row || (nat_eq v row && nat_lt u end))) ≡ ((in_run start (end - start) row 1 u v || in_run 0 w (row + 1) (row - (row + 1)) u v) || in_run 0 0 row 1 u v)
one_row_bits w u v row start end l k = grind (arith, nat_tests)

rows_bits : (w u v upper start lower end : ℕ) → u < w → start < w → upper < lower → ((nat_lt upper v || (nat_eq v upper && nat_le start u)) && (nat_lt v lower || (nat_eq v lower && nat_lt u end))) ≡ ((in_run start (w - start) upper 1 u v || in_run 0 w (upper + 1) (lower - (upper + 1)) u v) || in_run 0 end lower 1 u v)
rows_bits w u v upper start lower end l s k = grind (arith, nat_tests)

rows_apart : (w upper start lower end : ℕ) → end < w → upper * w + start ≤ lower * w + end → nat_eq upper lower ≡ false → upper < lower
rows_apart w upper start lower end l le e = elim (cases_lt upper lower) [
  | inl h ↦ h
  | inr h ↦
      let other : lower ≢ upper = grind (arith, nat_tests) in
      let more : lower + 1 ≤ upper = omega arith in
      omega (arith, mul-le-mul_right w more)
]

-- the runs at a pixel of the film
runs_at : (w u v upper start lower end : ℕ) → u < w → start < w → end < w → upper * w + start ≤ lower * w + end → (b : Bool) → nat_eq upper lower ≡ b → (nat_le (upper * w + start) (v * w + u) && nat_lt (v * w + u) (lower * w + end)) ≡ ((in_run start (cond b end w - start) upper 1 u v || in_run 0 w (upper + 1) (lower - (upper + 1)) u v) || in_run 0 (cond b 0 end) lower 1 u v)
runs_at w u v upper start lower end l s k le true e =
    let same = eqb-true upper lower e in
    let rows = ap (λ n. n * w) same in
    let ordered : start ≤ end = omega (arith, rows, le) in
    ap (λ (t : Bool). t && nat_lt (v * w + u) (lower * w + end)) (number_from w u v start upper l s)
    ∙ ap (λ (t : Bool). (nat_lt upper v || (nat_eq v upper && nat_le start u)) && t) (number_before w u v end lower l k)
    ∙ ap (λ n. (nat_lt upper v || (nat_eq v upper && nat_le start u)) && (nat_lt v n || (nat_eq v n && nat_lt u end))) (sym same)
    ∙ one_row_bits w u v upper start end l ordered
    ∙ ap (λ n. (in_run start (end - start) upper 1 u v || in_run 0 w (upper + 1) (n - (upper + 1)) u v) || in_run 0 0 n 1 u v) same
runs_at w u v upper start lower end l s k le false e =
    ap (λ (t : Bool). t && nat_lt (v * w + u) (lower * w + end)) (number_from w u v start upper l s)
    ∙ ap (λ (t : Bool). (nat_lt upper v || (nat_eq v upper && nat_le start u)) && t) (number_before w u v end lower l k)
    ∙ rows_bits w u v upper start lower end l s (rows_apart w upper start lower end k le e)

-- a span at an integer so far behind where a wider one begins
span_at : (from : ℤ) (k len u : ℕ) → in_span (from +ℤ pos k) len (from +ℤ pos u) ≡ (nat_le k u && nat_lt u (k + len))
span_at from k len u = grind (arith, ints, nat_tests)

run_at_pixel : (film : Rect) (from len row rows u v : ℕ) → in_rect (part_of film from row len rows) (film.x +ℤ pos u) (film.y +ℤ pos v) ≡ in_run from len row rows u v
run_at_pixel film from len row rows u v =
    ap (λ (t : Bool). t && in_span (film.y +ℤ pos row) rows (film.y +ℤ pos v)) (span_at film.x from len u)
    ∙ ap (λ (t : Bool). (nat_le from u && nat_lt u (from + len)) && t) (span_at film.y row rows v)

-- a row that the band reaches is one of the film's
row_within : (w h row end : ℕ) → row * w + end ≤ w * h → 0 < end → row < h
row_within w h row end le some = elim (cases_lt row h) [
  | inl l ↦ l
  | inr l ↦ let more = mul-le-mul_left w l in omega (arith, more, le)
]

-- its rows end within the film's
rows_high : (w h row end : ℕ) → end < w → row * w + end ≤ w * h → row ≤ h
rows_high w h row end l le = elim (cases_lt h row) [
  | inl more ↦ let next : h + 1 ≤ row = omega (arith, more) in let m = mul-le-mul_left w next in omega (arith, m, le, l)
  | inr r ↦ omega (arith, r)
]

span_from : (from : ℤ) (len : ℕ) (p : ℤ) → from ≤ℤ p → p <ℤ (from +ℤ pos len) → in_span from len p ≡ true
span_from from len p low high = grind (arith, ints)

-- the three runs
abbrev pub first_run : Rect → ℕ → ℕ → ℕ → ℕ → Rect
first_run film upper start lower end = part_of film start upper (first_end upper lower end film.w - start) 1

abbrev pub middle_run : Rect → ℕ → ℕ → Rect
middle_run film upper lower = part_of film 0 (upper + 1) film.w (lower - (upper + 1))

abbrev pub last_run : Rect → ℕ → ℕ → ℕ → Rect
last_run film upper lower end = part_of film 0 lower (last_end upper lower end) 1

abbrev any_run : Rect → ℕ → ℕ → ℕ → ℕ → ℤ → ℤ → Bool
any_run film upper start lower end x y =
    (in_rect (first_run film upper start lower end) x y || in_rect (middle_run film upper lower) x y) || in_rect (last_run film upper lower end) x y

-- what holds of where a band begins and ends
pub record IsBandAt (film : Rect) (band : Band) (upper start lower end : ℕ) : Type 0 where
  pub from : band.from ≡ upper * film.w + start
  pub to : band.to ≡ lower * film.w + end
  pub start_within : start < film.w
  pub end_within : end < film.w
  pub order : band.from ≤ band.to
  pub within : band.to ≤ film.w * film.h

-- the runs at a pixel of the film, by its column and row
runs_there : (film : Rect) (band : Band) (upper start lower end u v : ℕ) → IsBandAt film band upper start lower end → u < film.w → has_pixel band (v * film.w + u) ≡ any_run film upper start lower end (film.x +ℤ pos u) (film.y +ℤ pos v)
unfolding has_pixel
runs_there film band upper start lower end u v h l =
    let w = film.w in
    let le : upper * w + start ≤ lower * w + end = omega (arith, h.order, h.from, h.to) in
    let fe = first_end upper lower end w in
    let ld = last_end upper lower end in
    let x = film.x +ℤ pos u in
    let y = film.y +ℤ pos v in
    let first = run_at_pixel film start (fe - start) upper 1 u v in
    let middle = run_at_pixel film 0 w (upper + 1) (lower - (upper + 1)) u v in
    let last = run_at_pixel film 0 ld lower 1 u v in
    ap (λ n. nat_le n (v * w + u) && nat_lt (v * w + u) band.to) h.from
    ∙ ap (λ n. nat_le (upper * w + start) (v * w + u) && nat_lt (v * w + u) n) h.to
    ∙ runs_at w u v upper start lower end l h.start_within h.end_within le (nat_eq upper lower) refl
    ∙ ap (λ (t : Bool). (t || in_run 0 w (upper + 1) (lower - (upper + 1)) u v) || in_run 0 ld lower 1 u v) (sym first)
    ∙ ap (λ (t : Bool). (in_rect (first_run film upper start lower end) x y || t) || in_run 0 ld lower 1 u v) (sym middle)
    ∙ ap (λ (t : Bool). (in_rect (first_run film upper start lower end) x y || in_rect (middle_run film upper lower) x y) || t) (sym last)

-- a run is on the film
first_inside : (film : Rect) (band : Band) (upper start lower end : ℕ) (x y : ℤ) → IsBandAt film band upper start lower end → in_rect (first_run film upper start lower end) x y ≡ true → in_rect film x y ≡ true
first_inside film band upper start lower end x y h e = by (nat_eq upper lower) refl
  where
    by : (b : Bool) → nat_eq upper lower ≡ b → in_rect film x y ≡ true
    by true q =
        let s = and_parts (in_span (film.x +ℤ pos start) (first_end upper lower end film.w - start) x) (in_span (film.y +ℤ pos upper) 1 y) e in
        let len = ap (λ (t : Bool). cond t end film.w - start) q in
        let across = in_span-true (film.x +ℤ pos start) (first_end upper lower end film.w - start) x s.0 in
        let down = in_span-true (film.y +ℤ pos upper) 1 y s.1 in
        let some : start < end = omega (arith, ints, across.0, across.1, len) in
        let row = row_within film.w film.h lower end (omega (arith, h.to, h.within)) (omega (arith, some)) in
        let same = eqb-true upper lower q in
        and_from _ _ (span_from film.x film.w x (omega (arith, ints, across.0)) (omega (arith, ints, across.0, across.1, len, h.end_within)))
        (span_from film.y film.h y (omega (arith, ints, down.0)) (omega (arith, ints, down.1, row, same)))
    by false q =
        let s = and_parts (in_span (film.x +ℤ pos start) (first_end upper lower end film.w - start) x) (in_span (film.y +ℤ pos upper) 1 y) e in
        let len = ap (λ (t : Bool). cond t end film.w - start) q in
        let across = in_span-true (film.x +ℤ pos start) (first_end upper lower end film.w - start) x s.0 in
        let down = in_span-true (film.y +ℤ pos upper) 1 y s.1 in
        let apart = rows_apart film.w upper start lower end h.end_within (omega (arith, h.order, h.from, h.to)) q in
        let row = rows_high film.w film.h lower end h.end_within (omega (arith, h.to, h.within)) in
        and_from _ _ (span_from film.x film.w x (omega (arith, ints, across.0)) (omega (arith, ints, across.0, across.1, len, h.start_within)))
        (span_from film.y film.h y (omega (arith, ints, down.0)) (omega (arith, ints, down.1, row, apart)))

middle_inside : (film : Rect) (band : Band) (upper start lower end : ℕ) (x y : ℤ) → IsBandAt film band upper start lower end → in_rect (middle_run film upper lower) x y ≡ true → in_rect film x y ≡ true
middle_inside film band upper start lower end x y h e =
    let s = and_parts (in_span (film.x +ℤ pos 0) film.w x) (in_span (film.y +ℤ pos (upper + 1)) (lower - (upper + 1)) y) e in
    let across = in_span-true (film.x +ℤ pos 0) film.w x s.0 in
    let down = in_span-true (film.y +ℤ pos (upper + 1)) (lower - (upper + 1)) y s.1 in
    let row = rows_high film.w film.h lower end h.end_within (omega (arith, h.to, h.within)) in
    and_from _ _ (span_from film.x film.w x (omega (arith, ints, across.0)) (omega (arith, ints, across.1)))
    (span_from film.y film.h y (omega (arith, ints, down.0)) (omega (arith, ints, down.0, down.1, row)))

last_len : (upper lower end : ℕ) (b : Bool) → nat_eq upper lower ≡ b → last_end upper lower end ≤ end
last_len upper lower end true e = let len = ap (λ (t : Bool). cond t 0 end) e in omega (arith, len)
last_len upper lower end false e = let len = ap (λ (t : Bool). cond t 0 end) e in omega (arith, len)

last_inside : (film : Rect) (band : Band) (upper start lower end : ℕ) (x y : ℤ) → IsBandAt film band upper start lower end → in_rect (last_run film upper lower end) x y ≡ true → in_rect film x y ≡ true
last_inside film band upper start lower end x y h e =
    let s = and_parts (in_span (film.x +ℤ pos 0) (last_end upper lower end) x) (in_span (film.y +ℤ pos lower) 1 y) e in
    let across = in_span-true (film.x +ℤ pos 0) (last_end upper lower end) x s.0 in
    let down = in_span-true (film.y +ℤ pos lower) 1 y s.1 in
    let len = last_len upper lower end (nat_eq upper lower) refl in
    let some : 0 < end = omega (arith, ints, across.0, across.1, len) in
    let row = row_within film.w film.h lower end (omega (arith, h.to, h.within)) some in
    and_from _ _ (span_from film.x film.w x (omega (arith, ints, across.0)) (omega (arith, ints, across.1, len, h.end_within)))
    (span_from film.y film.h y (omega (arith, ints, down.0)) (omega (arith, ints, down.1, row)))

none_of : (t a b c : Bool) → t ≡ false → (a ≡ true → t ≡ true) → (b ≡ true → t ≡ true) → (c ≡ true → t ≡ true) → false ≡ ((a || b) || c)
none_of t true b c e f g h = absurd (false≢true (sym e ∙ f refl))
none_of t false true c e f g h = absurd (false≢true (sym e ∙ g refl))
none_of t false false true e f g h = absurd (false≢true (sym e ∙ h refl))
none_of t false false false e f g h = refl

-- an integer in a span is so far behind its begin
behind : (from : ℤ) (len : ℕ) (p : ℤ) → in_span from len p ≡ true → (p ≡ from +ℤ pos (unsigned_abs (p -ℤ from))) × (unsigned_abs (p -ℤ from) < len)
behind from len p e =
    let s = in_span-true from len p e in
    (omega (arith, ints, s.0), omega (arith, ints, s.0, s.1))

runs_pixels : (film : Rect) (band : Band) (upper start lower end : ℕ) (x y : ℤ) → IsBandAt film band upper start lower end → in_band film band x y ≡ any_run film upper start lower end x y
unfolding in_band
runs_pixels film band upper start lower end x y h = by (in_rect film x y) refl
  where
    number : ℕ
    number = unsigned_abs (y -ℤ film.y) * film.w + unsigned_abs (x -ℤ film.x)

    by : (b : Bool) → in_rect film x y ≡ b → in_band film band x y ≡ any_run film upper start lower end x y
    by true e =
        let s = and_parts (in_span film.x film.w x) (in_span film.y film.h y) e in
        let across = behind film.x film.w x s.0 in
        let down = behind film.y film.h y s.1 in
        ap (λ (t : Bool). t && has_pixel band number) e
        ∙ runs_there film band upper start lower end (unsigned_abs (x -ℤ film.x)) (unsigned_abs (y -ℤ film.y)) h across.1
        ∙ ap (λ (p : ℤ). any_run film upper start lower end p (film.y +ℤ pos (unsigned_abs (y -ℤ film.y)))) (sym across.0)
        ∙ ap (λ (p : ℤ). any_run film upper start lower end x p) (sym down.0)
    by false e =
        ap (λ (t : Bool). t && has_pixel band number) e
        ∙ none_of (in_rect film x y) (in_rect (first_run film upper start lower end) x y) (in_rect (middle_run film upper lower) x y) (in_rect (last_run film upper lower end) x y) e
        (first_inside film band upper start lower end x y h) (middle_inside film band upper start lower end x y h) (last_inside film band upper start lower end x y h)

-- no pixel is in two runs
spans_apart : (a b c d : Bool) → (b && d) ≡ false → ((a && b) && (c && d)) ≡ false
spans_apart a b c d e = grind arith

or_apart : (a b c : Bool) → (a && c) ≡ false → (b && c) ≡ false → ((a || b) && c) ≡ false
or_apart a b c e f = grind arith

rows_first_middle : (from : ℤ) (upper lower : ℕ) (p : ℤ) → (in_span (from +ℤ pos upper) 1 p && in_span (from +ℤ pos (upper + 1)) (lower - (upper + 1)) p) ≡ false
rows_first_middle from upper lower p = grind (arith, ints)

upper_apart : (film : Rect) (upper start lower end : ℕ) (x y : ℤ) → (in_rect (first_run film upper start lower end) x y && in_rect (middle_run film upper lower) x y) ≡ false
upper_apart film upper start lower end x y =
    spans_apart (in_span (film.x +ℤ pos start) (first_end upper lower end film.w - start) x) (in_span (film.y +ℤ pos upper) 1 y) (in_span (film.x +ℤ pos 0) film.w x) (in_span (film.y +ℤ pos (upper + 1)) (lower - (upper + 1)) y)
    (rows_first_middle film.y upper lower y)

nothing_in : (from : ℤ) (len : ℕ) (p : ℤ) (other : Bool) → len ≡ 0 → (in_span from len p && other) ≡ false
nothing_in from len p other e = ap (λ n. in_span from n p && other) e ∙ ap (λ (t : Bool). t && other) (in_span-zero from p)

and_none : (a b : Bool) → b ≡ false → (a && b) ≡ false
and_none true b e = e
and_none false b e = refl

rows_first_last : (from : ℤ) (upper lower : ℕ) (p : ℤ) → upper < lower → (in_span (from +ℤ pos upper) 1 p && in_span (from +ℤ pos lower) 1 p) ≡ false
rows_first_last from upper lower p l = grind (arith, ints)

rows_middle_last : (from : ℤ) (upper lower : ℕ) (p : ℤ) → upper < lower → (in_span (from +ℤ pos (upper + 1)) (lower - (upper + 1)) p && in_span (from +ℤ pos lower) 1 p) ≡ false
rows_middle_last from upper lower p l = grind (arith, ints)

lower_apart : (film : Rect) (band : Band) (upper start lower end : ℕ) (x y : ℤ) → IsBandAt film band upper start lower end → ((in_rect (first_run film upper start lower end) x y || in_rect (middle_run film upper lower) x y) && in_rect (last_run film upper lower end) x y) ≡ false
lower_apart film band upper start lower end x y h = by (nat_eq upper lower) refl
  where
    by : (b : Bool) → nat_eq upper lower ≡ b → ((in_rect (first_run film upper start lower end) x y || in_rect (middle_run film upper lower) x y) && in_rect (last_run film upper lower end) x y) ≡ false
    by true e = and_none (in_rect (first_run film upper start lower end) x y || in_rect (middle_run film upper lower) x y) (in_rect (last_run film upper lower end) x y) (nothing_in (film.x +ℤ pos 0) (last_end upper lower end) x (in_span (film.y +ℤ pos lower) 1 y) (ap (λ (t : Bool). cond t 0 end) e))
    by false e =
        let apart = rows_apart film.w upper start lower end h.end_within (omega (arith, h.order, h.from, h.to)) e in
        or_apart (in_rect (first_run film upper start lower end) x y) (in_rect (middle_run film upper lower) x y) (in_rect (last_run film upper lower end) x y)
        (spans_apart (in_span (film.x +ℤ pos start) (first_end upper lower end film.w - start) x) (in_span (film.y +ℤ pos upper) 1 y) (in_span (film.x +ℤ pos 0) (last_end upper lower end) x) (in_span (film.y +ℤ pos lower) 1 y) (rows_first_last film.y upper lower y apart))
        (spans_apart (in_span (film.x +ℤ pos 0) film.w x) (in_span (film.y +ℤ pos (upper + 1)) (lower - (upper + 1)) y) (in_span (film.x +ℤ pos 0) (last_end upper lower end) x) (in_span (film.y +ℤ pos lower) 1 y) (rows_middle_last film.y upper lower y apart))

pub AreRuns-band : (film : Rect) (band : Band) (upper start lower end : ℕ) → IsBandAt film band upper start lower end → AreRuns film band (first_run film upper start lower end) (middle_run film upper lower) (last_run film upper lower end)
AreRuns-band film band upper start lower end h = record {
  pixels = λ x y. runs_pixels film band upper start lower end x y h;
  upper_apart = λ x y. upper_apart film upper start lower end x y;
  lower_apart = λ x y. lower_apart film band upper start lower end x y h;
}

-- the same runs, each given in other words
pub AreRuns-same : (film : Rect) (band : Band) (first middle last a b c : Rect) → first ≡ a → middle ≡ b → last ≡ c → AreRuns film band a b c → AreRuns film band first middle last
AreRuns-same film band first middle last a b c e f g runs =
    subst (λ (r : Rect). AreRuns film band r middle last) (sym e)
    (subst (λ (r : Rect). AreRuns film band a r last) (sym f)
    (subst (λ (r : Rect). AreRuns film band a b r) (sym g) runs))

clip_bits : (from to most n : ℕ) → n < most → (nat_le (min from (min to most)) n && nat_lt n (min to most)) ≡ (nat_le from n && nat_lt n to)
clip_bits from to most n l = grind (arith, nat_tests)

-- numbers that the film has no pixel for change nothing
pub in_band-clipped : (film : Rect) (band : Band) (x y : ℤ) → in_band film (record { from = min band.from (min band.to (film.w * film.h)); to = min band.to (film.w * film.h) }) x y ≡ in_band film band x y
unfolding in_band has_pixel
in_band-clipped film band x y = by (in_rect film x y) refl
  where
    number : ℕ
    number = unsigned_abs (y -ℤ film.y) * film.w + unsigned_abs (x -ℤ film.x)

    clip : Band
    clip = record { from = min band.from (min band.to (film.w * film.h)); to = min band.to (film.w * film.h) }

    by : (b : Bool) → in_rect film x y ≡ b → in_band film clip x y ≡ in_band film band x y
    by true e =
        let s = and_parts (in_span film.x film.w x) (in_span film.y film.h y) e in
        let across = behind film.x film.w x s.0 in
        let down = behind film.y film.h y s.1 in
        let within : number < film.w * film.h = mul-add-lt (unsigned_abs (y -ℤ film.y)) film.w (unsigned_abs (x -ℤ film.x)) film.h down.1 across.1 in
        ap (λ (t : Bool). in_rect film x y && t) (clip_bits band.from band.to (film.w * film.h) number within)
    by false e = ap (λ (t : Bool). t && has_pixel clip number) e ∙ sym (ap (λ (t : Bool). t && has_pixel band number) e)
