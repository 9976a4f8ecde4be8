-- The laws of a period: which pixel is drawn when, and from which frame.
use Rattle.std.proofs.Common.{◌≡◌, ℕ, ◌+◌, ◌-◌, ◌*◌, ◌%◌, ◌<◌, ◌≤◌, Bool, ◌&&◌, nat_le, nat_lt, nat_eq, cond, List, [], ◌∷◌, length, take, refl, sym, ap, ◌∙◌, subst, ◌⊎◌, inl, inr, arith}
use Rattle.std.proofs.lemmas.Bool.{cond_both}
use Rattle.std.proofs.lemmas.Bool.Decides.{nat_tests}
use Rattle.std.proofs.lemmas.List.Sums.{sum_by-cons}
use Rattle.std.proofs.lemmas.List.{take_all}
use Rattle.std.proofs.Math.Nat.{mod-eq_of_lt, mod_self, eq-or-lt_of_le}
use Rattle.vscreen_core.specs.Band.{band_size, band_start, band_at, has_pixel, share_of}
use Rattle.vscreen_core.specs.Changes.{committed, beaten, band_now, frame_now, band_drawn}
use Rattle.vscreen_core.specs.FilmState.{FilmState, IsFilm, pixels_in}
use Rattle.vscreen_core.specs.Laws.{StartsPeriod, times_drawn, EachPixelOnce, PixelsOfOneFrame, WholeFrameShown, OnlyTheBand, BandWithinShare, BandWasDrawn, CommitWaits}
use Rattle.vscreen_core.specs.Period.{FilmStep, after, beats_in, bands_in, IsDrawn}
use Rattle.vscreen_core.specs.Period.FilmStep.{Commit, Beat}
use Rattle.vscreen_core.specs.Picture.{pixel_of, with_pixels}
use Rattle.vscreen_core.proofs.Bands.{all_pixels, band_few, band_start-zero, band_start-all, band_start-le, band_start-order}
use Rattle.vscreen_core.proofs.Films.{band_fits, IsFilm-committed, IsFilm-beaten, length-frame_now}
use Rattle.vscreen_core.proofs.Pictures.{take-with_pixels, same_pixels, get_or-with_pixels_in, get_or-with_pixels_before, get_or-with_pixels_after}

-- the numbers from a up to b
abbrev pub between : ℕ → ℕ → ℕ → Bool
between a b i = nat_le a i && nat_lt i b

-- what a test counts for
abbrev pub once : Bool → ℕ
once b = cond b 1 0

-- a band has the pixels that its phase has, as far as there are any
has_pixel-band_at : (n p k i : ℕ) → i < n → has_pixel (band_at n p k) i ≡ between (k * band_size n p) ((k + 1) * band_size n p) i
unfolding has_pixel band_at band_start
has_pixel-band_at n p k i low = grind (arith, nat_tests)

-- two runs that meet make one
count_joined : (a b c y : ℕ) → a ≤ b → b ≤ c → once (between a b y) + once (between b c y) ≡ once (between a c y)
count_joined a b c y ab bc = grind (arith, nat_tests)

count_none : (a y : ℕ) → 0 ≡ once (between a a y)
count_none a y = grind (arith, nat_tests)

-- what a committed frame leaves
pub record CommitKeeps (film next : FilmState) : Type 0 where
  pub width : next.width ≡ film.width
  pub height : next.height ≡ film.height
  pub period : next.period ≡ film.period
  pub phase : next.phase ≡ film.phase
  pub shown : next.shown ≡ film.shown
  pub current : next.current ≡ film.current

pub committed_keeps : (film : FilmState) (frame : List ℕ) → CommitKeeps film (committed film frame)
unfolding committed
committed_keeps film frame = cond_both (nat_eq (length frame) (pixels_in film)) (record film { newest = frame }) film (λ next. CommitKeeps film next)
    (λ _. record { width = refl; height = refl; period = refl; phase = refl; shown = refl; current = refl })
    (λ _. record { width = refl; height = refl; period = refl; phase = refl; shown = refl; current = refl })

pub commit_waits : CommitWaits
commit_waits film frame = let keeps = committed_keeps film frame in (keeps.shown, keeps.current, keeps.period, keeps.phase)

-- what a beat leaves
pub record BeatKeeps (film next : FilmState) : Type 0 where
  pub width : next.width ≡ film.width
  pub height : next.height ≡ film.height
  pub period : next.period ≡ film.period
  pub phase : next.phase ≡ (film.phase + 1) % film.period

pub beaten_keeps : (film : FilmState) → BeatKeeps film (beaten film)
unfolding beaten
beaten_keeps film = record { width = refl; height = refl; period = refl; phase = refl }

-- films of one size have as many pixels
same_size : (film next : FilmState) → next.width ≡ film.width → next.height ≡ film.height → pixels_in next ≡ pixels_in film
same_size film next ew eh = ap (λ x. x * next.height) ew ∙ ap (λ x. film.width * x) eh

has_pixel-band_now : (film : FilmState) (n p k i : ℕ) → pixels_in film ≡ n → film.period ≡ p → film.phase ≡ k → i < n → has_pixel (band_now film) i ≡ between (k * band_size n p) ((k + 1) * band_size n p) i
unfolding band_now
has_pixel-band_now film n p k i en ep ek low = rw (en, ep, ek) (has_pixel-band_at n p k i low)

-- beats from phase k on draw the pixels from k whole bands on, each once
pixels_counted : (steps : List FilmStep) (film : FilmState) (n p k i : ℕ) → pixels_in film ≡ n → film.period ≡ p → (k < p → film.phase ≡ k) → k + beats_in steps ≤ p → i < n →
    times_drawn film steps i ≡ once (between (k * band_size n p) ((k + beats_in steps) * band_size n p) i)
pixels_counted [] film n p k i en ep phase enough low =
    let whole : k ≡ k + 0 = omega arith in
    count_none (k * band_size n p) i ∙ ap (λ m. once (between (k * band_size n p) (m * band_size n p) i)) whole
pixels_counted (Commit frame ∷ steps) film n p k i en ep phase enough low =
    let keeps = committed_keeps film frame in
    pixels_counted steps (committed film frame) n p k i (same_size film (committed film frame) keeps.width keeps.height ∙ en) (keeps.period ∙ ep) (λ early. keeps.phase ∙ phase early) enough low
pixels_counted (Beat ∷ steps) film n p k i en ep phase enough low =
    let s = band_size n p in
    let m = beats_in steps in
    let keeps = beaten_keeps film in
    let here : film.phase ≡ k = phase (omega arith) in
    let next : (beaten film).phase ≡ (k + 1) % p = keeps.phase ∙ ap (λ x. (x + 1) % film.period) here ∙ ap (λ x. (k + 1) % x) ep in
    let rest = pixels_counted steps (beaten film) n p (k + 1) i (same_size film (beaten film) keeps.width keeps.height ∙ en) (keeps.period ∙ ep) (λ early. next ∙ mod-eq_of_lt early) (omega arith) low in
    let first : times_drawn film (Beat ∷ steps) i ≡ once (has_pixel (band_now film) i) + times_drawn (beaten film) steps i = sum_by-cons (λ band. once (has_pixel band i)) (band_now film) (bands_in (beaten film) steps) in
    let band = ap (λ b. once b) (has_pixel-band_now film n p k i en ep here low) in
    let joined = count_joined (k * s) ((k + 1) * s) ((k + 1 + m) * s) i (omega arith) (omega arith) in
    let turned : k + 1 + m ≡ k + (m + 1) = omega arith in
    first ∙ ap (λ x. x + times_drawn (beaten film) steps i) band ∙ ap (λ x. once (between (k * s) ((k + 1) * s) i) + x) rest ∙ joined ∙ ap (λ x. once (between (k * s) (x * s) i)) turned

count_one : (n i : ℕ) → i < n → once (between 0 n i) ≡ 1
count_one n i low = grind (arith, nat_tests)

below_counted : (n i : ℕ) → 0 < once (between 0 n i) → i < n
below_counted n i some = grind (arith, nat_tests)

pub each_pixel_once : EachPixelOnce
each_pixel_once film steps i starts whole low =
    let n = pixels_in film in
    let p = film.period in
    let s = band_size n p in
    let none : 0 * s ≡ 0 = omega arith in
    let counted = pixels_counted steps film n p 0 i refl refl (λ _. starts.start) (omega arith) low in
    let all : i < (0 + beats_in steps) * s = subst (λ m. i < (0 + m) * s) (sym whole) (omega (arith, all_pixels n p starts.admitted)) in
    counted ∙ ap (λ x. once (between x ((0 + beats_in steps) * s) i)) none ∙ count_one _ i all

-- the first beat of a period takes the newest frame, and each beat draws one band more of it
drawn_more : (film : FilmState) (frame : List ℕ) (k : ℕ) → IsFilm film → frame_now film ≡ frame → film.phase ≡ k →
    take (band_start (pixels_in film) film.period k) film.shown ≡ take (band_start (pixels_in film) film.period k) frame →
    IsDrawn frame (k + 1) (beaten film)
unfolding beaten band_now band_at
drawn_more film frame k f now here drawn =
    let n = pixels_in film in
    let p = film.period in
    let from = band_start n p k in
    let to = band_start n p (k + 1) in
    let order : from ≤ to = band_start-order n p k (k + 1) (omega arith) in
    let within : to ≤ n = band_start-le n p (k + 1) in
    let size = length-frame_now film f in
    let more : take to (with_pixels film.shown (frame_now film) from to) ≡ take to (frame_now film) =
    take-with_pixels film.shown (frame_now film) from to order (omega (arith, f.shown_size)) (omega arith) (drawn ∙ ap (take from) (sym now)) in
    record {
      current = now;
      phase = ap (λ x. (x + 1) % p) here;
      drawn = ap (λ x. take to (with_pixels film.shown (frame_now film) (band_start n p x) (band_start n p (x + 1)))) here ∙ more ∙ ap (take to) now;
    }

pub IsDrawn-first : (film : FilmState) → StartsPeriod film → IsDrawn film.newest 1 (beaten film)
unfolding frame_now
IsDrawn-first film starts =
    let none = band_start-zero (pixels_in film) film.period in
    drawn_more film film.newest 0 starts.valid (ap (λ x. cond (nat_eq x 0) film.newest film.current) starts.start) starts.start (ap (λ m. take m film.shown) none ∙ sym (ap (λ m. take m film.newest) none))

-- every later beat of the period draws from the same frame
pub frame_now-IsDrawn : (film : FilmState) (frame : List ℕ) (k : ℕ) → IsDrawn frame k film → 0 < k → k < film.period → frame_now film ≡ frame
unfolding frame_now
frame_now-IsDrawn film frame k drawn some early =
    let here : film.phase ≡ k = drawn.phase ∙ mod-eq_of_lt early in
    grind (arith, nat_tests, drawn.current)

pub IsDrawn-beaten : (film : FilmState) (frame : List ℕ) (k : ℕ) → IsFilm film → IsDrawn frame k film → 0 < k → k < film.period → IsDrawn frame (k + 1) (beaten film)
IsDrawn-beaten film frame k f drawn some early =
    drawn_more film frame k f (frame_now-IsDrawn film frame k drawn some early) (drawn.phase ∙ mod-eq_of_lt early) drawn.drawn

pub IsDrawn-committed : (film : FilmState) (frame next : List ℕ) (k : ℕ) → IsDrawn frame k film → IsDrawn frame k (committed film next)
unfolding committed
IsDrawn-committed film frame next k drawn = cond_both (nat_eq (length next) (pixels_in film)) (record film { newest = next }) film (λ x. IsDrawn frame k x) (λ _. record { current = drawn.current; phase = drawn.phase; drawn = drawn.drawn }) (λ _. drawn)

-- a whole period shows its frame
pub shown-IsDrawn : (film : FilmState) (frame : List ℕ) → IsFilm film → IsDrawn frame film.period film → 0 < film.period → film.shown ≡ frame
shown-IsDrawn film frame f drawn some =
    let size : length frame ≡ pixels_in film = ap length (sym drawn.current) ∙ f.current_size in
    let all = band_start-all (pixels_in film) film.period some in
    sym (take_all _ film.shown (omega arith)) ∙ drawn.drawn ∙ take_all _ frame (omega arith)

-- further steps of the period draw the same frame
pub record DrawsOn (frame : List ℕ) (k : ℕ) (film end : FilmState) : Type 0 where
  pub valid : IsFilm end
  pub width : end.width ≡ film.width
  pub height : end.height ≡ film.height
  pub period : end.period ≡ film.period
  pub drawn : IsDrawn frame k end

pub draws_on : (steps : List FilmStep) (film : FilmState) (frame : List ℕ) (k : ℕ) → IsFilm film → IsDrawn frame k film → 0 < k → k + beats_in steps ≤ film.period → DrawsOn frame (k + beats_in steps) film (after film steps)
draws_on [] film frame k f drawn some enough =
    record { valid = f; width = refl; height = refl; period = refl; drawn = subst (λ n. IsDrawn frame n film) (omega arith) drawn }
draws_on (Commit next ∷ steps) film frame k f drawn some enough =
    let keeps = committed_keeps film next in
    let rest = draws_on steps (committed film next) frame k (IsFilm-committed film next f) (IsDrawn-committed film frame next k drawn) some (omega arith) in
    record { valid = rest.valid; width = rest.width ∙ keeps.width; height = rest.height ∙ keeps.height; period = rest.period ∙ keeps.period; drawn = rest.drawn }
draws_on (Beat ∷ steps) film frame k f drawn some enough =
    let keeps = beaten_keeps film in
    let rest = draws_on steps (beaten film) frame (k + 1) (IsFilm-beaten film f (omega arith)) (IsDrawn-beaten film frame k f drawn some (omega arith)) (omega arith) (omega arith) in
    record { valid = rest.valid; width = rest.width ∙ keeps.width; height = rest.height ∙ keeps.height; period = rest.period ∙ keeps.period; drawn = subst (λ n. IsDrawn frame n (after (beaten film) steps)) (omega arith) rest.drawn }

-- a period that begins
pub draws_from_start : (film : FilmState) (steps : List FilmStep) → StartsPeriod film → beats_in steps < film.period → DrawsOn film.newest (1 + beats_in steps) film (after (beaten film) steps)
draws_from_start film steps starts early =
    let keeps = beaten_keeps film in
    let rest = draws_on steps (beaten film) film.newest 1 (IsFilm-beaten film starts.valid starts.admitted) (IsDrawn-first film starts) (omega arith) (omega arith) in
    record { valid = rest.valid; width = rest.width ∙ keeps.width; height = rest.height ∙ keeps.height; period = rest.period ∙ keeps.period; drawn = rest.drawn }

pub whole_frame_shown : WholeFrameShown
whole_frame_shown film steps starts whole =
    let end = after (beaten film) steps in
    let on = draws_from_start film steps starts (omega arith) in
    let last : 1 + beats_in steps ≡ end.period = omega (arith, on.period) in
    (shown-IsDrawn end film.newest on.valid (subst (λ n. IsDrawn film.newest n end) last on.drawn) (omega (arith, on.period, starts.admitted)), on.drawn.current)

pub pixels_of_one_frame : PixelsOfOneFrame
unfolding band_start
pixels_of_one_frame film steps i starts early low some =
    let n = pixels_in film in
    let p = film.period in
    let s = band_size n p in
    let m = 1 + beats_in steps in
    let end = after (beaten film) steps in
    let on = draws_from_start film steps starts (omega arith) in
    let none : 0 * s ≡ 0 = omega arith in
    let counted = pixels_counted (Beat ∷ steps) film n p 0 i refl refl (λ _. starts.start) (omega arith) low ∙ ap (λ x. once (between x ((0 + beats_in (Beat ∷ steps)) * s) i)) none in
    let above : i < (0 + (beats_in steps + 1)) * s = below_counted _ i (subst (λ x. 0 < x) counted some) in
    let same : band_start (pixels_in end) end.period m ≡ band_start n p m =
    ap (λ x. band_start x end.period m) (same_size film end on.width on.height) ∙ ap (λ x. band_start n x m) on.period in
    let within : i < band_start (pixels_in end) end.period m = subst (λ x. i < x) (sym same) (omega arith) in
    same_pixels i _ end.shown film.newest within on.drawn.drawn

pub only_the_band : OnlyTheBand
unfolding beaten has_pixel
only_the_band film i f low =
    let band = band_now film in
    let frame = frame_now film in
    let fits = band_fits film in
    let size = length-frame_now film f in
    let old_size = f.shown_size in
    cond_both (nat_le band.from i && nat_lt i band.to) (pixel_of frame i) (pixel_of film.shown i)
    (λ pixel. pixel_of (with_pixels film.shown frame band.from band.to) i ≡ pixel)
    (λ e. let low_in : (band.from ≤ i) × (i < band.to) = grind (arith, nat_tests) in get_or-with_pixels_in film.shown frame band.from band.to i low_in.0 low_in.1 (omega arith) (omega arith))
    (λ e. let out : (i < band.from) ⊎ (band.to ≤ i) = grind (arith, nat_tests) in
    elim out [ inl before ↦ get_or-with_pixels_before film.shown frame band.from band.to i before (omega arith) | inr past ↦ get_or-with_pixels_after film.shown frame band.from band.to i fits.0 past (omega arith) (omega arith) ])

pub band_within_share : BandWithinShare
unfolding share_of band_now
band_within_share film = band_few (pixels_in film) film.period film.phase

-- the phase before the next one, round the period, is this one
phase_back : (k p : ℕ) → k < p → cond (nat_eq ((k + 1) % p) 0) (p - 1) ((k + 1) % p - 1) ≡ k
phase_back k p early =
    elim (eq-or-lt_of_le early) [
      | inl last ↦ let there : k + 1 ≡ p = omega (arith, last) in
          let round : (k + 1) % p ≡ 0 = ap (λ x. x % p) there ∙ mod_self p in
          ap (λ x. cond (nat_eq x 0) (p - 1) (x - 1)) round ∙ omega (arith, last)
      | inr more ↦ let low : k + 1 < p = omega (arith, more) in
          let same : (k + 1) % p ≡ k + 1 = mod-eq_of_lt low in
          let back : cond (nat_eq (k + 1) 0) (p - 1) (k + 1 - 1) ≡ k = grind (arith, nat_tests) in
          ap (λ x. cond (nat_eq x 0) (p - 1) (x - 1)) same ∙ back
    ]

pub band_was_drawn : BandWasDrawn
unfolding band_drawn band_now beaten
band_was_drawn film f some = ap (band_at (pixels_in film) film.period) (phase_back film.phase film.period (f.phase_within some))
