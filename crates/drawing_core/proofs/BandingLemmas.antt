-- Drawing bands: none drawn, and one band after those of other widgets.
use Rattle.std.proofs.Common.{◌≡◌, ℕ, zero, suc, ◌+◌, ◌-◌, ◌*◌, ◌<◌, ◌≤◌, ℤ, pos, Bool, true, false, cond, ◌&&◌, ◌||◌, List, [], ◌∷◌, length, get_or, take, refl, sym, ap, ◌∙◌, arith}
use Rattle.std.specs.Prelude.{Option, Some, None, nat_eq}
use Rattle.std.specs.List.{list_any}
use Rattle.std.specs.Option.{option_map, option_map_or}
use Rattle.std.specs.Cmp.{nat_eq_equiv}
use Rattle.std.proofs.Math.Bool.{and-false, or-false}
use Rattle.std.proofs.lemmas.Bool.{true≢false, false≢true, eq-eqb, and_parts, or_parts, or_from, false_from_ne_true}
use Rattle.std.proofs.lemmas.List.{take_more}
use Rattle.std.proofs.lemmas.List.Folds.{list_any-append}
use Rattle.canvas_core.specs.Screen.{Screen, IsScreen, pixel_of, risen}
use Rattle.canvas_core.proofs.Span.{risen-none, risen-then}
use Rattle.painter_core.proofs.PaintedLemmas.{risen_by-none, risen_by-then}
use Rattle.geom_core.specs.Count.{count_in, screen_of}
use Rattle.geom_core.proofs.CountLemmas.{count_in-parts, count_rows-none}
use Rattle.tree_core.specs.declared.id.Id.{Id}
use Rattle.vscreen_core.specs.declared.band.Band.{Band}
use Rattle.widget_model.specs.Rows.{Row}
use Rattle.widget_model.specs.Keys.{key_of, same_key}
use Rattle.widget_model.specs.Widgets.{row_at}
use Rattle.widget_model.specs.Forest.{IsWidgets}
use Rattle.scene_model.specs.Scene.{Scene}
use Rattle.scene_model.specs.Showing.{top_of}
use Rattle.scene_model.specs.Colours.{colour_at}
use Rattle.scene_model.specs.Bands.{is_top, film_in_band, shows_band}
use Rattle.scene_core.specs.declared.view.View.{View}
use Rattle.scene_core.specs.View.{scene_of}
use Rattle.painter_core.specs.Banding.{view_shows_band}
use Rattle.painter_core.specs.Painting.{ShowsScene}
use Rattle.scene_core.proofs.OneNumber.{number_of-key}
use Rattle.machine_model.proofs.DamageKeys.{same_key-is}
use Rattle.painter_core.proofs.PartLemmas.{count_rows-most}
use Rattle.drawing_core.specs.Banding.{shows_a_band, AreOfOneEach, BandsDrawn}

-- where a band is shown, its widget is on top
shows-top : (scene : Scene) (key : ℕ × List ℕ) (band : Band) (x y : ℤ) → shows_band scene key band x y ≡ true → is_top scene key x y ≡ true
unfolding shows_band
shows-top scene key band x y e = (and_parts (is_top scene key x y) (film_in_band scene key band x y) e).0

one_top : (top : Option (ℕ × List ℕ)) (a b : ℕ × List ℕ) → option_map_or (same_key a) top false ≡ true → option_map_or (same_key b) top false ≡ true → a ≡ b
one_top None a b e f = absurd (false≢true e)
one_top (Some top) a b e f = same_key-is a top e ∙ sym (same_key-is b top f)

-- no pixel shows bands of two widgets
bands_apart : (view : View) (a b : ℕ) (band other : Band) (x y : ℤ) → IsWidgets view.tree.now → nat_eq a b ≡ false → (view_shows_band view a band x y && view_shows_band view b other x y) ≡ false
bands_apart view a b band other x y valid differ = by (row_at view.tree.now.entries a) refl (row_at view.tree.now.entries b) refl
  where
    by : (o : Option Row) → row_at view.tree.now.entries a ≡ o → (p : Option Row) → row_at view.tree.now.entries b ≡ p
        → (option_map_or (λ (key : ℕ × List ℕ). shows_band (scene_of view) key band x y) (option_map key_of o) false && option_map_or (λ (key : ℕ × List ℕ). shows_band (scene_of view) key other x y) (option_map key_of p) false) ≡ false
    by None at p at' = refl
    by (Some row) at None at' = and-false (shows_band (scene_of view) (key_of row) band x y)
    by (Some row) at (Some row') at' = false_from_ne_true (shows_band (scene_of view) (key_of row) band x y && shows_band (scene_of view) (key_of row') other x y) (λ both.
        let parts = and_parts (shows_band (scene_of view) (key_of row) band x y) (shows_band (scene_of view) (key_of row') other x y) both in
        let one : key_of row ≡ key_of row' = one_top (top_of (scene_of view) x y) (key_of row) (key_of row') (shows-top (scene_of view) (key_of row) band x y parts.0) (shows-top (scene_of view) (key_of row') other x y parts.1) in
        true≢false (sym (eq-eqb a b (number_of-key view.tree.now a b row row' valid at at' one)) ∙ differ))

either_apart : (first rest next : Bool) → (next && first) ≡ false → (rest && next) ≡ false → ((first || rest) && next) ≡ false
either_apart true rest true e f = e
either_apart true rest false e f = refl
either_apart false rest next e f = f

-- nor a band of some and one of another widget
bands_apart_from : (view : View) (bands : List (Id × Band)) (entry : Id × Band) (x y : ℤ) → IsWidgets view.tree.now → list_any (λ (other : Id × Band). nat_eq entry.0.key other.0.key) bands ≡ false → (shows_a_band view bands x y && view_shows_band view entry.0.key entry.1 x y) ≡ false
bands_apart_from view [] entry x y valid none = refl
bands_apart_from view (band ∷ bands) entry x y valid none =
    let parts = or_parts (nat_eq entry.0.key band.0.key) (list_any (λ (other : Id × Band). nat_eq entry.0.key other.0.key) bands) none in
    either_apart (view_shows_band view band.0.key band.1 x y) (shows_a_band view bands x y) (view_shows_band view entry.0.key entry.1 x y)
    (bands_apart view entry.0.key band.0.key entry.1 band.1 x y valid parts.0) (bands_apart_from view bands entry x y valid parts.1)

not_any-at : {X : Type 0} (test : X → Bool) (xs : List X) (i : ℕ) (d : X) → list_any test xs ≡ false → i < length xs → test (get_or xs i d) ≡ false
not_any-at test [] i d none h = absurd (omega arith)
not_any-at test (x ∷ xs) zero d none h = (or_parts (test x) (list_any test xs) none).0
not_any-at test (x ∷ xs) (suc i) d none h = not_any-at test xs i d (or_parts (test x) (list_any test xs) none).1 (omega arith)

-- the widgets of the first bands are others than the next one's
one_each-at : (bands : List (Id × Band)) (i : ℕ) (d : Id × Band) → AreOfOneEach bands → i < length bands → list_any (λ (other : Id × Band). nat_eq (get_or bands i d).0.key other.0.key) (take i bands) ≡ false
one_each-at [] i d each h = absurd (omega arith)
one_each-at (band ∷ bands) zero d each h = refl
one_each-at (band ∷ bands) (suc i) d each h =
    let next = get_or bands i d in
    or_from (nat_eq next.0.key band.0.key) (list_any (λ (other : Id × Band). nat_eq next.0.key other.0.key) (take i bands))
    (nat_eq_equiv.symm next.0.key band.0.key ∙ not_any-at (λ (other : Id × Band). nat_eq band.0.key other.0.key) bands i d each.0 (omega arith))
    (one_each-at bands i d each.1 (omega arith))

shows-more : (view : View) (bands : List (Id × Band)) (i : ℕ) (d : Id × Band) (x y : ℤ) → i < length bands → shows_a_band view (take (i + 1) bands) x y ≡ (shows_a_band view (take i bands) x y || view_shows_band view (get_or bands i d).0.key (get_or bands i d).1 x y)
shows-more view bands i d x y h =
    let test : Id × Band → Bool = λ entry. view_shows_band view entry.0.key entry.1 x y in
    ap (list_any test) (take_more bands i d h)
    ∙ list_any-append test (take i bands) (get_or bands i d ∷ [])
    ∙ ap (λ t. list_any test (take i bands) || t) (or-false (test (get_or bands i d)))

drawn_either : (some next : Bool) (now between before drawn : ℕ) → now ≡ cond next drawn between → between ≡ cond some drawn before → now ≡ cond (some || next) drawn before
drawn_either true true now between before drawn e f = e
drawn_either true false now between before drawn e f = e ∙ f
drawn_either false true now between before drawn e f = e
drawn_either false false now between before drawn e f = e ∙ f

pub BandsDrawn-none : (view : View) (screen : Screen) → IsScreen screen → BandsDrawn view [] 0 screen screen
BandsDrawn-none view screen is = record {
  pixels = λ x y hx hy. refl;
  counted = sym (count_rows-none (shows_a_band view []) (pos 0) view.width (pos 0) view.height (λ x y. refl));
  writes = omega arith;
  all_writes = risen-none screen.all_writes is.all_writes_fit;
  spans_grow = omega arith;
  all_spans = risen_by-none screen.all_spans screen.spans is.all_spans_fit;
  width = refl;
  height = refl;
  canvas = is;
}

pub BandsDrawn-then : (view : View) (bands : List (Id × Band)) (i : ℕ) (d : Id × Band) (count n : ℕ) (old mid new : Screen) → IsWidgets view.tree.now → AreOfOneEach bands → i < length bands → BandsDrawn view (take i bands) count old mid
    → ShowsScene (view_shows_band view (get_or bands i d).0.key (get_or bands i d).1) (scene_of view) mid new → n ≡ count_in (view_shows_band view (get_or bands i d).0.key (get_or bands i d).1) (screen_of view.width view.height) → new.writes ≡ mid.writes + n → new.all_writes ≡ risen mid.all_writes n → mid.spans ≤ new.spans → new.all_spans ≡ risen mid.all_spans (new.spans - mid.spans) → new.width ≡ mid.width → new.height ≡ mid.height → IsScreen new
    → BandsDrawn view (take (i + 1) bands) (count + n) old new
BandsDrawn-then view bands i d count n old mid new valid each h drawn shows counted writes all_writes spans_grow all_spans width height is =
    let next = get_or bands i d in
    let some = shows_a_band view (take i bands) in
    let here = view_shows_band view next.0.key next.1 in
    record {
      pixels = λ x y hx hy.
          drawn_either (some (pos x) (pos y)) (here (pos x) (pos y)) (pixel_of new x y) (pixel_of mid x y) (pixel_of old x y) (colour_at (scene_of view) (pos x) (pos y))
          (shows x y (omega (arith, drawn.width)) (omega (arith, drawn.height))) (drawn.pixels x y hx hy)
          ∙ ap (λ t. cond t (colour_at (scene_of view) (pos x) (pos y)) (pixel_of old x y)) (sym (shows-more view bands i d (pos x) (pos y) h));
      counted =
          ap (λ k. k + n) drawn.counted
          ∙ ap (λ k. count_in some (screen_of view.width view.height) + k) counted
          ∙ sym (count_in-parts (shows_a_band view (take (i + 1) bands)) some here (screen_of view.width view.height) (λ x y on. shows-more view bands i d x y h) (λ x y on. bands_apart_from view (take i bands) next x y valid (one_each-at bands i d each h)));
      writes = omega (arith, drawn.writes, writes);
      all_writes = all_writes ∙ ap (λ k. risen k n) drawn.all_writes ∙ risen-then old.all_writes count n;
      spans_grow = omega (arith, drawn.spans_grow, spans_grow);
      all_spans = risen_by-then old.all_spans mid.all_spans new.all_spans old.spans mid.spans new.spans drawn.all_spans all_spans drawn.spans_grow spans_grow;
      width = width ∙ drawn.width;
      height = height ∙ drawn.height;
      canvas = is;
    }

-- the bands have at most the pixels of the screen
pub bands-few : (view : View) (bands : List (Id × Band)) (count : ℕ) (old new : Screen) → BandsDrawn view bands count old new → count ≤ view.width * view.height
bands-few view bands count old new drawn =
    omega (arith, drawn.counted, count_rows-most (shows_a_band view bands) (pos 0) view.width (pos 0) view.height)
