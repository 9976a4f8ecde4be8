-- Facts on the test of two looks.
use Rattle.std.proofs.Common.{◌≡◌, ℕ, Bool, true, false, ◌&&◌, ◌==◌, List, sym, refl, ap, ◌∙◌, eqb-true, eq-eqb}
use Rattle.std.specs.Str.{bytes_eq}
use Rattle.std.proofs.lemmas.Slice.Eq.{bytes_eq-Decides}
use Rattle.look_core.specs.Seen.{Seen, window, grid, frame, button, label, entry, scale, scrollbar, film, no_film}
use Rattle.look_core.specs.Colour.{colour_of}
use Rattle.look_core.specs.Same.{same_flag, same_look}
use Rattle.look_core.specs.Laws.{SameAreEqual, EqualPixels}
use Rattle.look_core.proofs.FontLemmas.{parts}

same_bytes : (a b : List ℕ) → bytes_eq a b ≡ true → a ≡ b
same_bytes a b = (bytes_eq-Decides a b).0

own_bytes : (a : List ℕ) → bytes_eq a a ≡ true
own_bytes a = (bytes_eq-Decides a a).1 refl

same_flags : (a b : Bool) → same_flag a b ≡ true → a ≡ b
same_flags true b h = sym h
same_flags false true h = absurd (cc)
same_flags false false h = refl

own_flag : (a : Bool) → same_flag a a ≡ true
own_flag true = refl
own_flag false = refl

own_number : (n : ℕ) → (n == n) ≡ true
own_number n = eq-eqb n n refl

both : (a b : Bool) → a ≡ true → b ≡ true → (a && b) ≡ true
both a b ha hb = rw (ha, hb) refl

equal_from_same : (a b : Seen) → same_look a b ≡ true → a ≡ b
unfolding same_look
equal_from_same (window title) (window title') h = ap window (same_bytes title title' h)
equal_from_same grid grid h = refl
equal_from_same frame frame h = refl
equal_from_same (button text held) (button text' held') h =
    let p = parts (bytes_eq text text') (same_flag held held') h in
    let e = same_bytes text text' p.0 in let f = same_flags held held' p.1 in cc
equal_from_same (label shown) (label shown') h = ap label (same_bytes shown shown' h)
equal_from_same (entry text caret focus) (entry text' caret' focus') h =
    let p = parts (bytes_eq text text') (caret == caret' && same_flag focus focus') h in
    let q = parts (caret == caret') (same_flag focus focus') p.1 in
    let e = same_bytes text text' p.0 in let f = eqb-true caret caret' q.0 in let g = same_flags focus focus' q.1 in cc
equal_from_same (scale value max vert held) (scale value' max' vert' held') h =
    let p = parts (value == value') (max == max' && (same_flag vert vert' && same_flag held held')) h in
    let q = parts (max == max') (same_flag vert vert' && same_flag held held') p.1 in
    let r = parts (same_flag vert vert') (same_flag held held') q.1 in
    let e = eqb-true value value' p.0 in let f = eqb-true max max' q.0 in
    let g = same_flags vert vert' r.0 in let k = same_flags held held' r.1 in cc
equal_from_same (scrollbar value real view vert held) (scrollbar value' real' view' vert' held') h =
    let p = parts (value == value') (real == real' && (view == view' && (same_flag vert vert' && same_flag held held'))) h in
    let q = parts (real == real') (view == view' && (same_flag vert vert' && same_flag held held')) p.1 in
    let s = parts (view == view') (same_flag vert vert' && same_flag held held') q.1 in
    let r = parts (same_flag vert vert') (same_flag held held') s.1 in
    let e = eqb-true value value' p.0 in let f = eqb-true real real' q.0 in let m = eqb-true view view' s.0 in
    let g = same_flags vert vert' r.0 in let k = same_flags held held' r.1 in cc
equal_from_same (film width height bytes) (film width' height' bytes') h =
    let p = parts (width == width') (height == height' && bytes_eq bytes bytes') h in
    let q = parts (height == height') (bytes_eq bytes bytes') p.1 in
    let e = eqb-true width width' p.0 in let f = eqb-true height height' q.0 in let g = same_bytes bytes bytes' q.1 in cc
equal_from_same no_film no_film h = refl
equal_from_same _ _ h = absurd (cc)

same_as_itself : (a : Seen) → same_look a a ≡ true
unfolding same_look
same_as_itself (window title) = own_bytes title
same_as_itself grid = refl
same_as_itself frame = refl
same_as_itself (button text held) = both _ _ (own_bytes text) (own_flag held)
same_as_itself (label shown) = own_bytes shown
same_as_itself (entry text caret focus) = rw (own_bytes text, own_number caret) (own_flag focus)
same_as_itself (scale value max vert held) = rw (own_number value, own_number max, own_flag vert) (own_flag held)
same_as_itself (scrollbar value real view vert held) = rw (own_number value, own_number real, own_number view, own_flag vert) (own_flag held)
same_as_itself (film width height bytes) = rw (own_number width, own_number height) (own_bytes bytes)
same_as_itself no_film = refl

pub same_are_equal : SameAreEqual
same_are_equal a b =
    (equal_from_same a b, λ e. ap (same_look a) (sym e) ∙ same_as_itself a)

pub equal_pixels : EqualPixels
equal_pixels a b w h u v same = ap (λ (look : Seen). colour_of look w h u v) (equal_from_same a b same)
