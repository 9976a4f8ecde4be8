-- Keys, parents and places: what their tests decide, and lists of keys in which one stands.
use Rattle.std.proofs.Common.{◌≡◌, ℕ, ℤ, pos, ◌+ℤ◌, Bool, true, false, cond, ◌&&◌, ◌||◌, nat_eq, int_lt, int_le, List, [], ◌∷◌, ◌++◌, Option, Some, None, refl, sym, ap, ◌∙◌, ◌⊎◌, inl, inr, arith}
use Rattle.std.specs.List.{find, list_any, list_all}
use Rattle.std.specs.Str.{bytes_eq}
use Rattle.std.specs.Ordering.{int_eq}
use Rattle.std.proofs.lemmas.Bool.{true≢false, eqb-true, eq-eqb, and_parts, and_from, or_parts, or_left, or_right, cases_Bool}
use Rattle.std.proofs.lemmas.Bool.Decides.{Decides-int_eq}
use Rattle.std.proofs.lemmas.List.Folds.{list_any-append}
use Rattle.std.proofs.lemmas.Slice.Eq.{bytes_eq-Decides}
use Rattle.geom_core.specs.declared.rectangle.Rect.{Rect}
use Rattle.widget_model.specs.Keys.{same_key}
use Rattle.machine_model.specs.Damage.{same_place, same_parent}

pub same_key-own : (a : ℕ × List ℕ) → same_key a a ≡ true
same_key-own a = and_from _ _ (eq-eqb a.0 a.0 refl) ((bytes_eq-Decides a.1 a.1).1 refl)

pub same_key-is : (a b : ℕ × List ℕ) → same_key a b ≡ true → a ≡ b
same_key-is a b h =
    let parts = and_parts (nat_eq a.0 b.0) (bytes_eq a.1 b.1) h in
    let client : a.0 ≡ b.0 = eqb-true a.0 b.0 parts.0 in
    let name : a.1 ≡ b.1 = (bytes_eq-Decides a.1 b.1).0 parts.1 in
    λ i. (client i, name i)

pub same_key-from : (a b : ℕ × List ℕ) → a ≡ b → same_key a b ≡ true
same_key-from a b h = ap (same_key a) (sym h) ∙ same_key-own a

pub same_parent-is : (a b : Option (ℕ × List ℕ)) → same_parent a b ≡ true → a ≡ b
same_parent-is None None h = refl
same_parent-is (Some a) (Some b) h = ap Some (same_key-is a b h)
same_parent-is None (Some b) h = absurd (true≢false (sym h))
same_parent-is (Some a) None h = absurd (true≢false (sym h))

pub same_place-is : (a b : Rect) → same_place a b ≡ true → a ≡ b
same_place-is a b h =
    let parts = and_parts (int_eq a.x b.x && int_eq a.y b.y) (nat_eq a.w b.w && nat_eq a.h b.h) h in
    let corner = and_parts (int_eq a.x b.x) (int_eq a.y b.y) parts.0 in
    let size = and_parts (nat_eq a.w b.w) (nat_eq a.h b.h) parts.1 in
    let x : a.x ≡ b.x = (Decides-int_eq a.x b.x).0 corner.0 in
    let y : a.y ≡ b.y = (Decides-int_eq a.y b.y).0 corner.1 in
    let w : a.w ≡ b.w = eqb-true a.w b.w size.0 in
    let h : a.h ≡ b.h = eqb-true a.h b.h size.1 in
    λ i. record { x = x i; y = y i; w = w i; h = h i }

-- what holds of no key of a list doesn't hold of one that stands in it
pub none_of : (test : ℕ × List ℕ → Bool) (keys : List (ℕ × List ℕ)) (key : ℕ × List ℕ) → list_any test keys ≡ false → list_any (same_key key) keys ≡ true → test key ≡ false
none_of test [] key none there = absurd (true≢false (sym there))
none_of test (first ∷ keys) key none there = by (λ later. none_of test keys key parts.1 later) (same_key key first) refl there
  where
    parts : (test first ≡ false) × (list_any test keys ≡ false)
    parts = or_parts (test first) (list_any test keys) none

    by : (list_any (same_key key) keys ≡ true → test key ≡ false) → (b : Bool) → same_key key first ≡ b → (b || list_any (same_key key) keys) ≡ true → test key ≡ false
    by rest true same there = ap test (same_key-is key first same) ∙ parts.0
    by rest false same there = rest there

-- what holds of all keys of a list holds of one that stands in it
pub all_of : (test : ℕ × List ℕ → Bool) (keys : List (ℕ × List ℕ)) (key : ℕ × List ℕ) → list_all test keys ≡ true → list_any (same_key key) keys ≡ true → test key ≡ true
all_of test [] key all there = absurd (true≢false (sym there))
all_of test (first ∷ keys) key all there = by (λ later. all_of test keys key parts.1 later) (same_key key first) refl there
  where
    parts : (test first ≡ true) × (list_all test keys ≡ true)
    parts = and_parts (test first) (list_all test keys) all

    by : (list_any (same_key key) keys ≡ true → test key ≡ true) → (b : Bool) → same_key key first ≡ b → (b || list_any (same_key key) keys) ≡ true → test key ≡ true
    by rest true same there = ap test (same_key-is key first same) ∙ parts.0
    by rest false same there = rest there

-- a key that stands in one of two lists stands in both together
pub joined_left : (keys more : List (ℕ × List ℕ)) (key : ℕ × List ℕ) → list_any (same_key key) keys ≡ true → list_any (same_key key) (keys ++ more) ≡ true
joined_left keys more key there = list_any-append (same_key key) keys more ∙ or_left _ _ there

pub joined_right : (keys more : List (ℕ × List ℕ)) (key : ℕ × List ℕ) → list_any (same_key key) more ≡ true → list_any (same_key key) (keys ++ more) ≡ true
joined_right keys more key there = list_any-append (same_key key) keys more ∙ or_right _ _ there

-- a list that has an element which passes has one that passes
pub find-any : {X : Type 0} (test : X → Bool) (xs : List X) (x : X) → find test xs ≡ Some x → list_any test xs ≡ true
find-any test [] x found = absurd (cc)
find-any test (y ∷ ys) x found = by (find-any test ys x) (test y) found
  where
    by : (find test ys ≡ Some x → list_any test ys ≡ true) → (b : Bool) → cond b (Some y) (find test ys) ≡ Some x → (b || list_any test ys) ≡ true
    by rest true found = refl
    by rest false found = rest found

-- a key that was found stands in the list
pub find-stands : (test : ℕ × List ℕ → Bool) (keys : List (ℕ × List ℕ)) (key : ℕ × List ℕ) → find test keys ≡ Some key → list_any (same_key key) keys ≡ true
find-stands test [] key found = absurd (cc)
find-stands test (first ∷ keys) key found = by (find-stands test keys key) (test first) found
  where
    by : (find test keys ≡ Some key → list_any (same_key key) keys ≡ true) → (b : Bool) → cond b (Some first) (find test keys) ≡ Some key → (same_key key first || list_any (same_key key) keys) ≡ true
    by rest true found = let same : first ≡ key = cc in or_left _ _ (same_key-from key first (sym same))
    by rest false found = or_right _ _ (rest found)

-- nothing is left of an empty span
pub none_in_span : (p : ℤ) → (int_le (pos 0) p && int_lt p (pos 0 +ℤ pos 0)) ≡ false
none_in_span p = by (cases_Bool (int_le (pos 0) p))
  where
    by : (int_le (pos 0) p ≡ true) ⊎ (int_le (pos 0) p ≡ false) → (int_le (pos 0) p && int_lt p (pos 0 +ℤ pos 0)) ≡ false
    by (inl h) = grind arith
    by (inr h) = grind arith
