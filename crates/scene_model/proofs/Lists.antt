-- What is made of the elements that pass a test, and bounds on elements.
use Rattle.std.proofs.Common.{◌≡◌, ℕ, zero, suc, Bool, true, false, cond, ◌&&◌, ◌≤◌, List, [], ◌∷◌, map, Some, refl, sym, ap, ◌∙◌, slice_get, slice_index_or, arith}
use Rattle.std.proofs.lemmas.Bool.{and_parts}
use Rattle.std.proofs.lemmas.List.Elements.{All-nil, All-cons, All-head, All-tail}
use Rattle.std.specs.List.{filter, list_all, All}
use Rattle.scene_model.specs.Tracks.{greatest}

-- two functions that agree on them make the same
pub map-filter-same : {X Y : Type 0} (f g : X → Y) (p : X → Bool) (xs : List X) → ((i : ℕ) (x : X) → slice_get xs i ≡ Some x → p x ≡ true → f x ≡ g x) → map f (filter p xs) ≡ map g (filter p xs)
map-filter-same f g p [] same = refl
map-filter-same {X} {Y} f g p (x ∷ xs) same = by (map-filter-same f g p xs (λ i y there. same (suc i) y there)) (p x) refl
  where
    by : map f (filter p xs) ≡ map g (filter p xs) → (b : Bool) → p x ≡ b → map f (cond b (x ∷ filter p xs) (filter p xs)) ≡ map g (cond b (x ∷ filter p xs) (filter p xs))
    by rest true passes = ap (λ (y : Y). y ∷ map f (filter p xs)) (same zero x refl passes) ∙ ap (λ (ys : List Y). g x ∷ ys) rest
    by rest false passes = rest

-- a test within another leaves the same of what passes the other
pub filter-within : {X : Type 0} (p q : X → Bool) (xs : List X) → filter (λ x. p x && q x) (filter p xs) ≡ filter (λ x. p x && q x) xs
filter-within p q [] = refl
filter-within {X} p q (x ∷ xs) = by (filter-within p q xs) (p x) refl
  where
    by : filter (λ x. p x && q x) (filter p xs) ≡ filter (λ x. p x && q x) xs → (b : Bool) → p x ≡ b
        → filter (λ x. p x && q x) (cond b (x ∷ filter p xs) (filter p xs)) ≡ cond (b && q x) (x ∷ filter (λ x. p x && q x) xs) (filter (λ x. p x && q x) xs)
    by rest true passes = rw (passes, rest) refl
    by rest false passes = rest

pub filter-agree : {X : Type 0} (p q : X → Bool) (a b : List X) → filter p a ≡ filter p b → filter (λ x. p x && q x) a ≡ filter (λ x. p x && q x) b
filter-agree p q a b same = sym (filter-within p q a) ∙ ap (filter (λ x. p x && q x)) same ∙ filter-within p q b

-- what is made of each of them has a property
pub All-map-filter : {X Y : Type 0} (P : Y → Type 0) (f : X → Y) (p : X → Bool) (xs : List X) → ((i : ℕ) (x : X) → slice_get xs i ≡ Some x → p x ≡ true → P (f x)) → All P (map f (filter p xs))
All-map-filter P f p [] each = All-nil P
All-map-filter P f p (x ∷ xs) each = by (All-map-filter P f p xs (λ i y there. each (suc i) y there)) (p x) refl
  where
    by : All P (map f (filter p xs)) → (b : Bool) → p x ≡ b → All P (map f (cond b (x ∷ filter p xs) (filter p xs)))
    by rest true passes = All-cons P (f x) (map f (filter p xs)) (each zero x refl passes) rest
    by rest false passes = rest

-- an element, or the default where there is none
pub all_or : {X : Type 0} (p : X → Bool) (xs : List X) (i : ℕ) (d : X) → list_all p xs ≡ true → p d ≡ true → p (slice_index_or xs i d) ≡ true
all_or p [] i d all here = here
all_or p (x ∷ xs) zero d all here = (and_parts (p x) (list_all p xs) all).0
all_or p (x ∷ xs) (suc i) d all here = all_or p xs i d (and_parts (p x) (list_all p xs) all).1 here

pub index-most : (most : ℕ) (ns : List ℕ) (i : ℕ) → All (λ n. n ≤ most) ns → slice_index_or ns i 0 ≤ most
index-most most [] i each = omega arith
index-most most (n ∷ ns) zero each = All-head (λ n. n ≤ most) n ns each
index-most most (n ∷ ns) (suc i) each = index-most most ns i (All-tail (λ n. n ≤ most) n ns each)

pub greatest-most : (most : ℕ) (ns : List ℕ) → All (λ n. n ≤ most) ns → greatest ns ≤ most
greatest-most most [] each = omega arith
greatest-most most (n ∷ ns) each =
    let first = All-head (λ n. n ≤ most) n ns each in
    let rest = greatest-most most ns (All-tail (λ n. n ≤ most) n ns each) in
    omega arith
