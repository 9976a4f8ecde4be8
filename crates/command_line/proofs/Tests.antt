-- Small facts of tests and of the first thing that has a name.
use Rattle.std.proofs.Common.{◌≡◌, ◌∙◌, ◌||◌, Bool, true, false, not, cond, List, [], ◌∷◌, Some, None, Option, refl, sym, ap, subst, find, bytes_eq, true≢false, option_map, option_and_then}
use Rattle.std.specs.Prelude.{unwrap_or}
use Rattle.std.specs.List.{list_all}
use Rattle.std.specs.Option.{is_some, option_map_or}
use Rattle.std.proofs.lemmas.Bool.{and_parts}
use Rattle.std.proofs.lemmas.Slice.Eq.{bytes_eq-Decides}
use Rattle.clap.specs.Walk.{Text}

-- the first test holds, or it doesn't and the second does
pub either : {P : Type 0} (a b : Bool) → (a ≡ true → P) → (a ≡ false → b ≡ true → P) → (a || b) ≡ true → P
either true b first second e = first refl
either false b first second e = second refl e

pub not_true : (b : Bool) → not b ≡ true → b ≡ false
not_true true e = absurd (true≢false (sym e))
not_true false e = refl

pub bytes_same : (xs : Text) → bytes_eq xs xs ≡ true
bytes_same xs = (bytes_eq-Decides xs xs).1 refl

pub same_bytes : (a b : Text) → bytes_eq a b ≡ true → a ≡ b
same_bytes a b e = (bytes_eq-Decides a b).0 e

pub bytes_turned : (a b : Text) → bytes_eq a b ≡ false → bytes_eq b a ≡ false
bytes_turned a b e = go (bytes_eq b a) refl
  where
    go : (t : Bool) → bytes_eq b a ≡ t → t ≡ false
    go true is = absurd (true≢false (sym ((bytes_eq-Decides a b).1 (sym (same_bytes b a is))) ∙ e))
    go false is = refl

-- a name is that of the first of these, or it isn't
pub by_first : {P : Type 0} (t : Bool) → (t ≡ true → P) → (t ≡ false → P) → P
by_first true same other = same refl
by_first false same other = other refl

pub none_some : {X : Type 0} (x : X) → ◌≡◌ {A = Option X} None (Some x) → ⊥
none_some x e = true≢false (sym (ap is_some e))

pub some_same : {X : Type 0} (a b : X) → ◌≡◌ {A = Option X} (Some a) (Some b) → a ≡ b
some_same a b e = ap (λ o. unwrap_or o a) e

-- what is found has what all have
pub found_has : {X : Type 0} (has named : X → Bool) (xs : List X) (x : X) → find named xs ≡ Some x → list_all has xs ≡ true → has x ≡ true
found_has has named [] x e all = absurd (none_some x e)
found_has has named (y ∷ ys) x e all = go (λ h. found_has has named ys x h (and_parts (has y) _ all).1) (named y) e
  where
    go : (find named ys ≡ Some x → has x ≡ true) → (t : Bool) → cond t (Some y) (find named ys) ≡ Some x → has x ≡ true
    go ih true h = subst (λ o. option_map_or has o true ≡ true) h (and_parts (has y) _ all).0
    go ih false h = ih h

-- a mapped answer was had of an answer
pub mapped_some : {X Y : Type 0} {P : Type 0} (f : X → Y) (o : Option X) (y : Y) → ((x : X) → o ≡ Some x → f x ≡ y → P) → option_map f o ≡ Some y → P
mapped_some f None y then e = absurd (none_some y e)
mapped_some f (Some x) y then e = then x refl (some_same (f x) y e)

pub chained_some : {X Y : Type 0} {P : Type 0} (f : X → Option Y) (o : Option X) (y : Y) → ((x : X) → o ≡ Some x → f x ≡ Some y → P) → option_and_then f o ≡ Some y → P
chained_some f None y then e = absurd (none_some y e)
chained_some f (Some x) y then e = then x refl e
