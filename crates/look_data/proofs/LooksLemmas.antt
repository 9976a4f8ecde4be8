-- Looks with their numbers: none, one more, and two lists joined.
use Rattle.std.proofs.Common.{◌≡◌, ℕ, ◌+◌, ◌<◌, Bool, true, false, cond, ◌&&◌, ◌||◌, nat_eq, nat_le, nat_lt, List, [], ◌∷◌, ◌++◌, map, length, take, get_or, Option, Some, None, is_some, refl, sym, ap, ◌∙◌, arith}
use Rattle.std.proofs.lemmas.Bool.{eqb-true}
use Rattle.std.proofs.lemmas.Bool.Decides.{nat_tests}
use Rattle.std.proofs.lemmas.List.{append-nil, map-append, take_more}
use Rattle.std.proofs.lemmas.List.Elements.{All-nil, All-cons, All-append}
use Rattle.std.proofs.lemmas.List.Folds.{list_any-append}
use Rattle.std.specs.List.{list_any}
use Rattle.std.specs.Option.{option_map_or}
use Rattle.look_core.specs.Seen.{Seen}
use Rattle.tree_core.specs.declared.id.Id.{Id}
use Rattle.scene_core.specs.View.{scene_of}
use Rattle.scene_core.specs.declared.view.View.{View}
use Rattle.look_data.specs.Kept.{kept_in}
use Rattle.look_data.specs.Looks.{AreLooks, look_at, passes_within}
use Rattle.look_data.specs.Watched.{AreWatched, is_linked_to, is_watched}

or_false : (b : Bool) → (b || false) ≡ b
or_false true = refl
or_false false = refl

and_false : (b : Bool) → (b && false) ≡ false
and_false true = refl
and_false false = refl

or_and : (a b c : Bool) → ((a && c) || (b && c)) ≡ ((a || b) && c)
or_and true true true = refl
or_and true true false = refl
or_and true false true = refl
or_and true false false = refl
or_and false b c = refl

-- the same for a test that says the same
pub looks-same : (p q : ℕ → Bool) (look : ℕ → Option Seen) (xs : List (ℕ × Seen)) → ((id : ℕ) → p id ≡ q id) → AreLooks p look xs → AreLooks q look xs
looks-same p q look xs same kept = record {
  numbers = λ id. kept.numbers id ∙ ap (λ (b : Bool). b && is_some (look id)) (same id);
  each = kept.each;
}

-- none
pub looks-none : (test : ℕ → Bool) (look : ℕ → Option Seen) → ((id : ℕ) → test id ≡ false) → AreLooks test look []
looks-none test look none = record {
  numbers = λ id. sym (ap (λ (b : Bool). b && is_some (look id)) (none id));
  each = All-nil (λ (one : ℕ × Seen). look one.0 ≡ Some one.1);
}

-- those of one test, and then those of another
pub looks-joined : (p q : ℕ → Bool) (look : ℕ → Option Seen) (xs ys : List (ℕ × Seen)) → AreLooks p look xs → AreLooks q look ys → AreLooks (λ id. p id || q id) look (xs ++ ys)
looks-joined p q look xs ys here there = record {
  numbers = λ id.
      list_any-append (λ (one : ℕ × Seen). nat_eq id one.0) xs ys
      ∙ ap (λ (b : Bool). b || list_any (λ (one : ℕ × Seen). nat_eq id one.0) ys) (here.numbers id)
      ∙ ap (λ (b : Bool). (p id && is_some (look id)) || b) (there.numbers id)
      ∙ or_and (p id) (q id) (is_some (look id));
  each = All-append (λ (one : ℕ × Seen). look one.0 ≡ Some one.1) xs ys here.each there.each;
}

-- that of one number
looks-one : (look : ℕ → Option Seen) (n : ℕ) → AreLooks (λ id. nat_eq id n) look (look_at n (look n))
looks-one look n = by (look n) refl
  where
    here : (id : ℕ) (b : Bool) → nat_eq id n ≡ b → (b && is_some (look n)) ≡ (b && is_some (look id))
    here id true e = ap (λ (m : ℕ). is_some (look m)) (sym (eqb-true id n e))
    here id false e = refl

    true_and : (b : Bool) → (b || false) ≡ (b && true)
    true_and true = refl
    true_and false = refl

    by : (o : Option Seen) → look n ≡ o → AreLooks (λ (id : ℕ). nat_eq id n) look (look_at n o)
    by None e = record {
      numbers = λ (id : ℕ).
          sym (and_false (nat_eq id n))
          ∙ sym (ap (λ (o : Option Seen). nat_eq id n && is_some o) e)
          ∙ here id (nat_eq id n) refl;
      each = All-nil (λ (one : ℕ × Seen). look one.0 ≡ Some one.1);
    }
    by (Some seen) e = record {
      numbers = λ (id : ℕ).
          true_and (nat_eq id n)
          ∙ sym (ap (λ (o : Option Seen). nat_eq id n && is_some o) e)
          ∙ here id (nat_eq id n) refl;
      each = All-cons (λ (one : ℕ × Seen). look one.0 ≡ Some one.1) (n, seen) [] e (All-nil (λ (one : ℕ × Seen). look one.0 ≡ Some one.1));
    }

-- one more
looks-more : (test : ℕ → Bool) (look : ℕ → Option Seen) (n : ℕ) (xs ys : List (ℕ × Seen)) → AreLooks test look xs → ys ≡ xs ++ look_at n (look n) → AreLooks (λ id. test id || nat_eq id n) look ys
looks-more test look n xs ys kept more = rw more (looks-joined test (λ id. nat_eq id n) look xs (look_at n (look n)) kept (looks-one look n))

-- the looks of one more of the named widgets
pub named-more : (look : ℕ → Option Seen) (ids : List Id) (i : ℕ) (d : Id) (xs ys : List (ℕ × Seen)) → i < length ids → AreLooks (λ id. list_any (nat_eq id) (map (λ (one : Id). one.key) (take i ids))) look xs → ys ≡ xs ++ look_at (get_or ids i d).key (look (get_or ids i d).key)
    → AreLooks (λ id. list_any (nat_eq id) (map (λ (one : Id). one.key) (take (i + 1) ids))) look ys
named-more look ids i d xs ys within kept more =
    looks-same _ _ look ys same (looks-more _ look (get_or ids i d).key xs ys kept more)
  where
    key : Id → ℕ
    key one = one.key

    same : (id : ℕ) → (list_any (nat_eq id) (map (λ (one : Id). one.key) (take i ids)) || nat_eq id (get_or ids i d).key) ≡ list_any (nat_eq id) (map (λ (one : Id). one.key) (take (i + 1) ids))
    same id =
        sym (ap (λ (b : Bool). list_any (nat_eq id) (map key (take i ids)) || b) (or_false (nat_eq id (get_or ids i d).key)))
        ∙ sym (list_any-append (nat_eq id) (map key (take i ids)) ((get_or ids i d).key ∷ []))
        ∙ sym (ap (list_any (nat_eq id)) (map-append key (take i ids) (get_or ids i d ∷ [])))
        ∙ sym (ap (λ (taken : List Id). list_any (nat_eq id) (map key taken)) (take_more ids i d within))

-- the looks of one more of the numbers that pass a test
pub passing-more : (test : ℕ → Bool) (look : ℕ → Option Seen) (first k : ℕ) (xs ys : List (ℕ × Seen)) → AreLooks (passes_within test first k) look xs → ys ≡ xs ++ cond (test (first + k)) (look_at (first + k) (look (first + k))) [] → AreLooks (passes_within test first (k + 1)) look ys
passing-more test look first k xs ys kept more = by (test (first + k)) refl more
  where
    range : ℕ → ℕ → Bool
    range count id = nat_le first id && nat_lt id (first + count)

    at : (id : ℕ) → test (first + k) ≡ true → (b : Bool) → nat_eq id (first + k) ≡ b → (passes_within test first k id || b) ≡ passes_within test first (k + 1) id
    at id passes true e =
        let same = eqb-true id (first + k) e in
        let inside : (nat_le first id && nat_lt id (first + (k + 1))) ≡ true = grind (arith, nat_tests) in
        any_true (passes_within test first k id)
        ∙ sym passes
        ∙ sym (ap test same)
        ∙ sym (ap (λ (b : Bool). b && test id) inside)
      where
        any_true : (b : Bool) → (b || true) ≡ true
        any_true true = refl
        any_true false = refl
    at id passes false e =
        let wider : (nat_le first id && nat_lt id (first + k)) ≡ (nat_le first id && nat_lt id (first + (k + 1))) = grind (arith, nat_tests) in
        or_false (passes_within test first k id) ∙ ap (λ (b : Bool). b && test id) wider

    past : (id : ℕ) → test (first + k) ≡ false → (b : Bool) → nat_eq id (first + k) ≡ b → passes_within test first k id ≡ passes_within test first (k + 1) id
    past id fails true e =
        let none : test id ≡ false = ap test (eqb-true id (first + k) e) ∙ fails in
        ap (λ (b : Bool). (nat_le first id && nat_lt id (first + k)) && b) none
        ∙ and_false (nat_le first id && nat_lt id (first + k))
        ∙ sym (and_false (nat_le first id && nat_lt id (first + (k + 1))))
        ∙ sym (ap (λ (b : Bool). (nat_le first id && nat_lt id (first + (k + 1))) && b) none)
    past id fails false e =
        let wider : (nat_le first id && nat_lt id (first + k)) ≡ (nat_le first id && nat_lt id (first + (k + 1))) = grind (arith, nat_tests) in
        ap (λ (b : Bool). b && test id) wider

    by : (b : Bool) → test (first + k) ≡ b → ys ≡ xs ++ cond b (look_at (first + k) (look (first + k))) [] → AreLooks (passes_within test first (k + 1)) look ys
    by true e is = looks-same _ _ look ys (λ id. at id e (nat_eq id (first + k)) refl) (looks-more _ look (first + k) xs ys kept is)
    by false e is =
        let same : ys ≡ xs = is ∙ append-nil xs in
        rw same (looks-same _ _ look xs (λ id. past id e (nat_eq id (first + k)) refl) kept)

-- all of those that pass, where these are among the numbers
pub passing-all : (test : ℕ → Bool) (look : ℕ → Option Seen) (first count : ℕ) (xs : List (ℕ × Seen)) → ((id : ℕ) → test id ≡ true → (nat_le first id && nat_lt id (first + count)) ≡ true) → AreLooks (passes_within test first count) look xs → AreLooks test look xs
passing-all test look first count xs among kept = looks-same _ test look xs (λ id. by id (test id) refl) kept
  where
    by : (id : ℕ) (b : Bool) → test id ≡ b → passes_within test first count id ≡ test id
    by id true e = ap (λ (b : Bool). b && test id) (among id e)
    by id false e = ap (λ (b : Bool). (nat_le first id && nat_lt id (first + count)) && b) e ∙ and_false (nat_le first id && nat_lt id (first + count)) ∙ sym e

-- the looks of the named widgets, and then those of the linked ones
pub watched-from : (view : View) (named : List ℕ) (variable : Option ℕ) (linked : ℕ → Bool) (xs ys : List (ℕ × Seen)) → AreLooks (λ id. list_any (nat_eq id) named) (kept_in view) xs → AreLooks linked (kept_in view) ys → ((id : ℕ) → linked id ≡ option_map_or (λ (one : ℕ). is_linked_to view.tree.now one id) variable false) → AreWatched named variable view.tree.now view.stack.now (scene_of view) (xs ++ ys)
unfolding is_watched
watched-from view named variable linked xs ys here there same =
    let both = looks-joined (λ id. list_any (nat_eq id) named) linked (kept_in view) xs ys here there in
    record {
      numbers = λ id. both.numbers id ∙ ap (λ (b : Bool). (list_any (nat_eq id) named || b) && is_some (kept_in view id)) (same id);
      each = both.each;
    }
