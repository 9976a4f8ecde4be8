-- One numbering of the widgets of two scenes: tests of numbers tell what tests of keys tell.
use Rattle.std.proofs.Common.{◌≡◌, ℕ, Bool, true, cond, ◌&&◌, ◌||◌, nat_eq, List, [], ◌∷◌, map, Option, Some, None, refl, ap}
use Rattle.std.specs.Cmp.{both_ways}
use Rattle.std.specs.List.{list_any}
use Rattle.std.specs.Option.{option_map}
use Rattle.std.proofs.lemmas.Bool.{eqb-true, eq-eqb, or_left, or_right}
use Rattle.geom_core.specs.declared.rectangle.Rect.{Rect}
use Rattle.widget_model.specs.Keys.{same_key}
use Rattle.machine_model.specs.Damage.{is_over, same_parent}
use Rattle.machine_model.proofs.DamageKeys.{same_key-own, same_key-is, same_key-from}
use Rattle.shot_core.specs.Shot.{numbers_of}
use Rattle.damage_rules.specs.Areas.{same_number, is_higher_in}
use Rattle.damage_rules.specs.Numbering.{IsNumbering}

abbrev pub Stands : ℕ × List ℕ → List (ℕ × List ℕ) → Type 0
Stands key keys = list_any (same_key key) keys ≡ true

pub nat_eq-number : (number : ℕ × List ℕ → ℕ) (keys : List (ℕ × List ℕ)) (a b : ℕ × List ℕ) → IsNumbering number keys → Stands a keys → Stands b keys → nat_eq (number a) (number b) ≡ same_key a b
nat_eq-number number keys a b own there there' =
    both_ways (nat_eq (number a) (number b)) (same_key a b)
    (λ h. same_key-from a b (own a b there there' (eqb-true (number a) (number b) h)))
    (λ h. eq-eqb (number a) (number b) (ap number (same_key-is a b h)))

pub same_number-parent : (number : ℕ × List ℕ → ℕ) (keys : List (ℕ × List ℕ)) (a b : Option (ℕ × List ℕ)) → IsNumbering number keys → ((key : ℕ × List ℕ) → a ≡ Some key → Stands key keys) → ((key : ℕ × List ℕ) → b ≡ Some key → Stands key keys) → same_number (option_map number a) (option_map number b) ≡ same_parent a b
same_number-parent number keys None None own there there' = refl
same_number-parent number keys (Some a) None own there there' = refl
same_number-parent number keys None (Some b) own there there' = refl
same_number-parent number keys (Some a) (Some b) own there there' = nat_eq-number number keys a b own (there a refl) (there' b refl)

-- a test of numbers and one of keys that agree on the keys of a list
pub any-number : (number : ℕ × List ℕ → ℕ) (test : ℕ → Bool) (test' : ℕ × List ℕ → Bool) (keys : List (ℕ × List ℕ)) → ((key : ℕ × List ℕ) → Stands key keys → test (number key) ≡ test' key) → list_any test (map number keys) ≡ list_any test' keys
any-number number test test' [] each = refl
any-number number test test' (key ∷ keys) each =
    let first = each key (or_left _ _ (same_key-own key)) in
    let rest = any-number number test test' keys (λ k there. each k (or_right _ _ there)) in
    λ i. first i || rest i

-- the same order by numbers as by keys
pub over-number : (number : ℕ × List ℕ → ℕ) (keys windows : List (ℕ × List ℕ)) (upper lower : ℕ × List ℕ) → IsNumbering number keys → Stands upper keys → Stands lower keys → ((window : ℕ × List ℕ) → Stands window windows → Stands window keys) → is_over nat_eq (map number windows) (number upper) (number lower) ≡ is_over same_key windows upper lower
over-number number keys [] upper lower own up low each = refl
over-number number keys (window ∷ windows) upper lower own up low each =
    let first = nat_eq-number number keys upper window own up (each window (or_left _ _ (same_key-own window))) in
    let later = any-number number (nat_eq (number lower)) (same_key lower) windows (λ k there. nat_eq-number number keys lower k own low (each k (or_right _ _ there))) in
    let rest = over-number number keys windows upper lower own up low (λ k there. each k (or_right _ _ there)) in
    λ i. cond (first i) (later i) (rest i)

pub higher-number : (number : ℕ × List ℕ → ℕ) (keys before after : List (ℕ × List ℕ)) (window : ℕ × List ℕ) → IsNumbering number keys → Stands window keys → ((key : ℕ × List ℕ) → Stands key before → Stands key keys) → ((key : ℕ × List ℕ) → Stands key after → Stands key keys) → is_higher_in (map number before) (map number after) (number window) ≡ list_any (λ other. is_over same_key before other window && is_over same_key after window other) before
unfolding is_higher_in
higher-number number keys before after window own there each each' =
    any-number number (λ other. is_over nat_eq (map number before) other (number window) && is_over nat_eq (map number after) (number window) other) (λ other. is_over same_key before other window && is_over same_key after window other) before
    (λ other is.
    let over = over-number number keys before other window own (each other is) there each in
    let under = over-number number keys after window other own there (each other is) each' in
    λ i. over i && under i)

-- the numbers of windows with their places
pub numbers-placed : (number : ℕ × List ℕ → ℕ) (place : ℕ × List ℕ → Rect) (windows : List (ℕ × List ℕ)) → numbers_of (map (λ key. (number key, place key)) windows) ≡ map number windows
numbers-placed number place [] = refl
numbers-placed number place (window ∷ windows) = ap (λ (numbers : List ℕ). number window ∷ numbers) (numbers-placed number place windows)
