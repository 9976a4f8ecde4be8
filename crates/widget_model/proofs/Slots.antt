-- What each change leaves in the slots of the kept places.
use Rattle.std.proofs.Common.{◌≡◌, ◌<◌, ◌≤◌, ◌+◌, ◌⊎◌, inl, inr, ℕ, zero, suc, length, List, [], ◌∷◌, Option, None, refl, ap, ◌∙◌, arith}
use Rattle.std.proofs.Math.ListN.{length-set}
use Rattle.std.proofs.lemmas.Bool.{cases_eq}
use Rattle.std.proofs.lemmas.List.{get_or-set_other}
use Rattle.geom_core.specs.declared.rectangle.Rect.{Rect}
use Rattle.widget_model.specs.Nodes.{first_number}
use Rattle.widget_model.specs.KeptPlaces.{most_numbers, emptied, place_in, placed, unplaced}

pub most_numbers-is : most_numbers ≡ 2048
unfolding most_numbers
most_numbers-is = refl

-- a slot that is emptied is empty
pub emptied_slot : (places : List (Option Rect)) (id : ℕ) → place_in (placed id None places) id ≡ None
emptied_slot [] id = refl
emptied_slot (place ∷ places) zero = refl
emptied_slot (place ∷ places) (suc id) = emptied_slot places id

-- and an empty one stays empty when a slot is emptied
pub still_empty : (places : List (Option Rect)) (id other : ℕ) → place_in places other ≡ None → place_in (placed id None places) other ≡ None
still_empty places id other none = by (cases_eq other id)
  where
    by : (other ≡ id) ⊎ (other ≡ id → ⊥) → place_in (placed id None places) other ≡ None
    by (inl same) = ap (place_in (placed id None places)) same ∙ emptied_slot places id
    by (inr apart) = get_or-set_other places id other None None apart ∙ none

pub length-emptied : (count first : ℕ) (places : List (Option Rect)) → length (emptied count first places) ≡ length places
length-emptied zero first places = refl
length-emptied (suc count) first places = length-set (emptied count first places) (first + count) None ∙ length-emptied count first places

emptied-none : (count first : ℕ) (places : List (Option Rect)) (id : ℕ) → place_in places id ≡ None → place_in (emptied count first places) id ≡ None
emptied-none zero first places id none = none
emptied-none (suc count) first places id none = still_empty (emptied count first places) (first + count) id (emptied-none count first places id none)

emptied-inside : (count first : ℕ) (places : List (Option Rect)) (id : ℕ) → first ≤ id → id < first + count → place_in (emptied count first places) id ≡ None
emptied-inside zero first places id low high = absurd (omega (arith, low, high))
emptied-inside (suc count) first places id low high = by (cases_eq id (first + count)) (λ less. emptied-inside count first places id low less)
  where
    by : (id ≡ first + count) ⊎ (id ≡ first + count → ⊥) → (id < first + count → place_in (emptied count first places) id ≡ None) → place_in (emptied (suc count) first places) id ≡ None
    by (inl same) rest = ap (place_in (emptied (suc count) first places)) same ∙ emptied_slot (emptied count first places) (first + count)
    by (inr apart) rest = get_or-set_other (emptied count first places) (first + count) id None None apart ∙ rest (omega (arith, high, apart))

emptied-outside : (count first : ℕ) (places : List (Option Rect)) (id : ℕ) → (first ≤ id → id < first + count → ⊥) → place_in (emptied count first places) id ≡ place_in places id
emptied-outside zero first places id out = refl
emptied-outside (suc count) first places id out =
    get_or-set_other (emptied count first places) (first + count) id None None (λ same. out (omega (arith, same)) (omega (arith, same)))
    ∙ emptied-outside count first places id (λ low high. out low (omega (arith, high)))

-- the slots of a client's numbers are emptied, and no others
pub length-unplaced : (client : ℕ) (places : List (Option Rect)) → length (unplaced client places) ≡ length places
unfolding unplaced
length-unplaced client places = length-emptied 128 (first_number client) places

pub unplaced-none : (client : ℕ) (places : List (Option Rect)) (id : ℕ) → place_in places id ≡ None → place_in (unplaced client places) id ≡ None
unfolding unplaced
unplaced-none client places id none = emptied-none 128 (first_number client) places id none

pub unplaced-own : (client : ℕ) (places : List (Option Rect)) (id : ℕ) → first_number client ≤ id → id < first_number client + 128 → place_in (unplaced client places) id ≡ None
unfolding unplaced
unplaced-own client places id low high = emptied-inside 128 (first_number client) places id low high

pub unplaced-other : (client : ℕ) (places : List (Option Rect)) (id : ℕ) → (first_number client ≤ id → id < first_number client + 128 → ⊥) → place_in (unplaced client places) id ≡ place_in places id
unfolding unplaced
unplaced-other client places id out = emptied-outside 128 (first_number client) places id out
