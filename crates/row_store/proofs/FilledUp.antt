-- The slots of all numbers, after one more is made, one is filled, and some are emptied.
use Rattle.std.proofs.Common.{◌≡◌, ◌<◌, ◌≤◌, ◌+◌, ◌-◌, ◌++◌, ℕ, zero, suc, length, replicate, List, [], ◌∷◌, Option, None, refl, sym, ap, ◌∙◌, arith}
use Rattle.std.proofs.Math.ListN.{length-set}
use Rattle.std.proofs.lemmas.List.{set-append_left, append_assoc, length-append, length_push, length-replicate}
use Rattle.geom_core.specs.declared.rectangle.Rect.{Rect}
use Rattle.widget_model.specs.Nodes.{first_number}
use Rattle.widget_model.specs.KeptPlaces.{place_in, placed, emptied, unplaced}
use Rattle.widget_model.proofs.Slots.{length-emptied}
use Rattle.row_store.specs.KeptSlots.{filled_up}

pub none_anywhere : (count id : ℕ) → place_in (replicate count None) id ≡ None
none_anywhere zero id = refl
none_anywhere (suc count) zero = refl
none_anywhere (suc count) (suc id) = none_anywhere count id

place_in-then_none : (places : List (Option Rect)) (count id : ℕ) → place_in (places ++ replicate count None) id ≡ place_in places id
place_in-then_none [] count id = none_anywhere count id
place_in-then_none (place ∷ places) count zero = refl
place_in-then_none (place ∷ places) count (suc id) = place_in-then_none places count id

pub place_in-filled_up : (most : ℕ) (places : List (Option Rect)) (id : ℕ) → place_in (filled_up most places) id ≡ place_in places id
place_in-filled_up most places id = place_in-then_none places (most - length places) id

pub length-filled_up : (most : ℕ) (places : List (Option Rect)) → length places ≤ most → length (filled_up most places) ≡ most
length-filled_up most places few =
    let count = length-replicate {A = Option Rect} (most - length places) None in
    length-append places (replicate (most - length places) None) ∙ omega (arith, few, count)

-- one more slot is made
pub filled_up-push : (most : ℕ) (places : List (Option Rect)) → length places < most → filled_up most (places ++ None ∷ []) ≡ filled_up most places
filled_up-push most places few =
    let more : suc (most - length (places ++ None ∷ [])) ≡ most - length places = omega (arith, few, length_push places None) in
    append_assoc places (None ∷ []) (replicate (most - length (places ++ None ∷ [])) None)
    ∙ ap (λ (count : ℕ). places ++ replicate count None) more

-- a slot that is made is filled
pub filled_up-placed : (most : ℕ) (places : List (Option Rect)) (id : ℕ) (place : Option Rect) → id < length places → filled_up most (placed id place places) ≡ placed id place (filled_up most places)
filled_up-placed most places id place made =
    ap (λ (n : ℕ). placed id place places ++ replicate (most - n) None) (length-set places id place)
    ∙ sym (set-append_left places (replicate (most - length places) None) id place made)

-- slots that are made are emptied
pub filled_up-emptied : (most count first : ℕ) (places : List (Option Rect)) → first + count ≤ length places → filled_up most (emptied count first places) ≡ emptied count first (filled_up most places)
filled_up-emptied most zero first places made = refl
filled_up-emptied most (suc count) first places made =
    filled_up-placed most (emptied count first places) (first + count) None (omega (arith, made, length-emptied count first places))
    ∙ ap (placed (first + count) None) (filled_up-emptied most count first places (omega (arith, made)))

pub filled_up-unplaced : (most client : ℕ) (places : List (Option Rect)) (first : ℕ) → first ≡ first_number client → first + 128 ≤ length places → filled_up most (emptied 128 first places) ≡ unplaced client (filled_up most places)
unfolding unplaced
filled_up-unplaced most client places first same made =
    filled_up-emptied most 128 first places made ∙ ap (λ (n : ℕ). emptied 128 n (filled_up most places)) same
