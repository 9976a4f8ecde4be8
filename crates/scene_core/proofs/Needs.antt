-- What children ask for, one child after the other.
use Rattle.std.proofs.Common.{◌≡◌, ℕ, ◌==◌, max, Bool, true, false, cond, List, [], ◌∷◌, ◌++◌, map, refl, arith, if◌then◌else◌}
use Rattle.std.specs.List.{filter}
use Rattle.scene_model.specs.Tracks.{Need, greatest, asked_in, last_asked}

greatest-last : (xs : List ℕ) (n : ℕ) → greatest (xs ++ n ∷ []) ≡ max (greatest xs) n
greatest-last [] n = omega arith
greatest-last (x ∷ xs) n = let e = greatest-last xs n in omega arith

pub asked_in-last : (needs : List Need) (need : Need) (track : ℕ) → asked_in (needs ++ need ∷ []) track ≡ max (asked_in needs track) (if need.track == track then need.room else 0)
asked_in-last [] need track = by (need.track == track) refl
  where
    by : (b : Bool) → (need.track == track) ≡ b → greatest (map (λ (n : Need). n.room) (cond b (need ∷ []) [])) ≡ max 0 (if b then need.room else 0)
    by true q = omega arith
    by false q = omega arith
asked_in-last (first ∷ needs) need track = let e = asked_in-last needs need track in by (first.track == track) e
  where
    by : (b : Bool) → asked_in (needs ++ need ∷ []) track ≡ max (asked_in needs track) (if need.track == track then need.room else 0)
        → greatest (map (λ (n : Need). n.room) (cond b (first ∷ filter (λ (n : Need). n.track == track) (needs ++ need ∷ [])) (filter (λ (n : Need). n.track == track) (needs ++ need ∷ []))))
        ≡ max (greatest (map (λ (n : Need). n.room) (cond b (first ∷ filter (λ (n : Need). n.track == track) needs) (filter (λ (n : Need). n.track == track) needs)))) (if need.track == track then need.room else 0)
    by true e = omega arith
    by false e = e

pub last_asked-last : (needs : List Need) (need : Need) → last_asked (needs ++ need ∷ []) ≡ max (last_asked needs) need.track
last_asked-last [] need = omega arith
last_asked-last (first ∷ needs) need = let e = last_asked-last needs need in omega arith
