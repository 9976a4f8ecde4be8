-- Facts on rosters: what taking a key out leaves, and that each change keeps what holds of every roster.
use Rattle.std.proofs.Common.{suc, ◌≡◌, ◌≢◌, ℕ, ◌+◌, ◌<◌, ◌≤◌, Bool, true, false, not, ◌||◌, ◌==◌, nat_le, inl, inr, List, [], ◌∷◌, ◌++◌, length, get_or, AllPairs, refl, sym, ap, ◌∙◌, arith}
use Rattle.std.proofs.lemmas.Bool.{or_parts, or_from, cases_Bool, leb-true, eqb-true, eqb-false, ne_eqb, false≢true, not-true, not-false, not_from_false, cond_both, cond-true}
use Rattle.std.proofs.lemmas.List.{length_push}
use Rattle.std.proofs.lemmas.List.Elements.{All-get_or, filter_passes}
use Rattle.std.proofs.lemmas.List.Filters.{sum_by-filter_both}
use Rattle.std.proofs.lemmas.List.Kept.{AllPairs-filter}
use Rattle.std.proofs.lemmas.List.Quantifiers.{all_pairs_push}
use Rattle.std.proofs.lemmas.List.Sums.{length-filter, count_by-le-length, sum_by_push}
use Rattle.admit_core.specs.Roster.{RosterState, IsRoster, has_key, others, total, empty_roster}
use Rattle.admit_core.specs.Admission.{fits, admitted, dismissed}

-- the other keys' shares come to no more
pub total_of_fewer : (key : ℕ) (entries : List (ℕ × ℕ)) → total (others key entries) ≤ total entries
unfolding total others
total_of_fewer key entries = omega (arith, sum_by-filter_both {X = ℕ × ℕ} (λ e. not (e.0 == key)) (λ e. not (not (e.0 == key))) (λ _. refl) (λ e. e.1) entries)

pub total_push : (entries : List (ℕ × ℕ)) (key share : ℕ) → total (entries ++ (key, share) ∷ []) ≡ total entries + share
unfolding total
total_push entries key share = sum_by_push (λ e. e.1) entries (key, share)

pub length-others-le : (key : ℕ) (entries : List (ℕ × ℕ)) → length (others key entries) ≤ length entries
unfolding others
length-others-le key entries = omega (arith, length-filter (λ e. not (e.0 == key)) entries, count_by-le-length (λ e. not (e.0 == key)) entries)

second_of : (a b : Bool) → (a || b) ≡ true → not a ≡ true → b ≡ true
second_of true b either out = absurd (false≢true out)
second_of false b either out = either

-- a key that is there leaves room
pub length-others-lt : (key : ℕ) (entries : List (ℕ × ℕ)) → has_key key entries ≡ true → length (others key entries) < length entries
unfolding has_key others
length-others-lt key [] there = absurd (false≢true there)
length-others-lt key (e ∷ es) there =
    cond_both (not (e.0 == key)) (e ∷ others key es) (others key es) (λ xs. length xs < suc (length es))
    (λ other. omega (arith, length-others-lt key es (second_of (e.0 == key) (has_key key es) there other)))
    (λ same. omega (arith, length-others-le key es))

-- a key that isn't there changes nothing by leaving
pub others_absent : (key : ℕ) (entries : List (ℕ × ℕ)) → has_key key entries ≡ false → others key entries ≡ entries
unfolding has_key others
others_absent key [] absent = refl
others_absent key (e ∷ es) absent =
    let parts = or_parts (e.0 == key) (has_key key es) absent in
    cond-true (not (e.0 == key)) (e ∷ others key es) (others key es) (not_from_false (e.0 == key) parts.0) ∙ ap (λ xs. e ∷ xs) (others_absent key es parts.1)

-- no other entry has the key
pub has_key-others : (key : ℕ) (entries : List (ℕ × ℕ)) → has_key key (others key entries) ≡ false
unfolding has_key others
has_key-others key [] = refl
has_key-others key (e ∷ es) =
    cond_both (not (e.0 == key)) (e ∷ others key es) (others key es) (λ xs. has_key key xs ≡ false)
    (λ other. or_from (e.0 == key) (has_key key (others key es)) (not-true (e.0 == key) other) (has_key-others key es))
    (λ same. has_key-others key es)

-- other keys stay
pub has_key_other-others : (other key : ℕ) (entries : List (ℕ × ℕ)) → other ≢ key → has_key other (others key entries) ≡ has_key other entries
unfolding has_key others
has_key_other-others other key [] differ = refl
has_key_other-others other key (e ∷ es) differ =
    let rest = has_key_other-others other key es differ in
    cond_both (not (e.0 == key)) (e ∷ others key es) (others key es) (λ xs. has_key other xs ≡ has_key other (e ∷ es))
    (λ stays. ap (λ b. (e.0 == other) || b) rest)
    (λ goes. let same : e.0 ≡ key = eqb-true e.0 key (not-false (e.0 == key) goes) in rest ∙ sym (ap (λ b. b || has_key other es) (ne_eqb e.0 other (λ h. differ (sym h ∙ same)))))

-- where a key may be admitted there is room for it
pub room_for : (key : ℕ) (entries : List (ℕ × ℕ)) → (has_key key entries ≡ false → length entries < 128) → length entries ≤ 128 → length (others key entries) < 128
room_for key entries may few =
    elim (cases_Bool (has_key key entries)) [
      | inl there ↦ omega (arith, length-others-lt key entries there)
      | inr absent ↦ omega (arith, length-others-le key entries, may absent)
    ]

-- none of the others has the key
pub key_at-others : (key : ℕ) (entries : List (ℕ × ℕ)) (k : ℕ) (d : ℕ × ℕ) → k < length (others key entries) → (get_or (others key entries) k d).0 ≢ key
unfolding others
key_at-others key entries k d within =
    let passes = All-get_or (λ (e : ℕ × ℕ). not (e.0 == key) ≡ true) (others key entries) k d within (filter_passes (λ e. not (e.0 == key)) entries) in
    eqb-false (get_or (others key entries) k d).0 key (not-true ((get_or (others key entries) k d).0 == key) passes)

own_keys-others : (key : ℕ) (entries : List (ℕ × ℕ)) → AllPairs (λ (a b : ℕ × ℕ). a.0 ≢ b.0) entries → AllPairs (λ (a b : ℕ × ℕ). a.0 ≢ b.0) (others key entries)
unfolding others
own_keys-others key entries own = AllPairs-filter (λ (a b : ℕ × ℕ). a.0 ≢ b.0) (λ e. not (e.0 == key)) entries own

pub IsRoster-empty_roster : (limit : ℕ) → IsRoster (empty_roster limit)
unfolding empty_roster total
IsRoster-empty_roster limit = record { few = omega arith; own_keys = λ i j d before within. absurd (omega arith); within_limit = omega arith }

pub IsRoster-dismissed : (roster : RosterState) (key : ℕ) → IsRoster roster → IsRoster (dismissed roster key)
unfolding dismissed
IsRoster-dismissed roster key r = record {
  few = omega (arith, r.few, length-others-le key roster.entries);
  own_keys = own_keys-others key roster.entries r.own_keys;
  within_limit = omega (arith, r.within_limit, total_of_fewer key roster.entries);
}

-- an entry that fits may stand last
pub IsRoster-last : (roster : RosterState) (key share : ℕ) → IsRoster roster → length (others key roster.entries) < 128 → total (others key roster.entries) + share ≤ roster.limit → IsRoster (record roster { entries = others key roster.entries ++ (key, share) ∷ [] })
IsRoster-last roster key share r room within = record {
  few = omega (arith, length_push (others key roster.entries) (key, share));
  own_keys = all_pairs_push (λ (a b : ℕ × ℕ). a.0 ≢ b.0) (others key roster.entries) (key, share) (own_keys-others key roster.entries r.own_keys) (key_at-others key roster.entries);
  within_limit = omega (arith, total_push (others key roster.entries) key share);
}

pub IsRoster-admitted : (roster : RosterState) (key share : ℕ) → IsRoster roster → (has_key key roster.entries ≡ false → length roster.entries < 128) → IsRoster (admitted roster key share)
unfolding admitted fits
IsRoster-admitted roster key share r may =
    cond_both (nat_le (total (others key roster.entries) + share) roster.limit) (record roster { entries = others key roster.entries ++ (key, share) ∷ [] }) roster IsRoster
    (λ fits. IsRoster-last roster key share r (room_for key roster.entries may r.few) (leb-true _ _ fits))
    (λ _. r)
