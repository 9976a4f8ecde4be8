-- The tracks of a Grid, one after the other.
use Rattle.std.proofs.Common.{◌≡◌, ℕ, zero, suc, ◌+◌, ◌<◌, ◌≤◌, ◌||◌, nat_lt, max, Bool, true, false, List, [], ◌∷◌, ◌++◌, length, map, take, get_or, set, All, refl, sym, ap, ◌∙◌, arith, if◌then◌else◌}
use Rattle.std.specs.List.{range_with_len, list_all}
use Rattle.std.proofs.lemmas.List.{take_more, take_more_set, take_all}
use Rattle.std.proofs.lemmas.List.Elements.{All-map}
use Rattle.std.proofs.lemmas.List.FromFn.{map-range_with_len_more, take-map-range_with_len}
use Rattle.widget_model.specs.Fitting.{fits_rule}
use Rattle.scene_model.specs.Tracks.{Need, asked_in, last_asked, last_ruled, rule_of, track_least, tracks_used, track_leasts, track_weights}
use Rattle.scene_model.proofs.Leasts.{IsFitNeed, asked_in-most, last_asked-most, rule_of-fit}
use Rattle.scene_core.specs.declared.tracks.Tracks.{Tracks}
use Rattle.scene_core.specs.Measured.{AreTracks}

-- one element more of what is made of the numbers from 1 on
pub made_more : (f : ℕ → ℕ) (old new : List ℕ) (i y : ℕ) → i < length old → new ≡ set old i y → y ≡ f (i + 1) → take i old ≡ map f (range_with_len 1 i) → take (i + 1) new ≡ map f (range_with_len 1 (i + 1))
made_more f old new i y less is at before =
    ap (take (i + 1)) is ∙ take_more_set old i y less ∙ ap (λ (ns : List ℕ). ns ++ y ∷ []) before ∙ ap (λ (n : ℕ). map f (range_with_len 1 i) ++ n ∷ []) at
    ∙ sym (map-range_with_len_more f 1 i (i + 1) (omega arith))

ruled : ℕ × ℕ → Bool
ruled rule = nat_lt 0 rule.0 || nat_lt 0 rule.1

last_ruled-last : (start : ℕ) (rules : List (ℕ × ℕ)) (rule : ℕ × ℕ) → last_ruled start (rules ++ rule ∷ []) ≡ max (last_ruled start rules) (if nat_lt 0 rule.0 || nat_lt 0 rule.1 then start + length rules else 0)
last_ruled-last start [] rule = by (nat_lt 0 rule.0 || nat_lt 0 rule.1)
  where
    by : (b : Bool) → max (if b then start else 0) 0 ≡ max 0 (if b then start + 0 else 0)
    by true = omega arith
    by false = omega arith
last_ruled-last start (first ∷ rules) rule = by (nat_lt 0 rule.0 || nat_lt 0 rule.1) (if nat_lt 0 first.0 || nat_lt 0 first.1 then start else 0) (last_ruled-last (start + 1) rules rule)
  where
    by : (b : Bool) (here : ℕ) → last_ruled (start + 1) (rules ++ rule ∷ []) ≡ max (last_ruled (start + 1) rules) (if b then start + 1 + length rules else 0)
        → max here (last_ruled (start + 1) (rules ++ rule ∷ [])) ≡ max (max here (last_ruled (start + 1) rules)) (if b then start + suc (length rules) else 0)
    by true here e = omega arith
    by false here e = omega arith

last_ruled-most : (n : ℕ) (rules : List (ℕ × ℕ)) → last_ruled (n + 1) rules ≤ n + length rules
last_ruled-most n [] = omega arith
last_ruled-most n (rule ∷ rules) = by (nat_lt 0 rule.0 || nat_lt 0 rule.1) (last_ruled-most (n + 1) rules)
  where
    by : (b : Bool) → last_ruled (n + 1 + 1) rules ≤ n + 1 + length rules → max (if b then n + 1 else 0) (last_ruled (n + 1 + 1) rules) ≤ n + suc (length rules)
    by true e = omega arith
    by false e = omega arith

pub used_more : (last : ℕ) (rules : List (ℕ × ℕ)) (i old new : ℕ) (rule : ℕ × ℕ) → i < length rules → rule ≡ rule_of rules (i + 1)
    → new ≡ max old (if nat_lt 0 rule.0 || nat_lt 0 rule.1 then i + 1 else 0) → old ≡ max last (last_ruled 1 (take i rules)) → new ≡ max last (last_ruled 1 (take (i + 1) rules))
used_more last rules i old new rule less at is before =
    let same : get_or rules i (0, 0) ≡ rule = ap (λ (n : ℕ). get_or rules n (0, 0)) (omega arith) ∙ sym at in
    let more : last_ruled 1 (take (i + 1) rules) ≡ max (last_ruled 1 (take i rules)) (if nat_lt 0 rule.0 || nat_lt 0 rule.1 then 1 + length (take i rules) else 0) =
    ap (last_ruled 1) (take_more rules i (0, 0) less ∙ ap (λ (r : ℕ × ℕ). take i rules ++ r ∷ []) same) ∙ last_ruled-last 1 (take i rules) rule in
    let few : length (take i rules) ≡ i = length_take_of i rules (omega arith) in
    by (nat_lt 0 rule.0 || nat_lt 0 rule.1) is more few
  where
    length_take_of : (n : ℕ) (xs : List (ℕ × ℕ)) → n ≤ length xs → length (take n xs) ≡ n
    length_take_of zero xs h = refl
    length_take_of (suc n) [] h = absurd (omega arith)
    length_take_of (suc n) (x ∷ xs) h = ap suc (length_take_of n xs (omega arith))

    by : (b : Bool) → new ≡ max old (if b then i + 1 else 0) → last_ruled 1 (take (i + 1) rules) ≡ max (last_ruled 1 (take i rules)) (if b then 1 + length (take i rules) else 0)
        → length (take i rules) ≡ i → new ≡ max last (last_ruled 1 (take (i + 1) rules))
    by true e m few = omega arith
    by false e m few = omega arith

pub tracks_whole : (needs : List Need) (rules : List (ℕ × ℕ)) (tracks : Tracks) → length tracks.least ≡ 16 → length tracks.weights ≡ 16 → length rules ≡ 16
    → All IsFitNeed needs → list_all fits_rule rules ≡ true
    → take 16 tracks.least ≡ map (track_least needs rules) (range_with_len 1 16) → take 16 tracks.weights ≡ map (λ (track : ℕ). (rule_of rules track).1) (range_with_len 1 16)
    → tracks.used ≡ max (last_asked needs) (last_ruled 1 (take 16 rules)) → AreTracks needs rules tracks
unfolding tracks_used track_leasts track_weights
tracks_whole needs rules tracks long heavy sixteen fit fitting least weights used =
    let all_rules : take 16 rules ≡ rules = take_all 16 rules (omega arith) in
    let all_least : tracks.least ≡ map (track_least needs rules) (range_with_len 1 16) = sym (take_all 16 tracks.least (omega arith)) ∙ least in
    let all_weights : tracks.weights ≡ map (λ (track : ℕ). (rule_of rules track).1) (range_with_len 1 16) = sym (take_all 16 tracks.weights (omega arith)) ∙ weights in
    let is : tracks.used ≡ max (last_asked needs) (last_ruled 1 rules) = used ∙ ap (λ (rs : List (ℕ × ℕ)). max (last_asked needs) (last_ruled 1 rs)) all_rules in
    let few : tracks.used ≤ 16 = omega (arith, last_asked-most needs fit, last_ruled-most 0 rules) in
    record {
      few = few;
      used = is;
      least = ap (take tracks.used) all_least ∙ take-map-range_with_len (track_least needs rules) 1 16 tracks.used few ∙ ap (λ (n : ℕ). map (track_least needs rules) (range_with_len 1 n)) is;
      weights = ap (take tracks.used) all_weights ∙ take-map-range_with_len (λ (track : ℕ). (rule_of rules track).1) 1 16 tracks.used few ∙ ap (λ (n : ℕ). map (λ (track : ℕ). (rule_of rules track).1) (range_with_len 1 n)) is;
      least_small = rw all_least (All-map (λ (n : ℕ). n ≤ 4128) (track_least needs rules) (range_with_len 1 16) (λ k d less. small (get_or (range_with_len 1 16) k d)));
      weights_small = rw all_weights (All-map (λ (n : ℕ). n ≤ 1000) (λ (track : ℕ). (rule_of rules track).1) (range_with_len 1 16) (λ k d less. (rule_of-fit rules (get_or (range_with_len 1 16) k d) fitting).weight_most));
    }
  where
    small : (track : ℕ) → max (rule_of rules track).0 (asked_in needs track) ≤ 4128
    small track = let rule = rule_of-fit rules track fitting in omega (arith, asked_in-most needs track fit, rule.size_most)
