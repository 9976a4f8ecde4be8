-- Where a shot stays as it is, what all numbers give is what the touched ones give.
use Rattle.std.proofs.Common.{◌≡◌, ℕ, ℤ, Bool, true, false, cond, ◌&&◌, ◌||◌, not, nat_eq, List, [], ◌∷◌, ◌++◌, Option, Some, None, refl, sym, ap, ◌∙◌}
use Rattle.std.specs.List.{list_any}
use Rattle.std.proofs.lemmas.Bool.{true≢false}
use Rattle.geom_core.specs.Rect.{in_rect}
use Rattle.geom_core.specs.declared.rectangle.Rect.{Rect}
use Rattle.look_core.specs.Same.{same_look}
use Rattle.look_core.proofs.SameLemmas.{same_are_equal}
use Rattle.desk_model.specs.DeskFacts.{AreOpenOnce}
use Rattle.machine_model.proofs.Still.{still_unreached}
use Rattle.shot_core.specs.Shot.{Seen, spot_at}
use Rattle.shot_core.specs.declared.spot.Spot.{Spot}
use Rattle.view_shots.specs.Shots.{is_shown_id}
use Rattle.damage_rules.specs.Areas.{areas_of, area_of, is_named, is_altered, is_shifted, is_kept}
use Rattle.damage_rules.specs.Numbering.{in_areas}
use Rattle.damage_rules.specs.Views.{Sight, IsSight, IsShotIn, AreSeen, KeepsNumbers, scene_in, look_by, has_other_look}
use Rattle.damage_rules.proofs.Views.{reach_of_views}
use Rattle.damage_rules.proofs.ViewNumbers.{named-at}
use Rattle.drawing_core.specs.Marking.{is_given, is_given_touched}
use Rattle.drawing_core.proofs.GivenLemmas.{Gives, both_ways, giving, given-all, given-of, given-one}

-- no number passes on where nothing changes
own_numbers : (sight : Sight) → IsSight sight → KeepsNumbers sight.widgets.entries sight.widgets.entries
own_numbers sight is = record {
  one_key = λ id key key' at at'. let same : Some key ≡ Some key' = sym at ∙ at' in let keys : key ≡ key' = cc in keys;
  one_number = λ key id id' at at'. let same : Some id ≡ Some id' = sym (named-at sight.widgets id key is.valid at) ∙ named-at sight.widgets id' key is.valid at' in let ids : id ≡ id' = cc in ids;
}

-- and no look differs
no_other_look : (sight : Sight) (width height id : ℕ) → has_other_look sight sight width height id ≡ false
unfolding has_other_look
no_other_look sight width height id =
    let look = look_by sight width height id in
    none (is_shown_id sight.widgets sight.windows id) (same_look look look) ((same_are_equal look look).1 refl)
  where
    none : (shown same : Bool) → same ≡ true → (shown && (shown && not same)) ≡ false
    none true same is = ap not is
    none false same is = refl

-- without touched looks no number gives anything
pub nothing_given : (sight : Sight) (width height : ℕ) (shot : Seen) → IsSight sight → AreOpenOnce (scene_in sight width height).windows → IsShotIn sight width height shot → (x y : ℤ) → is_given shot shot [] x y ≡ false
nothing_given sight width height shot is once seen x y =
    let both : AreSeen sight sight width height shot shot [] = record {
      sight_before = is;
      sight_after = is;
      numbers = own_numbers sight is;
      shot_before = seen;
      shot_after = seen;
      looks_differ = λ id. sym (no_other_look sight width height id);
    } in
    sym (reach_of_views sight sight width height shot shot [] both x y) ∙ still_unreached (scene_in sight width height) once x y

-- what an untouched number gives doesn't depend on the touched looks
untouched-areas : (shot : Seen) (looks : List ℕ) (id : ℕ) → list_any (nat_eq id) looks ≡ false → areas_of shot shot looks id ≡ areas_of shot shot [] id
unfolding areas_of is_named is_altered
untouched-areas shot looks id none =
    let same = one (spot_at shot id) in
    λ i. same i ++ same i
  where
    one : (o : Option Spot) → area_of shot shot looks id o ≡ area_of shot shot [] id o
    one None = refl
    one (Some spot) =
        ap (λ (touched : Bool). cond (cond (is_shifted shot shot spot.window) (nat_eq spot.window id) (not (is_kept spot.window (spot_at shot id) (spot_at shot id)) || touched)) (spot.shown ∷ []) []) none

untouched-given : (shot : Seen) (looks : List ℕ) (x y : ℤ) (id : ℕ) → list_any (nat_eq id) looks ≡ false → in_areas shot shot looks x y id ≡ in_areas shot shot [] x y id
untouched-given shot looks x y id none = ap (list_any (λ (area : Rect). in_rect area x y)) (untouched-areas shot looks id none)

-- where nothing is given without touched looks, what is given comes from the touched numbers
pub given-touched : (shot : Seen) (looks : List ℕ) (x y : ℤ) → is_given shot shot [] x y ≡ false → is_given_touched shot looks x y ≡ is_given shot shot looks x y
given-touched shot looks x y none =
    both_ways (is_given_touched shot looks x y) (is_given shot shot looks x y) (given-all shot shot looks x y looks)
    (λ given. let found = giving shot shot looks x y given in given-of shot shot looks x y looks found.0 (among found.0 found.1 (list_any (nat_eq found.0) looks) refl) found.1)
  where
    among : (id : ℕ) → Gives shot shot looks x y id → (b : Bool) → list_any (nat_eq id) looks ≡ b → list_any (nat_eq id) looks ≡ true
    among id is true there = there
    among id is false off =
        let bare : Gives shot shot [] x y id = record { low = is.low; gives = sym (untouched-given shot looks x y id off) ∙ is.gives } in
        absurd (true≢false (sym (given-one shot shot [] x y id bare) ∙ none))
