-- Where all that is shown stands still, a shot stays the shot of what is shown.
use Rattle.std.proofs.Common.{◌≡◌, ℕ, ℤ, true, false, nat_eq, List, [], ◌∷◌, map, Option, Some, None, refl, sym, ap, ◌∙◌}
use Rattle.std.specs.Prelude.{IsSomeAnd}
use Rattle.std.specs.List.{All, Contains, list_any}
use Rattle.std.specs.Option.{option_map_or}
use Rattle.std.proofs.lemmas.List.Elements.{All-head, All-tail, All-contains_itself}
use Rattle.geom_core.specs.declared.rectangle.Rect.{Rect}
use Rattle.shot_core.specs.declared.spot.Spot.{Spot}
use Rattle.shot_core.specs.Shot.{Seen, spot_at}
use Rattle.widget_model.specs.Relatives.{parent_id, root_id}
use Rattle.view_shots.specs.Shots.{IsSpotBy, is_shown_id, place_by, shows_by}
use Rattle.view_shots.proofs.ShotSteps.{under-shown}
use Rattle.scene_core.proofs.Tops.{under-window}
use Rattle.damage_rules.specs.Views.{Sight, IsSight, IsShotIn, scene_in}

-- Each number has the parent and the root that it had, and one that is shown has its place and its pixels. The open windows
-- are the same.
pub record StandsStill (old new : Sight) (width height width' height' : ℕ) : Type 0 where
  pub windows : new.windows ≡ old.windows
  pub parents : (id : ℕ) → parent_id new.widgets id ≡ parent_id old.widgets id
  pub roots : (id : ℕ) → root_id new.widgets id ≡ root_id old.widgets id
  pub places : (id : ℕ) → is_shown_id old.widgets old.windows id ≡ true → place_by new.widgets id ≡ place_by old.widgets id
  pub shows : (id : ℕ) (x y : ℤ) → is_shown_id old.widgets old.windows id ≡ true → shows_by new.widgets (scene_in new width' height') id x y ≡ shows_by old.widgets (scene_in old width height) id x y

-- the same widgets are shown
pub shown-still : (old new : Sight) (id : ℕ) → new.windows ≡ old.windows → root_id new.widgets id ≡ root_id old.widgets id → is_shown_id new.widgets new.windows id ≡ is_shown_id old.widgets old.windows id
unfolding is_shown_id
shown-still old new id windows root = λ i. option_map_or (λ (top : ℕ). list_any (nat_eq top) (windows i)) (root i) false

some_and : {X : Type 0} (P Q : X → Type 0) (o : Option X) → ((x : X) → P x → Q x) → IsSomeAnd o P → IsSomeAnd o Q
some_and P Q None h p = p
some_and P Q (Some x) h p = h x p

-- places that are the same of each window
order-still : (f g : ℕ → Rect) (all windows : List ℕ) → ((id : ℕ) → Contains all id → f id ≡ g id) → All (Contains all) windows → map {B = ℕ × Rect} (λ (id : ℕ). (id, f id)) windows ≡ map {B = ℕ × Rect} (λ (id : ℕ). (id, g id)) windows
order-still f g all [] each among = refl
order-still f g all (id ∷ windows) each among =
    let first = each id (All-head (Contains all) id windows among) in
    let rest = order-still f g all windows each (All-tail (Contains all) id windows among) in
    λ i. (id, first i) ∷ rest i

pub shot-still : (old new : Sight) (width height width' height' : ℕ) (shot : Seen) → IsSight old → StandsStill old new width height width' height' → IsShotIn old width height shot → IsShotIn new width' height' shot
shot-still old new width height width' height' shot sight still is =
    let shown : (id : ℕ) → is_shown_id new.widgets new.windows id ≡ is_shown_id old.widgets old.windows id = λ id. shown-still old new id still.windows (still.roots id) in
    record {
      order =
          is.order
          ∙ order-still (place_by old.widgets) (place_by new.widgets) old.windows old.windows (λ id among. sym (still.places id (under-shown old.widgets old.windows id (under-window old.widgets old.windows id sight.valid sight.windows among)))) (All-contains_itself old.windows)
          ∙ ap (map {B = ℕ × Rect} (λ (id : ℕ). (id, place_by new.widgets id))) (sym still.windows);
      shown = λ id on.
          let was : is_shown_id old.widgets old.windows id ≡ true = sym (shown id) ∙ on in
          some_and (IsSpotBy old.widgets (scene_in old width height) id) (IsSpotBy new.widgets (scene_in new width' height') id) (spot_at shot id) (λ spot. spot-still id spot was) (is.shown id was);
      unshown = λ id off. is.unshown id (sym (shown id) ∙ off);
    }
  where
    spot-still : (id : ℕ) (spot : Spot) → is_shown_id old.widgets old.windows id ≡ true → IsSpotBy old.widgets (scene_in old width height) id spot → IsSpotBy new.widgets (scene_in new width' height') id spot
    spot-still id spot was at = record {
      parent = at.parent ∙ sym (still.parents id);
      window = still.roots id ∙ at.window;
      place = at.place ∙ sym (still.places id was);
      shown = λ x y. at.shown x y ∙ sym (still.shows id x y was);
    }
