-- An inner word of the proofs: what has come into a shot when the spots of a widget and of those below it are put in.
use Rattle.std.specs.Prelude.{ℕ, ◌≡◌, ◌-◌, ◌<◌, true, List, map, take, slice_index, IfSome, IsSome}
use Rattle.widget_model.specs.Widgets.{Widgets}
use Rattle.scene_model.specs.Scene.{Scene}
use Rattle.shot_core.specs.Shot.{Seen, IsShot, spot_at}
use Rattle.shot_core.specs.declared.spot.Spot.{Spot}
use Rattle.scene_core.specs.Laid.{IsBelow}
use Rattle.view_shots.specs.Shots.{place_by, is_shown_id, IsSpotBy}

-- each spot that is there is that of a shown widget
pub record IsShownSpot (widgets : Widgets) (windows : List ℕ) (scene : Scene) (id : ℕ) (spot : Spot) : Type 0 where
  pub shown : is_shown_id widgets windows id ≡ true
  pub is : IsSpotBy widgets scene id spot

pub record AreSpots (widgets : Widgets) (windows : List ℕ) (scene : Scene) (shot : Seen) : Type 0 where
  pub valid : IsShot shot
  pub each : (id : ℕ) → IfSome (spot_at shot id) (IsShownSpot widgets windows scene id)

-- windows stay, and so do spots
pub record Keeps (old new : Seen) : Type 0 where
  pub windows : new.windows ≡ old.windows
  pub spots : (other : ℕ) → IsSome (spot_at old other) → IsSome (spot_at new other)

-- each widget below this one has a spot
abbrev pub HasBelow : ℕ → Widgets → ℕ → Seen → Type 0
HasBelow most widgets id shot = (other : ℕ) → IsBelow most widgets id other → IsSome (spot_at shot other)

-- the spots of the widget and of all below it are put in
pub record ArePut (most : ℕ) (widgets : Widgets) (windows : List ℕ) (scene : Scene) (id : ℕ) (old new : Seen) : Type 0 where
  pub spots : AreSpots widgets windows scene new
  pub keeps : Keeps old new
  pub under : HasBelow most widgets id new

-- those of the widget and of all below its first children are
pub record ArePartlyPut (most : ℕ) (widgets : Widgets) (windows : List ℕ) (scene : Scene) (id index : ℕ) (keys : List ℕ) (old new : Seen) : Type 0 where
  pub spots : AreSpots widgets windows scene new
  pub keeps : Keeps old new
  pub own : IsSome (spot_at new id)
  pub under : (k : ℕ) → k < index → HasBelow (most - 1) widgets (slice_index keys k) new

-- those of the first windows and of all below them are
pub record AreShot (most : ℕ) (widgets : Widgets) (windows : List ℕ) (scene : Scene) (index : ℕ) (shot : Seen) : Type 0 where
  pub order : shot.windows ≡ map (λ id. (id, place_by widgets id)) (take index windows)
  pub spots : AreSpots widgets windows scene shot
  pub under : (k : ℕ) → k < index → HasBelow most widgets (slice_index windows k) shot
