-- The looks that are kept around an event: those of some numbered widgets, and of the widgets that are linked to one
-- Variable, as far as they are shown.
use Rattle.std.specs.Prelude.{ℕ, ◌≡◌, Bool, false, ◌&&◌, ◌||◌, nat_eq, is_some, List, Option, Some}
use Rattle.std.specs.List.{All, list_any}
use Rattle.std.specs.Option.{option_map_or}
use Rattle.look_core.specs.Seen.{Seen}
use Rattle.widget_model.specs.Widgets.{Widgets}
use Rattle.widget_model.specs.Links.{linked_id}
use Rattle.scene_model.specs.Scene.{Scene}
use Rattle.look_data.specs.Kept.{kept_look, differ}

-- whether the numbered widget is linked to the Variable with that number
abbrev pub is_linked_to : Widgets → ℕ → ℕ → Bool
is_linked_to widgets variable id = option_map_or (nat_eq variable) (linked_id widgets id) false

-- whether the number is one of these, or that of a widget that is linked to the Variable
unfoldable pub is_watched : Widgets → List ℕ → Option ℕ → ℕ → Bool
is_watched widgets named variable id = list_any (nat_eq id) named || option_map_or (λ one. is_linked_to widgets one id) variable false

-- The list has the look of each watched number whose widget is shown, and no other.
pub record AreWatched (named : List ℕ) (variable : Option ℕ) (widgets : Widgets) (windows : List ℕ) (scene : Scene) (looks : List (ℕ × Seen)) : Type 0 where
  pub numbers : (id : ℕ) → list_any (λ (one : ℕ × Seen). nat_eq id one.0) looks ≡ (is_watched widgets named variable id && is_some (kept_look widgets windows scene id))
  pub each : All (λ (one : ℕ × Seen). kept_look widgets windows scene one.0 ≡ Some one.1) looks

-- whether the number has a look in the list that differs from what would be kept of it now
abbrev pub has_changed : List (ℕ × Seen) → Widgets → List ℕ → Scene → ℕ → Bool
has_changed looks widgets windows scene id = list_any (λ (one : ℕ × Seen). nat_eq id one.0 && differ (Some one.1) (kept_look widgets windows scene id)) looks
