-- Which looks an event touched: those of the widgets that are shown both before and after it, and whose looks differ.
-- Widgets go by their numbers; one is shown where its root is an open window.
use Rattle.std.specs.Prelude.{ℕ, ◌≡◌, Bool, not, ◌&&◌, nat_eq, List}
use Rattle.std.specs.List.{list_any}
use Rattle.std.specs.Option.{option_map_or}
use Rattle.look_core.specs.Seen.{Seen, no_film}
use Rattle.look_core.specs.Same.{same_look}
use Rattle.widget_model.specs.Widgets.{Widgets, row_at}
use Rattle.scene_model.specs.Scene.{Scene}
use Rattle.scene_model.specs.LookOf.{look_of}
use Rattle.look_data.specs.Kept.{is_shown_at}

-- the widgets and the open windows by their numbers, and the scene that they make up
pub record Numbered : Type 0 where
  pub widgets : Widgets
  pub windows : List ℕ
  pub scene : Scene

abbrev pub is_shown : Numbered → ℕ → Bool
is_shown numbered id = is_shown_at numbered.widgets numbered.windows id

-- the look of the numbered widget
abbrev pub look_numbered : Numbered → ℕ → Seen
look_numbered numbered id = option_map_or (look_of numbered.scene) (row_at numbered.widgets.entries id) no_film

-- whether the numbered widget is shown before and after, and its look differs
abbrev pub is_touched : Numbered → Numbered → ℕ → Bool
is_touched before after id = is_shown before id && (is_shown after id && not (same_look (look_numbered before id) (look_numbered after id)))

-- These numbers are exactly those of the touched looks.
pub record TellsLooks (before after : Numbered) (touched : List ℕ) : Type 0 where
  pub each : (id : ℕ) → list_any (nat_eq id) touched ≡ is_touched before after id
