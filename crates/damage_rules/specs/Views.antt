-- Two views, before and after one event: what their shots give of all numbers together is the reach between their scenes.
use Rattle.std.specs.Prelude.{ℕ, ℤ, ◌≡◌, Bool, ◌&&◌, not, nat_eq, List, Some}
use Rattle.std.specs.List.{list_any, range_with_len}
use Rattle.std.specs.Option.{option_map_or}
use Rattle.look_core.specs.Seen as drawn
use Rattle.look_core.specs.Same.{same_look}
use Rattle.widget_model.specs.Rows.{Row}
use Rattle.widget_model.specs.Widgets.{Widgets, key_at}
use Rattle.widget_model.specs.Forest.{IsWidgets}
use Rattle.tree_core.specs.declared.pointer.Pointer.{Pointer}
use Rattle.scene_model.specs.Scene.{Scene}
use Rattle.scene_model.specs.Colours.{look_at}
use Rattle.scene_core.specs.View.{AreWindows, scene_from}
use Rattle.view_shots.specs.Shots.{IsShotBy, is_shown_id}
use Rattle.machine_model.specs.Damage.{in_reach}
use Rattle.shot_core.specs.Shot.{Seen, most_numbers}
use Rattle.damage_rules.specs.Numbering.{in_areas}

-- Within one event no number passes from one widget to another: a number that is live before and after names one key, and
-- a key that is there before and after has one number.
pub record KeepsNumbers (before after : List (ℕ × Row)) : Type 0 where
  pub one_key : (id : ℕ) (key key' : ℕ × List ℕ) → key_at before id ≡ Some key → key_at after id ≡ Some key' → key ≡ key'
  pub one_number : (key : ℕ × List ℕ) (id id' : ℕ) → key_at before id ≡ Some key → key_at after id' ≡ Some key → id ≡ id'

-- what a view looks at: the widgets, the numbers of the open windows from top to bottom, and the pointer
pub record Sight : Type 0 where
  pub widgets : Widgets
  pub windows : List ℕ
  pub pointer : Pointer

-- its scene on a screen of that size
abbrev pub scene_in : Sight → ℕ → ℕ → Scene
scene_in sight width height = scene_from sight.widgets sight.windows sight.pointer width height

-- whether the shot is that of the view on a screen of that size
abbrev pub IsShotIn : Sight → ℕ → ℕ → Seen → Type 0
IsShotIn sight width height shot = IsShotBy sight.widgets sight.windows sight.pointer width height shot

-- In every desk the widgets are valid, and the open windows are live Windows, each once.
pub record IsSight (sight : Sight) : Type 0 where
  pub valid : IsWidgets sight.widgets
  pub windows : AreWindows sight.widgets sight.windows

-- the look of the numbered widget
abbrev pub look_by : Sight → ℕ → ℕ → ℕ → drawn.Seen
look_by sight width height id = option_map_or (look_at (scene_in sight width height)) (key_at sight.widgets.entries id) drawn.no_film

-- whether the numbered widget is shown before and after, and its look differs
unfoldable pub has_other_look : Sight → Sight → ℕ → ℕ → ℕ → Bool
has_other_look before after width height id =
    is_shown_id before.widgets before.windows id && (is_shown_id after.widgets after.windows id && not (same_look (look_by before width height id) (look_by after width height id)))

-- two views on a screen of that size with their shots, and the numbers of the looks that differ between them
pub record AreSeen (before after : Sight) (width height : ℕ) (shot shot' : Seen) (looks : List ℕ) : Type 0 where
  pub sight_before : IsSight before
  pub sight_after : IsSight after
  pub numbers : KeepsNumbers before.widgets.entries after.widgets.entries
  pub shot_before : IsShotIn before width height shot
  pub shot_after : IsShotIn after width height shot'
  pub looks_differ : (id : ℕ) → list_any (nat_eq id) looks ≡ has_other_look before after width height id

-- A pixel is in the reach exactly where one of all numbers gives it.
abbrev pub ReachOfViews : Type 0
ReachOfViews =
    (before after : Sight) (width height : ℕ) (shot shot' : Seen) (looks : List ℕ) → AreSeen before after width height shot shot' looks
    → (x y : ℤ) → in_reach (scene_in before width height) (scene_in after width height) x y ≡ list_any (in_areas shot shot' looks x y) (range_with_len 0 most_numbers)
