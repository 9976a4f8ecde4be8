-- What was shown before a change, and its shot: from them the reach of the change is told. A change may leave the shot as
-- it is, and then it reaches only widgets whose looks differ.
use Rattle.std.specs.Prelude.{◌≡◌, ℕ, nat_eq, List}
use Rattle.std.specs.List.{list_any}
use Rattle.desk_model.specs.DeskFacts.{AreOpenOnce}
use Rattle.machine_model.specs.Damage.{in_reach}
use Rattle.scene_core.specs.declared.view.View.{View}
use Rattle.scene_core.specs.View.{IsView, scene_of}
use Rattle.shot_core.specs.Shot.{Seen}
use Rattle.redraw_core.specs.Dirt.{Dirt}
use Rattle.damage_rules.specs.Views.{Sight, IsSight, IsShotIn, KeepsNumbers, has_other_look, scene_in}
use Rattle.drawing_core.specs.Marking.{Marked}

-- what a view shows, by the numbers of widgets
abbrev pub sight_of : View → Sight
sight_of view = record { widgets = view.tree.now; windows = view.stack.now; pointer = view.pointer.now }

-- Before the change to what the view shows, this was shown, on a screen of the view's size. This is its shot, no number
-- passes from one widget to another, and `looks` has the numbers of the widgets that are shown before and after and
-- whose looks differ.
pub record Precedes (before : Sight) (view : View) (shot : Seen) (looks : List ℕ) : Type 0 where
  pub is : IsSight before
  pub numbers : KeepsNumbers before.widgets.entries view.tree.now.entries
  pub shot_is : IsShotIn before view.width view.height shot
  pub looks_differ : (id : ℕ) → list_any (nat_eq id) looks ≡ has_other_look before (sight_of view) view.width view.height id

-- What is reached became dirty of each change to what a view shows that left the shot as it was, and in which these are the
-- numbers of the widgets whose looks differ.
abbrev pub MarksLooks : Seen → List ℕ → Dirt → Dirt → Type 0
MarksLooks shot looks old new =
    (before : Sight) (view : View) → IsView view → AreOpenOnce (scene_of view).windows → IsShotIn (sight_of view) view.width view.height shot → Precedes before view shot looks
    → Marked (in_reach (scene_in before view.width view.height) (scene_of view)) old new
