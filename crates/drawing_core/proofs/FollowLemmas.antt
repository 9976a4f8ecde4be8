-- What the shots before and after a change give is its reach.
use Rattle.std.proofs.Common.{◌≡◌, ℕ, ℤ, pos, Bool, ◌||◌, List, sym, ap, ◌∙◌}
use Rattle.machine_model.specs.Damage.{in_reach}
use Rattle.scene_core.specs.declared.view.View.{View}
use Rattle.scene_core.specs.View.{IsView, scene_of}
use Rattle.shot_core.specs.Shot.{Seen}
use Rattle.redraw_core.specs.Dirt.{Dirt, is_dirty}
use Rattle.damage_rules.specs.Views.{Sight, IsShotIn, AreSeen, scene_in}
use Rattle.damage_rules.proofs.Views.{reach_of_views}
use Rattle.drawing_core.specs.Following.{Precedes, sight_of}
use Rattle.drawing_core.specs.Marking.{Marked, is_given}

pub Marked-same : (test test' : ℤ → ℤ → Bool) (old new : Dirt) → ((x y : ℤ) → test x y ≡ test' x y) → Marked test old new → Marked test' old new
Marked-same test test' old new same marked = record {
  pixels = λ x y hx hy. marked.pixels x y hx hy ∙ ap (λ b. is_dirty old x y || b) (same (pos x) (pos y));
  width = marked.width;
  height = marked.height;
  valid = marked.valid;
}

pub Marked-reach : (before : Sight) (view : View) (shot shot' : Seen) (looks : List ℕ) (old new : Dirt) → IsView view → IsShotIn (sight_of view) view.width view.height shot' → Precedes before view shot looks → Marked (is_given shot shot' looks) old new → Marked (in_reach (scene_in before view.width view.height) (scene_of view)) old new
Marked-reach before view shot shot' looks old new is later was marked =
    let seen : AreSeen before (sight_of view) view.width view.height shot shot' looks = record {
      sight_before = was.is;
      sight_after = record { valid = is.valid; windows = is.windows };
      numbers = was.numbers;
      shot_before = was.shot_is;
      shot_after = later;
      looks_differ = was.looks_differ;
    } in
    Marked-same (is_given shot shot' looks) (in_reach (scene_in before view.width view.height) (scene_of view)) old new
    (λ x y. sym (reach_of_views before (sight_of view) view.width view.height shot shot' looks seen x y)) marked
