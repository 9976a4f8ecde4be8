-- What painting shows: each pixel of a set has its colour in the scene, and every other pixel of the screen is as before.
use Rattle.std.specs.Prelude.{◌≡◌, ℕ, ◌<◌, ℤ, pos, Bool, true, if◌then◌else◌}
use Rattle.canvas_core.specs.Screen.{Screen, pixel_of}
use Rattle.geom_core.specs.declared.rectangle.Rect.{Rect}
use Rattle.geom_core.specs.Rect.{in_rect}
use Rattle.scene_model.specs.Scene.{Scene}
use Rattle.scene_model.specs.Showing.{top_of}
use Rattle.scene_model.specs.Colours.{colour_at}

abbrev pub ShowsScene : (ℤ → ℤ → Bool) → Scene → Screen → Screen → Type 0
ShowsScene set scene old new =
    (x y : ℕ) → x < old.width → y < old.height
    → pixel_of new x y ≡ (if set (pos x) (pos y) then colour_at scene (pos x) (pos y) else pixel_of old x y)

-- all pixels of the piece have the same widget on top, or none has one
abbrev pub HasOneTop : Scene → Rect → Type 0
HasOneTop scene piece =
    (x y u v : ℤ) → in_rect piece x y ≡ true → in_rect piece u v ≡ true → top_of scene x y ≡ top_of scene u v
