-- What holds of the reach: outside it no colour differs.
use Rattle.std.specs.Prelude.{ℤ, ◌≡◌, true, false}
use Rattle.std.specs.List.{list_all}
use Rattle.widget_model.specs.Keys.{row_of}
use Rattle.widget_model.specs.Kinds.{is_window_kind}
use Rattle.widget_model.specs.Named.{is_kind_of, AreNamedApart}
use Rattle.widget_model.specs.Planted.{IsPlanted}
use Rattle.scene_model.specs.Scene.{Scene}
use Rattle.scene_model.specs.Colours.{colour_at}
use Rattle.machine_model.specs.Damage.{in_reach}

-- What every valid desk has: no two widgets of one key, widgets that hang right in one another, and open windows that
-- are Windows.
pub record IsSound (scene : Scene) : Type 0 where
  pub names : AreNamedApart scene.rows
  pub planted : IsPlanted scene.rows
  pub windows : list_all (λ window. is_kind_of is_window_kind (row_of scene.rows window)) scene.windows ≡ true

-- Between two scenes of one size each pixel outside the reach has the same colour in both.
abbrev pub SameOutsideReach : Type 0
SameOutsideReach =
    (before after : Scene) → IsSound before → IsSound after → before.width ≡ after.width → before.height ≡ after.height → (x y : ℤ) → in_reach before after x y ≡ false → colour_at before x y ≡ colour_at after x y
