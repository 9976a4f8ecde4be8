-- What a desk shows: its scene, the colour of each pixel, and the picture, which is the desk drawn afresh.
use Rattle.std.specs.Prelude.{ℕ, pos, List}
use Rattle.scene_model.specs.Scene.{Scene}
use Rattle.scene_model.specs.Colours.{colour_at, picture_of}
use Rattle.desk_model.specs.Desk.{Desk}

abbrev pub scene_of : Desk → Scene
scene_of desk = record { width = desk.shape.width; height = desk.shape.height; rows = desk.rows; windows = desk.windows; pointer = desk.pointer }

-- the colour of the pixel (x, y) of the screen: a palette number
unfoldable pub colour : Desk → ℕ → ℕ → ℕ
colour desk x y = colour_at (scene_of desk) (pos x) (pos y)

unfoldable pub picture : Desk → List ℕ
picture desk = picture_of (scene_of desk)
