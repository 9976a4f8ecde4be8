-- What a beat keeps of the scene: each widget has its place and shows its pixels, and the same widgets are on top.
use Rattle.std.proofs.Common.{◌≡◌, ℕ, ℤ, List, map, Some, slice_get}
use Rattle.std.specs.Option.{option_map}
use Rattle.widget_model.specs.Rows.{Row}
use Rattle.widget_model.specs.Named.{row_named}
use Rattle.widget_model.specs.Trees.{parent_of, root_of}
use Rattle.scene_model.specs.Placing.{place_in}
use Rattle.scene_model.specs.DuePlaces.{due_place}
use Rattle.scene_model.specs.Showing.{place_of, shows_at, top_of}
use Rattle.scene_model.proofs.Still.{still_places}
use Rattle.scene_model.proofs.StillTops.{parent_of-still, root_of-still, place_of-still, shows_at-still, top_of-still, due_place-still}
use Rattle.desk_model.specs.Desk.{Desk}
use Rattle.desk_model.specs.Seen.{scene_of}
use Rattle.desk_model.specs.Screens.{film_named}
use Rattle.desk_model.specs.Beat.{row_beaten, beat}
use Rattle.desk_model.proofs.BeatRows.{film_beaten, row_named-beaten, film_named-beaten, MovesNothing-beaten}

-- the named row of a beat, and its film
pub row_named-beat : (desk : Desk) (client : ℕ) (name : List ℕ) → row_named (beat desk).rows client name ≡ option_map row_beaten (row_named desk.rows client name)
unfolding beat
row_named-beat desk client name = row_named-beaten desk.rows client name

pub film_named-beat : (desk : Desk) (client : ℕ) (name : List ℕ) → film_named (beat desk).rows client name ≡ option_map film_beaten (film_named desk.rows client name)
unfolding beat
film_named-beat desk client name = film_named-beaten desk.rows client name

-- how widgets hang in one another
pub parent_of-beat : (desk : Desk) (client : ℕ) (name : List ℕ) → parent_of (beat desk).rows client name ≡ parent_of desk.rows client name
unfolding beat
parent_of-beat desk client name = parent_of-still row_beaten desk.rows (MovesNothing-beaten desk.rows) client name

pub root_of-beat : (desk : Desk) (client : ℕ) (name : List ℕ) → root_of (beat desk).rows client name ≡ root_of desk.rows client name
unfolding beat
root_of-beat desk client name = root_of-still row_beaten desk.rows (MovesNothing-beaten desk.rows) client name

-- the place of each row, and whether it has one
pub place_in-beaten : (rows : List Row) (i : ℕ) (row : Row) → slice_get rows i ≡ Some row → place_in (map row_beaten rows) (row_beaten row) ≡ place_in rows row
place_in-beaten rows i row there = still_places row_beaten rows (MovesNothing-beaten rows) i row there

pub due_place-beaten : (rows : List Row) (i : ℕ) (row : Row) → slice_get rows i ≡ Some row → due_place (map row_beaten rows) (row_beaten row) ≡ due_place rows row
due_place-beaten rows i row there = due_place-still row_beaten rows (MovesNothing-beaten rows) i row there

-- and what the scene shows
pub place_of-beat : (desk : Desk) (key : ℕ × List ℕ) → place_of (scene_of (beat desk)) key ≡ place_of (scene_of desk) key
unfolding beat
place_of-beat desk key = place_of-still row_beaten (scene_of desk) (MovesNothing-beaten desk.rows) key

pub shows_at-beat : (desk : Desk) (key : ℕ × List ℕ) (x y : ℤ) → shows_at (scene_of (beat desk)) key x y ≡ shows_at (scene_of desk) key x y
unfolding beat
shows_at-beat desk key x y = shows_at-still row_beaten (scene_of desk) (MovesNothing-beaten desk.rows) key x y

pub top_of-beat : (desk : Desk) (x y : ℤ) → top_of (scene_of (beat desk)) x y ≡ top_of (scene_of desk) x y
unfolding beat
top_of-beat desk x y = top_of-still row_beaten (scene_of desk) (MovesNothing-beaten desk.rows) x y
