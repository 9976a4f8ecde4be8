-- An inner word of the proofs: what painting does to a screen.
use Rattle.std.specs.Prelude.{◌≡◌, ℕ, ◌+◌, ◌-◌, ◌<◌, ◌≤◌, ℤ, pos, Bool, true, ◌&&◌, List, Option, None, if◌then◌else◌}
use Rattle.canvas_core.specs.Screen.{Screen, IsScreen, pixel_of, risen}
use Rattle.geom_core.specs.declared.rectangle.Rect.{Rect}
use Rattle.geom_core.specs.Rect.{in_rect, area_of, IsInside}
use Rattle.geom_core.specs.Pieces.{covers, total_area}
use Rattle.geom_core.specs.Count.{count_in}
use Rattle.painter_core.specs.Layers.{Layers}
use Rattle.painter_core.specs.Trail.{last_of, is_wanted}

-- The pixels of the set have their colours, the others are as they were, and so many bytes were written, of which the
-- count of all time tells too. Of spans it tells as many as the count since the last start.
pub record Painted (set : ℤ → ℤ → Bool) (colour : ℤ → ℤ → ℕ) (count : ℕ) (old new : Screen) : Type 0 where
  pub width : new.width ≡ old.width
  pub height : new.height ≡ old.height
  pub writes : new.writes ≡ old.writes + count
  pub all_writes : new.all_writes ≡ risen old.all_writes count
  pub spans_grow : old.spans ≤ new.spans
  pub all_spans : new.all_spans ≡ risen old.all_spans (new.spans - old.spans)
  pub valid : IsScreen new
  pub pixels : (x y : ℕ) → x < old.width → y < old.height
      → pixel_of new x y ≡ (if set (pos x) (pos y) then colour (pos x) (pos y) else pixel_of old x y)

-- All pixels of the piece were painted as the one widget shows them, a span for each row.
pub record Filled (colour : ℤ → ℤ → ℕ) (piece : Rect) (old new : Screen) : Type 0 where
  pub painted : Painted (in_rect piece) colour (area_of piece) old new
  pub spans : new.spans ≡ old.spans + piece.h

-- which pixels of a set are painted, and in which colour, by the trails of the pixels
abbrev pub wanted_of : Option ℕ → Option ℕ → (ℤ → ℤ → List ℕ) → (ℤ → ℤ → Bool) → ℤ → ℤ → Bool
wanted_of only under way set x y = set x y && is_wanted only (last_of under (way x y))

abbrev pub colour_by : Layers → Option ℕ → (ℤ → ℤ → List ℕ) → ℤ → ℤ → ℕ
colour_by layers under way x y = layers.colour (last_of under (way x y)) x y

-- all pixels of the piece have one trail
abbrev pub HasOneTrail : (ℤ → ℤ → List ℕ) → Rect → Type 0
HasOneTrail way piece = (x y u v : ℤ) → in_rect piece x y ≡ true → in_rect piece u v ≡ true → way x y ≡ way u v

-- The wanted pixels of the piece were painted, which are so many. A piece with one trail takes a span for each row.
pub record Paints (layers : Layers) (only under : Option ℕ) (way : ℤ → ℤ → List ℕ) (piece : Rect) (count : ℕ) (old new : Screen) : Type 0 where
  pub painted : Painted (wanted_of only under way (in_rect piece)) (colour_by layers under way) count old new
  pub counted : (box : Rect) → IsInside piece box → count ≡ count_in (wanted_of only under way (in_rect piece)) box
  pub few : count ≤ area_of piece
  pub at_once : only ≡ None → HasOneTrail way piece → new.spans ≡ old.spans + piece.h

-- the same of several pieces, without the spans
pub record PaintsAll (layers : Layers) (only under : Option ℕ) (way : ℤ → ℤ → List ℕ) (pieces : List Rect) (count : ℕ) (old new : Screen) : Type 0 where
  pub painted : Painted (wanted_of only under way (covers pieces)) (colour_by layers under way) count old new
  pub counted : (box : Rect) → ((x y : ℤ) → covers pieces x y ≡ true → in_rect box x y ≡ true)
      → count ≡ count_in (wanted_of only under way (covers pieces)) box
  pub few : count ≤ total_area pieces
