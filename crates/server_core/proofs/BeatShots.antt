-- A beat leaves all in place.
use Rattle.std.proofs.Common.{◌≡◌, ℕ, List, map, Option, Some, None, refl, sym, ap, ◌∙◌, subst}
use Rattle.std.specs.Option.{option_map, option_and_then}
use Rattle.kind_core.specs.declared.shapes.Cell.{Cell}
use Rattle.widget_model.specs.Rows.{Row}
use Rattle.widget_model.specs.Named.{has_name}
use Rattle.widget_model.specs.Keys.{row_of}
use Rattle.widget_model.proofs.Hanging.{find-element}
use Rattle.scene_model.specs.DuePlaces.{due_place}
use Rattle.desk_model.specs.Desk.{Desk}
use Rattle.desk_model.specs.Beat.{beat, row_beaten}
use Rattle.desk_model.specs.InPlace.{due_of, StaysInPlace}
use Rattle.desk_model.proofs.HungRows.{LeavesHung, hung-map}
use Rattle.desk_model.proofs.BeatRows.{client-beaten, name-beaten, attached-beaten, row_named-beaten}
use Rattle.desk_model.proofs.BeatScene.{due_place-beaten}

LeavesHung-beaten : LeavesHung row_beaten
LeavesHung-beaten row = λ i. ((client-beaten row i, name-beaten row i), option_map (λ (attached : List ℕ × Cell). attached.0) (attached-beaten row i))

due-beaten : (rows : List Row) (key : ℕ × List ℕ) → due_of (map row_beaten rows) key ≡ due_of rows key
due-beaten rows key = ap (option_and_then (due_place (map row_beaten rows))) (row_named-beaten rows key.0 key.1) ∙ by (row_of rows key) refl
  where
    by : (o : Option Row) → row_of rows key ≡ o → option_and_then (due_place (map row_beaten rows)) (option_map row_beaten o) ≡ option_and_then (due_place rows) o
    by None found = refl
    by (Some row) found = let there = find-element (has_name key.0 key.1) rows row found in due_place-beaten rows there.0 row there.1

beat-stays : (desk : Desk) → StaysInPlace desk (beat desk)
unfolding beat
beat-stays desk = record { hung = hung-map row_beaten desk.rows LeavesHung-beaten; windows = refl; places = due-beaten desk.rows }

pub stays-beaten : (desk next : Desk) → next ≡ beat desk → StaysInPlace desk next
stays-beaten desk next beats = subst (λ (d : Desk). StaysInPlace desk d) (sym beats) (beat-stays desk)
