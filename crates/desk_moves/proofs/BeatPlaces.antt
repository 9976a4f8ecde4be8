-- Kept places after a beat: it moves nothing, so the places are due still.
use Rattle.std.proofs.Common.{◌≡◌, ℕ, List, map, Option, sym, ap, subst}
use Rattle.admit_core.specs.Roster.{RosterState}
use Rattle.geom_core.specs.declared.rectangle.Rect.{Rect}
use Rattle.widget_model.specs.Rows.{Row}
use Rattle.widget_model.specs.KeptPlaces.{place_in}
use Rattle.widget_model.specs.Widgets.{Widgets, rows_of}
use Rattle.widget_model.specs.Forest.{IsWidgets}
use Rattle.desk_model.specs.Desk.{Desk}
use Rattle.desk_model.specs.Beat.{row_beaten, beat}
use Rattle.desk_model.proofs.BeatRows.{MovesNothing-beaten}
use Rattle.desk_layout.specs.Numbers.{KeepsNumbers}
use Rattle.desk_layout.specs.Placed.{HaveDuePlaces}
use Rattle.desk_commands.specs.Parts.{Stage}
use Rattle.desk_commands.specs.Beating.{listed_desk}
use Rattle.desk_moves.specs.Stays.{MoveNothing}
use Rattle.desk_moves.proofs.Unmoved.{unmoved-map, unmoved-due}

-- the rows of a desk that was beaten
rows-beaten : (desk after : Desk) → after ≡ beat desk → after.rows ≡ map row_beaten desk.rows
unfolding beat
rows-beaten desk after is = ap (λ (d : Desk). d.rows) is

-- Where the desk of the parts was beaten, and numbers and kept places stayed, these are due as before.
pub due-beaten : (old new : Widgets) (roster : RosterState) (stage : Stage) (keys : List ℕ) → IsWidgets old → IsWidgets new → HaveDuePlaces old → KeepsNumbers old.entries new.entries → new.places ≡ old.places
    → listed_desk stage new roster keys ≡ beat (listed_desk stage old roster keys) → HaveDuePlaces new
due-beaten old new roster stage keys valid sound due numbers places beats =
    let rows : rows_of new ≡ map row_beaten (rows_of old) = rows-beaten (listed_desk stage old roster keys) (listed_desk stage new roster keys) beats in
    unmoved-due old new valid sound due numbers (λ id row there. ap (λ (kept : List (Option Rect)). place_in kept id) places)
    (subst (λ (after : List Row). MoveNothing (rows_of old) after) (sym rows) (unmoved-map row_beaten (rows_of old) (MovesNothing-beaten (rows_of old))))
