-- A call that leaves the widgets and the open windows: what it says of itself, and which calls are such.
use Rattle.std.proofs.Common.{◌≡◌, ◌↔◌, IsTrue, ℕ, Bool, true, false, List, [], refl, sym, ap, ◌∙◌, subst}
use Rattle.std.proofs.lemmas.Bool.{true≢false}
use Rattle.kind_core.specs.declared.shapes.Shape.{Shape}
use Rattle.admit_core.specs.Roster.{RosterState}
use Rattle.widget_model.specs.Rows.{Row}
use Rattle.widget_model.specs.Widgets.{Widgets}
use Rattle.tree_core.specs.declared.pointer.Pointer.{Pointer}
use Rattle.scene_model.specs.Scene.{Scene}
use Rattle.desk_model.specs.Desk.{Ring}
use Rattle.desk_model.specs.Seen as seen
use Rattle.desk_layout.specs.Numbers.{KeepsNumbers}
use Rattle.desk_layout.proofs.KeyNumbers.{numbers-equal}
use Rattle.desk_commands.specs.Parts.{stage_of, desk_of}
use Rattle.desk_core.specs.View.{DeskView, StaysUnlessMoved, TellsChange}
use Rattle.desk_core.specs.Touching.{TellsTouched}
use Rattle.desk_core.specs.Kept.{IsKept}
use Rattle.desk_core.specs.Visits.{IsVisit}
use Rattle.desk_core.proofs.StillDesks.{stays-same}
use Rattle.desk_core.proofs.TouchedLooks.{stayed-touched}

pub visit_numbers : (old new : DeskView) → IsVisit old new → KeepsNumbers old.widgets.entries new.widgets.entries
visit_numbers old new visit = numbers-equal old.widgets.entries new.widgets.entries visit.widgets.rows.names visit.entries

pub visit_touched : (old new : DeskView) → IsVisit old new → TellsTouched old new
visit_touched old new visit = stayed-touched old new visit.entries visit.scene visit.touched

pub visit_still : (old new : DeskView) → IsVisit old new → StaysUnlessMoved old new
visit_still old new visit = λ none. stays-same old.desk new.desk (ap (λ (s : Scene). s.rows) visit.scene) (ap (λ (s : Scene). s.windows) visit.scene)

pub visit_changed : (old new : DeskView) → IsVisit old new → TellsChange old new
visit_changed old new visit =
    (λ yes. absurd (true≢false (sym yes ∙ visit.changed)), λ some. absurd (some (ap (λ (s : Scene). s.rows) visit.scene, ap (λ (s : Scene). s.windows) visit.scene)))

-- the widgets have the entries that they had; whose rings there are is no matter
pub visit-of : (old : DeskView) (shape : Shape) (roster : RosterState) (rings now : List Ring) (pointer : Pointer) (w new : Widgets) (keys : List ℕ) (changed moved : Bool) (before touched : List ℕ) → IsKept shape pointer rings w keys roster
    → record { desk = desk_of (stage_of shape roster rings w pointer) w keys; changed = changed; moved = moved; widgets = w; windows = keys; touched = before } ≡ old
    → new.entries ≡ w.entries → touched ≡ []
    → IsVisit old (record { desk = desk_of (stage_of shape roster now new pointer) new keys; changed = false; moved = false; widgets = new; windows = keys; touched = touched })
visit-of old shape roster rings now pointer w new keys changed moved before touched kept is same none =
    let after : DeskView = record { desk = desk_of (stage_of shape roster now new pointer) new keys; changed = false; moved = false; widgets = new; windows = keys; touched = touched } in
    let P : DeskView → Type 0 = λ s. IsVisit s after in
    let shown : List (ℕ × Row) → Scene = λ es. seen.scene_of (desk_of (stage_of shape roster rings (record w { entries = es }) pointer) (record w { entries = es }) keys) in
    subst P is
    (record { widgets = kept.parts.tree; desk = kept.desk; entries = same; scene = ap shown same; changed = refl; moved = refl; touched = none })
