-- What the desk's beat makes of its parts: the desk after the beat, and parts that keep what they kept.
use Rattle.std.proofs.Common.{◌≡◌, ℕ, true, List, refl, sym, ap, ◌∙◌, subst}
use Rattle.std.specs.List.{list_all}
use Rattle.kind_core.specs.declared.shapes.Shape.{Shape}
use Rattle.admit_core.specs.Roster.{RosterState}
use Rattle.widget_model.specs.Nodes.{Node}
use Rattle.widget_model.specs.Widgets.{Widgets, nodes, rows_of}
use Rattle.widget_model.specs.Forest.{IsWidgets}
use Rattle.widget_model.specs.Pointer as model
use Rattle.tree_core.specs.declared.pointer.Pointer.{Pointer}
use Rattle.desk_model.specs.Desk.{Desk, Ring}
use Rattle.desk_model.specs.DeskFacts.{IsDesk, IsRosterOf}
use Rattle.desk_model.specs.Beat.{beat}
use Rattle.desk_model.proofs.KeptBeat.{beats_keep}
use Rattle.desk_layout.specs.Numbers.{KeepsNumbers}
use Rattle.desk_inputs.proofs.GivenValues.{key_at-kept}
use Rattle.desk_commands.specs.Parts.{Stage, stage_of, desk_of, admissions_at, names_window, ListsAdmitted}
use Rattle.desk_commands.specs.Beating.{listed_desk, ListsEach}
use Rattle.desk_moves.proofs.BeatPlaces.{due-beaten}
use Rattle.desk_commands.proofs.PointerKept.{Holds, pointer-holds}
use Rattle.desk_core.specs.Kept.{IsKept}

module _ (shape : Shape) (pointer : Pointer) (rings : List Ring) (w : Widgets) (keys : List ℕ) (roster : RosterState) (kept : IsKept shape pointer rings w keys roster) where
  abbrev stage : Stage
  stage = stage_of shape roster rings w pointer

  abbrev unbeaten : Desk
  unbeaten = desk_of stage w keys

  pub lists-each : ListsEach w roster
  lists-each = subst (λ (limit : ℕ). IsRosterOf limit (rows_of w) (admissions_at (nodes w.entries) roster.entries)) (sym kept.limit) kept.desk.roster

  module _ (new : Widgets) (beats : (stage : Stage) (keys : List ℕ) → listed_desk stage new roster keys ≡ beat (listed_desk stage w roster keys)) (same : nodes new.entries ≡ nodes w.entries) where
    -- the pointer holds what it held
    holds : Holds w.entries new.entries pointer
    holds = pointer-holds w.entries new.entries unbeaten pointer refl kept.desk.held kept.held (λ id key named inside. key_at-kept w.entries new.entries id same ∙ named)

    pub beaten-desk : desk_of (stage_of shape roster rings new pointer) new keys ≡ beat unbeaten
    beaten-desk = ap (λ (p : model.Pointer). let d : Desk = record (listed_desk stage new roster keys) { pointer = p } in d) holds.same ∙ beats stage keys

    pub beaten-kept : IsWidgets new → ListsAdmitted new.entries roster → KeepsNumbers w.entries new.entries → new.clients ≡ w.clients → new.places ≡ w.places → IsKept shape pointer rings new keys roster
    beaten-kept valid listed numbered clients places =
        record {
          parts = record {
            clients = kept.parts.clients ∙ sym clients;
            tree = valid;
            stack = kept.parts.stack;
            windows = subst (λ (ns : List (ℕ × Node)). list_all (names_window ns) keys ≡ true) (sym same) kept.parts.windows;
          };
          held = holds.live;
          limit = kept.limit;
          across = kept.across;
          down = kept.down;
          listed = listed;
          desk = subst IsDesk (sym beaten-desk) (beats_keep unbeaten kept.desk);
          placed = due-beaten w new roster stage keys kept.parts.tree valid kept.placed numbered places (beats stage keys);
        }
