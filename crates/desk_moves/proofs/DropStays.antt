-- A widget that is taken away moves nothing: it hung in no other, none hung in it, and no other was linked to it.
use Rattle.std.proofs.Common.{◌≡◌, ℕ, false, List, Some, sym, ap, ap₂, ◌∙◌}
use Rattle.std.specs.List.{list_any}
use Rattle.std.specs.Option.{option_and_then}
use Rattle.widget_model.specs.Rows.{Row}
use Rattle.widget_model.specs.Named.{row_named, without_named}
use Rattle.widget_model.specs.Trees.{links_to, is_used}
use Rattle.widget_model.proofs.LeftRows.{IsFree, IsFree-unused}
use Rattle.widget_model.proofs.Naming.{row_named-parts}
use Rattle.scene_model.specs.DuePlaces.{due_place}
use Rattle.scene_model.specs.WindowRows.{AreHung}
use Rattle.desk_moves.specs.Stays.{MoveNothing}
use Rattle.desk_moves.proofs.LoneRows.{named-with, due-less}

module _ (rows : List Row) (client : ℕ) (name : List ℕ) (dropped : Row) (found : row_named rows client name ≡ Some dropped) (unused : is_used rows dropped ≡ false) where
  free : IsFree rows dropped
  free = IsFree-unused rows dropped unused

  unlinked : list_any (links_to client name) rows ≡ false
  unlinked =
      let parts = row_named-parts rows client name dropped found in
      ap₂ (λ (c : ℕ) (n : List ℕ). list_any (links_to c n) rows) (sym parts.0) (sym parts.1) ∙ free.unlinked

  pub unmoved-less : AreHung rows → AreHung (without_named client name rows) → MoveNothing rows (without_named client name rows)
  unmoved-less hung still = record {
    each = λ key row there.
        due-less rows client name dropped found free.alone unlinked hung still key row there
        ∙ sym (ap (option_and_then (due_place rows)) (named-with rows client name dropped found free.alone unlinked key.0 key.1 row there));
  }
