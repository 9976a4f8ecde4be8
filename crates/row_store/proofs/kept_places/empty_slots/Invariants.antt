-- the slots up to this one are emptied
use Rattle.std.proofs.Common.{◌≡◌, length}
use Rattle.widget_model.specs.KeptPlaces.{emptied}
use Rattle.row_store.proofs.kept_places.empty_slots.Given as goal

abbrev pub invariant-loop-slot : goal.invariant-loop-slot
invariant-loop-slot l = (l.places.items ≡ emptied l.slot l.first l.initial.places.items) × (length l.places.items ≡ length l.initial.places.items)
