-- the slots of all numbers are as they were, and so many are made
use Rattle.std.proofs.Common.{◌≡◌, ◌≤◌, length}
use Rattle.widget_model.specs.KeptPlaces.{most_numbers}
use Rattle.row_store.specs.KeptSlots.{filled_up}
use Rattle.row_store.proofs.kept_places.make_slots.Given as goal

abbrev pub invariant-loop-slot : goal.invariant-loop-slot
invariant-loop-slot l = (filled_up most_numbers l.places.items ≡ filled_up most_numbers l.initial.places.items) × (length l.initial.places.items ≤ length l.places.items) × (length l.places.items ≡ l.slot)
