use Rattle.std.proofs.Common.{arith}
use Rattle.widget_model.proofs.Slots.{most_numbers-is}
use Rattle.row_store.proofs.kept_places.KeptPlaces.grow.Goals as goal

pub make_slots-requires-clause-new : goal.make_slots-requires-clause-new
make_slots-requires-clause-new c = omega (arith, c.requires, most_numbers-is)
