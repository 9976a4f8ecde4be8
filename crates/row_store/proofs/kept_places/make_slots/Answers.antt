use Rattle.std.proofs.Common.{◌<◌, length, None, ◌∙◌, arith}
use Rattle.std.proofs.lemmas.List.{length_push}
use Rattle.widget_model.specs.KeptPlaces.{most_numbers}
use Rattle.row_store.proofs.FilledUp.{filled_up-push}
use Rattle.row_store.proofs.kept_places.make_slots.Goals as goal

pub loop-slot-preserved : goal.loop-slot-preserved
loop-slot-preserved c =
    let old = c.loop-slot.places.items in
    let room : length old < most_numbers = omega (arith, c.requires.new, c.loop-slot-test.true, c.loop-slot.invariant.2) in
    let items = c.in_ok-push.ensures.items in
    let longer = length_push old None in
    rw items (filled_up-push most_numbers old room ∙ c.loop-slot.invariant.0, omega (arith, longer, c.loop-slot.invariant.1), omega (arith, longer, c.loop-slot.invariant.2))
