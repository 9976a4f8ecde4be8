use Rattle.std.proofs.Common.{◌≤◌, ◌*◌, ◌-◌, length, sym, ap, ◌∙◌, subst, arith}
use Rattle.widget_model.specs.KeptPlaces.{most_numbers, unplaced}
use Rattle.row_store.specs.KeptSlots.{Kept, filled_up}
use Rattle.row_store.proofs.FilledUp.{filled_up-unplaced}
use Rattle.row_store.proofs.kept_places.KeptPlaces.clear.Goals as goal

pub returns-clause-slots : goal.returns-clause-slots
returns-clause-slots c =
    let M : Kept → Type 0 = λ kept. 128 * c.args.client ≤ kept.made in
    let made : 128 * c.args.client ≤ length c.self.inside.places.items = subst M (sym c.self.view_is) c.requires.made in
    ap (filled_up most_numbers) c.empty_slots.ensures.emptied
    ∙ filled_up-unplaced most_numbers c.args.client c.self.inside.places.items (128 * c.args.client - 128) (omega (arith, c.requires.low)) (omega (arith, made, c.requires.low))
    ∙ ap (λ (kept : Kept). unplaced c.args.client kept.slots) c.self.view_is
