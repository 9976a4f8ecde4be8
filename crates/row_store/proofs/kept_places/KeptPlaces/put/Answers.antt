use Rattle.std.proofs.Common.{◌<◌, length, sym, ap, ◌∙◌, subst}
use Rattle.widget_model.specs.KeptPlaces.{most_numbers, placed}
use Rattle.row_store.specs.KeptSlots.{Kept}
use Rattle.row_store.proofs.FilledUp.{filled_up-placed}
use Rattle.row_store.proofs.kept_places.KeptPlaces.put.Goals as goal

pub returns-clause-slots : goal.returns-clause-slots
returns-clause-slots c =
    let M : Kept → Type 0 = λ kept. c.args.id < kept.made in
    let made : c.args.id < length c.self.inside.places.items = subst M (sym c.self.view_is) c.requires in
    filled_up-placed most_numbers c.self.inside.places.items c.args.id c.args.place made
    ∙ ap (λ (kept : Kept). placed c.args.id c.args.place kept.slots) c.self.view_is
