use Rattle.std.proofs.Common.{sym, ◌∙◌}
use Rattle.painter_core.proofs.RootLemmas.{kept_place, no_kept_place}
use Rattle.painter_core.proofs.slots.place.Goals as goal

pub returns-in-Some : goal.returns-in-Some
returns-in-Some c = kept_place c.args.view.now c.args.id c.in-Some.place c.requires.stage.places c.requires.there (sym c.in-Some.is ∙ c.place_of.ensures.place)

pub returns-in-None : goal.returns-in-None
returns-in-None c = no_kept_place c.args.view.now c.args.id c.requires.stage.places c.requires.there (sym c.in-None.is ∙ c.place_of.ensures.place)
