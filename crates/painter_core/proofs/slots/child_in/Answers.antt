use Rattle.std.proofs.Common.{sym, ap, ◌∙◌}
use Rattle.std.specs.Prelude.{Option}
use Rattle.std.specs.Option.{option_map}
use Rattle.tree_core.specs.declared.id.Id.{Id}
use Rattle.painter_core.proofs.RootLemmas.{child_there}
use Rattle.painter_core.proofs.slots.child_in.Goals as goal

pub returns-in-Some-clause-there : goal.returns-in-Some-clause-there
returns-in-Some-clause-there c =
    child_there c.args.view.now c.args.key c.args.slot c.in-Some.child.key c.child_at.ensures.valid c.requires.there
    (sym c.child_at.ensures.found ∙ ap (λ (o : Option Id). option_map (λ (id : Id). id.key) o) c.in-Some.is)
