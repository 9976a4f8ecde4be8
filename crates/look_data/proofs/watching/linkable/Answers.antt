use Rattle.std.proofs.Common.{ℕ, sym, ap, ◌∙◌, false}
use Rattle.std.specs.Prelude.{Option}
use Rattle.std.specs.Option.{option_map, option_map_or}
use Rattle.tree_core.specs.declared.id.Id.{Id}
use Rattle.look_data.specs.Watched.{is_linked_to}
use Rattle.look_data.proofs.LinkedNumbers.{linked-none}
use Rattle.look_data.proofs.watching.linkable.Goals as goal

pub returns-then-not-is_variable-clause-same : goal.returns-then-not-is_variable-clause-same
returns-then-not-is_variable-clause-same c = λ id.
    sym (ap (λ (o : Option Id). option_map_or (λ (one : ℕ). is_linked_to c.args.tree.now one id) (option_map (λ (one : Id). one.key) o) false) c.in-Some.is
    ∙ linked-none c.args.tree.now c.in-Some.variable.key id c.requires.widgets (sym c.if-not-is_variable.ensures.kind))
