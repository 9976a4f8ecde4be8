use Rattle.std.proofs.Common.{rules, nat_eq, not, ℕ}
use Rattle.std.proofs.lemmas.Fn.{filter_same}
use Rattle.tree_core.proofs.removing.drop_number.Goals as goal

pub returns : goal.returns
returns c = filter_same _ (λ (other : ℕ). not (nat_eq c.args.client other)) _ (λ x b f' k. search rules) _ _ c.retain.ensures.filtered
