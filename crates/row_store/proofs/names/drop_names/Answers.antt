use Rattle.std.proofs.Common.{rules, ℕ, List, not, nat_eq, ap, ◌∙◌}
use Rattle.std.specs.List.{filter}
use Rattle.indexmap.proofs.CallerLemmas.{filter-RetainsPairs}
use Rattle.row_store.proofs.names.drop_names.Goals as goal

pub returns : goal.returns
returns c =
    filter-RetainsPairs _ _ _ (λ k v b w g call. search rules) _ _ c.retain.ensures.filtered
    ∙ ap (λ (es : List ((ℕ × List ℕ) × ℕ)). filter (λ (entry : (ℕ × List ℕ) × ℕ). not (nat_eq c.args.client entry.0.0)) es) c.names.view_is
