use Rattle.std.proofs.Common.{rules}
use Rattle.arrayvec.proofs.ArrayVecLemmas.{filter-from_retain}
use Rattle.admit_core.specs.Roster.{others}
use Rattle.admit_core.proofs.roster.remove_key.Goals as goal

pub returns : goal.returns
unfolding others
returns c = filter-from_retain _ _ _ (λ x b f' y called. search rules) _ _ c.retain.ensures.filtered
