use Rattle.admit_core.specs.Admission.{dismissed}
use Rattle.admit_core.proofs.Rosters.{IsRoster-dismissed}
use Rattle.admit_core.proofs.roster.Roster.leave.Goals as goal

pub invariant_of-self : goal.invariant_of-self
unfolding dismissed
invariant_of-self c = rw c.remove_key.ensures (IsRoster-dismissed _ c.args.key c.self.invariant)

pub returns-clause-valid : goal.returns-clause-valid
unfolding dismissed
returns-clause-valid c = rw c.remove_key.ensures (IsRoster-dismissed _ c.args.key c.self.invariant)
