use Rattle.std.proofs.Common.{refl}
use Rattle.wire_link.proofs.Carryings.{parted_none, parted_as}
use Rattle.wire_link.proofs.sessions.part.Goals as goal

pub returns-in-Before-clause-parted : goal.returns-in-Before-clause-parted
returns-in-Before-clause-parted g c = parted_as _ _ _ _ c.in-Before.is (parted_none _ _ (record { no_calls = refl; no_refusal = refl }))

pub returns-in-Console-clause-parted : goal.returns-in-Console-clause-parted
returns-in-Console-clause-parted g c = parted_as _ _ _ _ c.in-Console.is (parted_none _ _ (record { no_calls = refl; no_refusal = refl }))

pub returns-in-Over-clause-parted : goal.returns-in-Over-clause-parted
returns-in-Over-clause-parted g c = parted_as _ _ _ _ c.in-Over.is (parted_none _ _ (record { no_calls = refl; no_refusal = refl }))
