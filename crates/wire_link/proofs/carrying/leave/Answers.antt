use Rattle.std.proofs.Common.{refl}
use Rattle.wire_link.proofs.Carryings.{came_reply, came_leave}
use Rattle.wire_link.proofs.carrying.leave.Goals as goal

pub returns-in-Before-clause-came : goal.returns-in-Before-clause-came
returns-in-Before-clause-came g c = λ payload. came_leave _ _ payload _ _ _ _ c.in-Before.is (came_reply _ _ _ _ _ _ (record { calls = refl; refused = refl; text = c.replied-in-Before.ensures.text; next = c.replied-in-Before.ensures.after }))

pub returns-in-Console-clause-came : goal.returns-in-Console-clause-came
returns-in-Console-clause-came g c = λ payload. came_leave _ _ payload _ _ _ _ c.in-Console.is (came_reply _ _ _ _ _ _ (record { calls = refl; refused = refl; text = c.replied-in-Console.ensures.text; next = c.replied-in-Console.ensures.after }))

pub returns-in-Over-clause-came : goal.returns-in-Over-clause-came
returns-in-Over-clause-came g c = λ payload. came_leave _ _ payload _ _ _ _ c.in-Over.is (came_reply _ _ _ _ _ _ (record { calls = refl; refused = refl; text = c.replied-in-Over.ensures.text; next = c.replied-in-Over.ensures.after }))
