use Rattle.std.proofs.Common.{arith}
use Rattle.desk_core.specs.ClientList.{rings_of, clients_of}
use Rattle.desk_core.proofs.ClientLists.{at_most_16, length-clients_of}
use Rattle.desk_core.proofs.clients.Clients.len.Goals as goal

pub overflow_cast-result : goal.overflow_cast-result
overflow_cast-result c = omega (arith, at_most_16 (clients_of (rings_of c.self.inside.members.items)) c.self.invariant, length-clients_of c.self.inside.members.items, c.len.ensures)

pub returns-clause-few : goal.returns-clause-few
returns-clause-few c = omega (arith, at_most_16 (clients_of (rings_of c.self.inside.members.items)) c.self.invariant, length-clients_of c.self.inside.members.items, c.len.ensures)
