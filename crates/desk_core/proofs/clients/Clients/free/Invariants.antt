-- the least free one is among those that weren't looked at
use Rattle.std.proofs.Common.{◌≡◌, ◌-◌}
use Rattle.desk_model.specs.Clients.{free_client, free_from}
use Rattle.desk_core.specs.ClientList.{clients_of, rings_of}
use Rattle.desk_core.proofs.clients.Clients.free.Given as goal

abbrev pub invariant-loop-client : goal.invariant-loop-client
invariant-loop-client l = free_client (clients_of (rings_of l.members)) ≡ free_from (17 - l.client) l.client (clients_of (rings_of l.members))
