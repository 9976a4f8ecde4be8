-- Inner words of the proofs: The clients that are connected, each with the events kept for it: each is 1 to 16, and none
-- is there twice.
use Rattle.std.specs.Prelude.{ℕ, ◌≡◌, true, List, map}
use Rattle.std.specs.List.{list_all}
use Rattle.bind_core.specs.Ring.{new_ring}
use Rattle.widget_model.specs.Clients.{is_client}
use Rattle.desk_model.specs.Desk.{Ring}
use Rattle.desk_model.specs.DeskFacts.{AreConnectedOnce}
use Rattle.desk_core.specs.declared.member.Member.{Member}

-- what the desk has of a member
abbrev pub ring_of_member : Member → Ring
ring_of_member member = record { client = member.client; events = member.events }

abbrev pub rings_of : List Member → List Ring
rings_of members = map ring_of_member members

-- the clients of these rings, in their order
abbrev pub clients_of : List Ring → List ℕ
clients_of rings = map (λ ring. ring.client) rings

-- the ring of a client that comes
abbrev pub ring_for : ℕ → Ring
ring_for client = record { client = client; events = new_ring }

pub record IsJoined (clients : List ℕ) : Type 0 where
  pub range : list_all is_client clients ≡ true
  pub once : AreConnectedOnce clients
