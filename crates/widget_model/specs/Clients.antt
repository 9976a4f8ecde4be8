-- Clients: each has a number, 1 to 16.
use Rattle.std.specs.Prelude.{ℕ, Bool, ◌&&◌, nat_eq, nat_le, List}
use Rattle.std.specs.List.{list_any}

abbrev pub is_client : ℕ → Bool
is_client client = nat_le 1 client && nat_le client 16

-- whether the client is one of these
abbrev pub is_joined : List ℕ → ℕ → Bool
is_joined clients client = list_any (nat_eq client) clients
