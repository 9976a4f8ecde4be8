-- The node of a row is what names it: its client, name and kind. No call changes the node of a row.
use Rattle.std.specs.Prelude.{ℕ, ◌+◌, ◌-◌, ◌*◌, Bool, ◌&&◌, nat_eq, nat_lt, nat_le, List, [], ◌∷◌, Option, Some, None, if◌then◌else◌}
use Rattle.std.specs.Str.{bytes_eq}
use Rattle.kind_core.specs.declared.kinds.Kind.{Kind}
use Rattle.widget_model.specs.Rows.{Row}

pub record Node : Type 0 where
  pub client : ℕ
  pub name : List ℕ
  pub kind : Kind

abbrev pub node_of : Row → Node
node_of row = record { client = row.client; name = row.name; kind = row.kind }

-- whether the node has this client and name
abbrev pub is_named : ℕ → List ℕ → Node → Bool
is_named client name node = nat_eq client node.client && bytes_eq name node.name

-- the number of the node with this client and name
abbrev pub id_named : List (ℕ × Node) → ℕ → List ℕ → Option ℕ
id_named [] client name = None
id_named (entry ∷ entries) client name = if is_named client name entry.1 then Some entry.0 else id_named entries client name

-- the node with this number
abbrev pub node_at : List (ℕ × Node) → ℕ → Option Node
node_at [] id = None
node_at (entry ∷ entries) id = if nat_eq id entry.0 then Some entry.1 else node_at entries id

-- The numbers of a client are 128 of its own, so that all numbers are below 2,048.
abbrev pub first_number : ℕ → ℕ
first_number client = 128 * (client - 1)

abbrev pub is_number_of : ℕ → ℕ → Bool
is_number_of client id = nat_le 1 client && (nat_le (first_number client) id && nat_lt id (first_number client + 128))
