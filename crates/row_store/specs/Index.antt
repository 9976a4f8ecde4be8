-- The index of names: what it finds under a client and a name is the number of the node so named.
use Rattle.std.specs.Prelude.{ℕ, ◌≡◌, List}
use Rattle.std.specs.Map.{lookup}
use Rattle.widget_model.specs.Keys.{same_key}
use Rattle.widget_model.specs.Nodes.{Node, id_named}

pub record IsIndexed (names : List ((ℕ × List ℕ) × ℕ)) (entries : List (ℕ × Node)) : Type 0 where
  pub finds : (client : ℕ) (name : List ℕ) → lookup (same_key (client, name)) names ≡ id_named entries client name
