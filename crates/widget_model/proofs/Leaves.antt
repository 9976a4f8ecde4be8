-- Changes of a row that leave what names it and its kind.
use Rattle.std.proofs.Common.{◌≡◌, ℕ, Bool, true, false, cond, List, refl, ap}
use Rattle.widget_model.specs.Rows.{Row}
use Rattle.widget_model.specs.Nodes.{Node, node_of}
use Rattle.widget_model.specs.Named.{has_name}
use Rattle.widget_model.proofs.Hanging.{changed}

pub record LeavesNode (change : Row → Row) : Type 0 where
  pub client : (row : Row) → (change row).client ≡ row.client
  pub name : (row : Row) → (change row).name ≡ row.name
  pub kind : (row : Row) → (change row).kind ≡ row.kind

-- which is to leave the node
pub LeavesNode-node : (change : Row → Row) → ((row : Row) → node_of (change row) ≡ node_of row) → LeavesNode change
LeavesNode-node change same =
    record {
      client = λ row. ap (λ (node : Node). node.client) (same row);
      name = λ row. ap (λ (node : Node). node.name) (same row);
      kind = λ row. ap (λ (node : Node). node.kind) (same row);
    }

-- the change of the named row alone
pub LeavesNode-changed : (client : ℕ) (name : List ℕ) (change : Row → Row) → LeavesNode change → LeavesNode (changed client name change)
LeavesNode-changed client name change leaves =
    record {
      client = λ row. by_client row (has_name client name row);
      name = λ row. by_name row (has_name client name row);
      kind = λ row. by_kind row (has_name client name row);
    }
  where
    by_client : (row : Row) (b : Bool) → (cond b (change row) row).client ≡ row.client
    by_client row true = leaves.client row
    by_client row false = refl

    by_name : (row : Row) (b : Bool) → (cond b (change row) row).name ≡ row.name
    by_name row true = leaves.name row
    by_name row false = refl

    by_kind : (row : Row) (b : Bool) → (cond b (change row) row).kind ≡ row.kind
    by_kind row true = leaves.kind row
    by_kind row false = refl
