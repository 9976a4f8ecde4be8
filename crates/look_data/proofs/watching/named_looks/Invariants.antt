use Rattle.std.proofs.Common.{◌≤◌, ℕ, nat_eq, map, take, length}
use Rattle.std.specs.List.{list_any}
use Rattle.tree_core.specs.declared.id.Id.{Id}
use Rattle.look_data.specs.Kept.{kept_in}
use Rattle.look_data.specs.Looks.{AreLooks, seen_one}
use Rattle.look_data.proofs.watching.named_looks.Given as goal

abbrev pub invariant-loop-id : goal.invariant-loop-id
invariant-loop-id l = record {
  few : length l.looks.items ≤ l.id-index;
  looks : AreLooks (λ (id : ℕ). list_any (nat_eq id) (map (λ (one : Id). one.key) (take l.id-index l.named))) (kept_in l.view) (map seen_one l.looks.items);
}
