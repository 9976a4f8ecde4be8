use Rattle.std.proofs.Common.{◌≤◌, map, length}
use Rattle.look_data.specs.Kept.{kept_in}
use Rattle.look_data.specs.Looks.{AreLooks, passes_within, seen_one}
use Rattle.look_data.specs.Watched.{is_linked_to}
use Rattle.look_data.proofs.watching.linked_looks.Given as goal

abbrev pub invariant-loop-k : goal.invariant-loop-k
invariant-loop-k l = record {
  few : length l.looks.items ≤ l.k;
  looks : AreLooks (passes_within (is_linked_to l.view.tree.now l.variable.key) l.first l.k) (kept_in l.view) (map seen_one l.looks.items);
}
