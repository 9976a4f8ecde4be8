use Rattle.std.proofs.Common.{◌≡◌, ◌≤◌, ◌+◌, ◌||◌, ℕ, nat_eq, map, take, length}
use Rattle.std.specs.List.{list_any}
use Rattle.look_data.specs.Looks.{seen_one}
use Rattle.look_data.specs.Watched.{has_changed}
use Rattle.scene_core.specs.View.{scene_of}
use Rattle.look_data.proofs.watching.tell_looks.Given as goal

abbrev pub invariant-loop-one : goal.invariant-loop-one
invariant-loop-one l = record {
  few : length l.looks.items ≤ length l.initial.looks.items + l.one-index;
  told : (id : ℕ) → list_any (nat_eq id) l.looks.items ≡ (list_any (nat_eq id) l.initial.looks.items || has_changed (map seen_one (take l.one-index l.before)) l.view.tree.now l.view.stack.now (scene_of l.view) id);
}
