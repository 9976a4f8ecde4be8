use Rattle.std.proofs.Common.{◌≡◌, drop}
use Rattle.std.specs.List.{find}
use Rattle.scene_model.specs.Showing.{shows_at}
use Rattle.scene_core.specs.View.{keys_of, scene_of}
use Rattle.scene_core.proofs.top.top_window.Given as goal

abbrev pub invariant-loop-index : goal.invariant-loop-index
invariant-loop-index l =
    find (λ window. shows_at (scene_of l.view) window l.x l.y) (keys_of l.view.tree.now.entries l.view.stack.now)
    ≡ find (λ window. shows_at (scene_of l.view) window l.x l.y) (keys_of l.view.tree.now.entries (drop l.index l.view.stack.now))
