use Rattle.view_shots.specs.Spots.{AreShot}
use Rattle.scene_core.specs.View.{scene_of}
use Rattle.widget_model.specs.Trees.{most_levels}
use Rattle.view_shots.proofs.shots.shot.Given as goal

abbrev pub invariant-loop-index : goal.invariant-loop-index
invariant-loop-index l = AreShot most_levels l.view.tree.now l.view.stack.now (scene_of l.view) l.index l.out
