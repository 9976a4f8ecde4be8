use Rattle.view_shots.specs.Spots.{ArePartlyPut}
use Rattle.scene_core.specs.View.{scene_of}
use Rattle.view_shots.proofs.shots.+put_shown.Given as goal

abbrev pub decreases-put_shown : goal.decreases-put_shown
decreases-put_shown l = l.most

abbrev pub invariant-loop-key : goal.invariant-loop-key
invariant-loop-key l = ArePartlyPut l.most l.view.tree.now l.view.stack.now (scene_of l.view) l.id.key l.key-index l.key-items l.fn.out l.out
