use Rattle.std.proofs.Common.{refl}
use Rattle.scene_core.specs.View.{scene_of}
use Rattle.scene_core.proofs.LeastSteps.{child-live}
use Rattle.scene_core.proofs.Roots.{rooted-live}
use Rattle.scene_core.proofs.Tops.{kept-place, under-child}
use Rattle.view_shots.proofs.ShotSteps.{child-spot}
use Rattle.view_shots.proofs.shots.child_spot.Goals as goal

pub kept_place-place-requires-clause-kept : goal.kept_place-place-requires-clause-kept
kept_place-place-requires-clause-kept c =
    let w = c.args.view.now.tree.now in
    let live = rooted-live w c.args.parent.key c.args.spot.window c.requires.spot.window in
    kept-place w c.args.view.now.stack.now c.args.kid.key c.requires.kept (child-live w c.args.parent.key c.args.kid.key c.requires.view.valid c.requires.parent)
    (under-child w c.args.view.now.stack.now c.args.parent.key c.args.kid.key c.requires.view.valid live c.requires.parent c.requires.under)

pub returns : goal.returns
returns c =
    child-spot (scene_of c.args.view.now) c.args.view.now.tree.now c.args.parent.key c.args.kid.key c.args.spot c.kept_place-place.result c.meet.result refl c.requires.view.valid c.requires.parent c.requires.spot c.kept_place-place.ensures c.meet.ensures.pixels
