use Rattle.std.proofs.Common.{arith}
use Rattle.scene_core.proofs.LeastSteps.{child-live}
use Rattle.scene_core.proofs.Tops.{under-child}
use Rattle.scene_core.proofs.top.+lowest.Goals as goal

pub lowest-requires : goal.lowest-requires
lowest-requires t c =
    let w = c.args.view.now.tree.now in
    let parent = c.in-Some.ensures.parent in
    (omega arith, (c.requires.view, (c.requires.kept, (under-child w c.args.view.now.stack.now c.args.id.key c.in-Some.kid.key c.requires.view.valid c.requires.live parent c.requires.under, (child-live w c.args.id.key c.in-Some.kid.key c.requires.view.valid parent, c.in-Some.ensures.shown)))))
