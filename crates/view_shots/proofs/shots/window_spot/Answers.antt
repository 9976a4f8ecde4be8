use Rattle.std.proofs.Common.{refl}
use Rattle.scene_core.specs.View.{scene_of}
use Rattle.scene_core.proofs.Tops.{kept-place, under-window, window-among}
use Rattle.view_shots.proofs.ShotSteps.{window-spot}
use Rattle.view_shots.proofs.shots.window_spot.Goals as goal

pub kept_place-place-requires-clause-kept : goal.kept_place-place-requires-clause-kept
kept_place-place-requires-clause-kept c =
    let w = c.args.view.now.tree.now in
    let windows = c.args.view.now.stack.now in
    let window = window-among w windows c.args.window.key c.requires.view.windows c.requires.among in
    kept-place w windows c.args.window.key c.requires.kept window.live (under-window w windows c.args.window.key c.requires.view.valid c.requires.view.windows c.requires.among)

pub returns : goal.returns
returns c =
    let window = window-among c.args.view.now.tree.now c.args.view.now.stack.now c.args.window.key c.requires.view.windows c.requires.among in
    window-spot (scene_of c.args.view.now) c.args.view.now.tree.now c.args.window.key c.kept_place-place.result c.meet.result refl c.requires.view.valid window c.kept_place-place.ensures c.meet.ensures.pixels
