use Rattle.std.proofs.Common.{◌≡◌, pos, to_z, w32, refl, arith}
use Rattle.std.proofs.lemmas.Int.{ints}
use Rattle.scene_core.specs.View.{scene_of}
use Rattle.desk_inputs.proofs.AskedPlaces.{top-under, hit-seen, hit-none}
use Rattle.desk_inputs.proofs.asking.hit_at.Goals as goal

pub returns-in-None-clause-hit : goal.returns-in-None-clause-hit
returns-in-None-clause-hit c =
    let v = c.args.view.now in
    let x : to_z w32 v.pointer.now.x ≡ pos v.pointer.now.x = omega (arith, ints, c.requires.view.width_most, c.requires.x) in
    let y : to_z w32 v.pointer.now.y ≡ pos v.pointer.now.y = omega (arith, ints, c.requires.view.height_most, c.requires.y) in
    hit-none v.tree.now v.stack.now v.pointer.now v.width v.height _ _ c.in-None.ensures.top x y

pub kept_place-place-requires-clause-window : goal.kept_place-place-requires-clause-window
kept_place-place-requires-clause-window c =
    let v = c.args.view.now in
    top-under v.tree.now v.stack.now v.pointer.now v.width v.height _ _ c.in-Some.id c.requires.view.valid c.requires.view.windows c.in-Some.ensures.live c.in-Some.ensures.top

pub returns-clause-hit : goal.returns-clause-hit
returns-clause-hit c =
    let v = c.args.view.now in
    let x : to_z w32 v.pointer.now.x ≡ pos v.pointer.now.x = omega (arith, ints, c.requires.view.width_most, c.requires.x) in
    let y : to_z w32 v.pointer.now.y ≡ pos v.pointer.now.y = omega (arith, ints, c.requires.view.height_most, c.requires.y) in
    hit-seen v.tree.now v.stack.now v.pointer.now v.width v.height _ _ c.in-Some.id c.kept_place-place.result c.in-Some.ensures.live c.in-Some.ensures.top x y (c.kept_place-place.ensures.place (scene_of v) refl)
