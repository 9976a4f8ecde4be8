use Rattle.std.proofs.Common.{◌≡◌, Some, sym, arith}
use Rattle.widget_model.specs.Relatives.{parent_id}
use Rattle.scene_core.proofs.Roots.{ends-some, ends-up, in-window-up, in-window-alone}
use Rattle.scene_core.proofs.places.+place_up.Goals as goal

pub place_up-place-requires : goal.place_up-place-requires
place_up-place-requires t c =
    let w = c.args.tree.now in
    let parent : parent_id w c.args.id.key ≡ Some c.in-Some.parent.key = sym c.in-Some.ensures.found in
    let more = ends-some w c.args.most c.args.id.key c.requires.ends in
    (omega (arith, more), (c.requires.valid, (c.in-Some.ensures.live, (ends-up w c.args.most c.in-Some.parent.key c.args.id.key c.requires.valid parent c.requires.ends, (in-window-up w c.in-Some.parent.key c.args.id.key c.requires.valid c.in-Some.ensures.live parent c.requires.window, c.requires.known)))))

pub window_place-requires-clause-window : goal.window_place-requires-clause-window
window_place-requires-clause-window t c = in-window-alone c.args.tree.now c.args.id.key c.requires.valid c.requires.live (sym c.in-None.ensures.found) c.requires.window
