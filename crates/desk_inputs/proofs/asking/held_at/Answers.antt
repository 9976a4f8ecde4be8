use Rattle.std.proofs.Common.{refl, subst}
use Rattle.scene_core.specs.View.{scene_of}
use Rattle.input_core.specs.Live.{IsLiveGrab}
use Rattle.desk_inputs.specs.Asked.{GrabIsUnderWindow}
use Rattle.desk_inputs.proofs.AskedPlaces.{held-widget, held-drag, held-nothing}
use Rattle.desk_inputs.proofs.asking.held_at.Goals as goal

pub returns-in-Nothing-clause-held : goal.returns-in-Nothing-clause-held
returns-in-Nothing-clause-held c =
    let v = c.args.view.now in
    held-nothing v.tree.now v.stack.now v.pointer.now v.width v.height c.in-Nothing.is

pub kept_place-requires-clause-live : goal.kept_place-requires-clause-live
kept_place-requires-clause-live c = subst (IsLiveGrab c.args.view.now.tree.now) c.in-Widget.is c.requires.holds.grab

pub kept_place-requires-clause-window : goal.kept_place-requires-clause-window
kept_place-requires-clause-window c = subst (GrabIsUnderWindow c.args.view.now.tree.now) c.in-Widget.is c.requires.held

pub returns-in-Widget-clause-held : goal.returns-in-Widget-clause-held
returns-in-Widget-clause-held c =
    let v = c.args.view.now in
    held-widget v.tree.now v.stack.now v.pointer.now v.width v.height c.in-Widget.id c.kept_place.result (subst (IsLiveGrab v.tree.now) c.in-Widget.is c.requires.holds.grab) c.in-Widget.is (c.kept_place.ensures.place (scene_of v) refl)

pub kept_place-requires-in-Drag-clause-live : goal.kept_place-requires-in-Drag-clause-live
kept_place-requires-in-Drag-clause-live c = subst (IsLiveGrab c.args.view.now.tree.now) c.in-Drag.is c.requires.holds.grab

pub kept_place-requires-in-Drag-clause-window : goal.kept_place-requires-in-Drag-clause-window
kept_place-requires-in-Drag-clause-window c = subst (GrabIsUnderWindow c.args.view.now.tree.now) c.in-Drag.is c.requires.held

pub returns-in-Drag-clause-held : goal.returns-in-Drag-clause-held
returns-in-Drag-clause-held c =
    let v = c.args.view.now in
    held-drag v.tree.now v.stack.now v.pointer.now v.width v.height c.in-Drag.id _ _ c.kept_place-in-Drag.result (subst (IsLiveGrab v.tree.now) c.in-Drag.is c.requires.holds.grab) c.in-Drag.is (c.kept_place-in-Drag.ensures.place (scene_of v) refl)
