use Rattle.std.proofs.Common.{◌≡◌, sym, subst}
use Rattle.scene_core.specs.declared.view.View.{View}
use Rattle.scene_core.specs.View.{scene_of, IsView, KeepsPlaces}
use Rattle.input_core.specs.Seen.{effects_seen}
use Rattle.desk_inputs.specs.Asked.{effects_in}
use Rattle.desk_core.proofs.Views.{view-windows, view-places}
use Rattle.desk_core.proofs.feeding.asked_on.Goals as goal

pub asked-requires-clause-view : goal.asked-requires-clause-view
asked-requires-clause-view c =
    let shape = c.requires.shape in
    subst IsView (sym c.view_of.ensures)
    (record {
      valid = c.requires.parts.tree;
      windows = view-windows c.args.tree.now.clients c.args.tree.now c.args.windows.now c.requires.parts;
      width_least = shape.width_least;
      width_most = shape.width_most;
      height_least = shape.height_least;
      height_most = shape.height_most;
    })

pub asked-requires-clause-kept : goal.asked-requires-clause-kept
asked-requires-clause-kept c =
    let P : View → Type 0 = λ v. KeepsPlaces v.tree.now v.stack.now in
    subst P (sym c.view_of.ensures) (view-places c.args.tree.now.clients c.args.tree.now c.args.windows.now c.requires.parts c.requires.placed)

pub returns-clause-effects : goal.returns-clause-effects
returns-clause-effects c =
    let E : View → Type 0 = λ v. effects_seen v.tree.now.entries c.asked.result ≡ effects_in (scene_of v) c.args.input in
    subst E c.view_of.ensures c.asked.ensures.effects
