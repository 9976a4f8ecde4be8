use Rattle.std.proofs.Common.{sym, ap, subst, ◌∙◌}
use Rattle.desk_model.specs.Seen as seen
use Rattle.scene_core.specs.View.{scene_of, IsView, KeepsPlaces}
use Rattle.desk_layout.specs.Placed.{HaveDuePlaces}
use Rattle.desk_core.specs.View.{DeskView}
use Rattle.desk_core.specs.ClientList.{clients_of}
use Rattle.desk_core.proofs.Views.{view-scene, view-windows, view-places}
use Rattle.desk_core.proofs.desk.Desk.view.Goals as goal

pub returns-clause-scene : goal.returns-clause-scene
returns-clause-scene c =
    let i = c.self.inside in
    ap scene_of c.view_of.ensures ∙ view-scene i.shape i.roster i.clients i.pointer i.tree i.windows c.self.invariant.parts.windows ∙ ap (λ (s : DeskView). seen.scene_of s.desk) c.self.view_is

pub returns-clause-placed : goal.returns-clause-placed
returns-clause-placed c =
    let P : DeskView → Type 0 = λ s. HaveDuePlaces s.widgets in
    subst P c.self.view_is c.self.invariant.placed

pub returns-clause-kept : goal.returns-clause-kept
returns-clause-kept c =
    let i = c.self.inside in
    let P : DeskView → Type 0 = λ s. KeepsPlaces s.widgets s.windows in
    subst P c.self.view_is (view-places (clients_of i.clients) i.tree i.windows c.self.invariant.parts c.self.invariant.placed)

pub returns-clause-view : goal.returns-clause-view
returns-clause-view c =
    let i = c.self.inside in
    let shape = c.self.invariant.desk.shape in
    subst IsView (sym c.view_of.ensures)
    (record {
      valid = c.self.invariant.parts.tree;
      windows = view-windows (clients_of i.clients) i.tree i.windows c.self.invariant.parts;
      width_least = shape.width_least;
      width_most = shape.width_most;
      height_least = shape.height_least;
      height_most = shape.height_most;
    })
