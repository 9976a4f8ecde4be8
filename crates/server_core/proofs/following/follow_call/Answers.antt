use Rattle.std.proofs.Common.{sym, subst}
use Rattle.scene_model.specs.Scene.{Scene}
use Rattle.scene_core.specs.View as views
use Rattle.desk_model.specs.DeskFacts.{AreOpenOnce}
use Rattle.server_core.proofs.Reaching.{marked_of_desks, shows_of_desk}
use Rattle.server_core.proofs.InPlaceShots.{shot_in_place}
use Rattle.server_core.proofs.following.follow_call.Goals as goal

pub returns-then-moved : goal.returns-then-moved
returns-then-moved c before calls = record {
  marked = marked_of_desks before c.args.desk.now c.view-view.result c.args.shown.now _ _ _ calls.shape calls.shows c.view-view.ensures.scene c.view-view.ensures.tree c.view-view.ensures.stack c.view-view.ensures.view calls.numbered calls.touched c.touched.ensures c.follow.ensures.reach;
  shows = shows_of_desk c.args.desk.now c.view-view.result _ c.view-view.ensures.scene c.view-view.ensures.tree c.view-view.ensures.stack c.view-view.ensures.view c.follow.ensures.shown;
}

pub returns-else-moved : goal.returns-else-moved
returns-else-moved c before calls =
    let stays = calls.still (sym c.if-moved.ensures) in
    let once : AreOpenOnce (views.scene_of c.view-view.result).windows = subst (λ (s : Scene). AreOpenOnce s.windows) (sym c.view-view.ensures.scene) calls.valid.once in
    let shot = shot_in_place before c.args.desk.now c.view-view.result c.args.shown.now calls.shape stays calls.numbered c.view-view.ensures.scene c.view-view.ensures.tree c.view-view.ensures.stack c.view-view.ensures.view calls.shows in
    record {
      marked = marked_of_desks before c.args.desk.now c.view-view.result c.args.shown.now _ _ _ calls.shape calls.shows c.view-view.ensures.scene c.view-view.ensures.tree c.view-view.ensures.stack c.view-view.ensures.view calls.numbered calls.touched c.touched-else-moved.ensures
          (λ sight was. c.follow_looks.ensures sight c.view-view.result c.view-view.ensures.view once shot was);
      shows = shows_of_desk c.args.desk.now c.view-view.result _ c.view-view.ensures.scene c.view-view.ensures.tree c.view-view.ensures.stack c.view-view.ensures.view shot;
    }
