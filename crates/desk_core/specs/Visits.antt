-- Inner words of the proofs: a call that leaves the widgets and the open windows as they are, and says so.
use Rattle.std.specs.Prelude.{◌≡◌, false, []}
use Rattle.widget_model.specs.Forest.{IsWidgets}
use Rattle.desk_model.specs.DeskFacts.{IsDesk}
use Rattle.desk_model.specs.Seen as seen
use Rattle.desk_core.specs.View.{DeskView}

pub record IsVisit (old new : DeskView) : Type 0 where
  pub widgets : IsWidgets old.widgets
  pub desk : IsDesk old.desk
  pub entries : new.widgets.entries ≡ old.widgets.entries
  pub scene : seen.scene_of new.desk ≡ seen.scene_of old.desk
  pub changed : new.changed ≡ false
  pub moved : new.moved ≡ false
  pub touched : new.touched ≡ []
