-- What contracts see of the desk: the desk itself, whether the last call changed it, whether it moved something on the
-- screen, the numbered rows with the places that are kept of them, the numbers of the open windows, and those of the looks
-- that the last call touched.
use Rattle.std.specs.Prelude.{ℕ, ◌≡◌, ◌↔◌, Bool, IsTrue, true, false, List}
use Rattle.cmd_words.specs.declared.replies.Reply.{Reply}
use Rattle.cmd_words.specs.declared.replies.Reply.TheVariants.{Refused}
use Rattle.widget_model.specs.Widgets.{Widgets}
use Rattle.desk_model.specs.Desk.{Desk}
use Rattle.desk_model.specs.InPlace.{StaysInPlace}

pub record DeskView : Type 0 where
  pub desk : Desk
  -- whether the last call changed the rows, the open windows or their order
  pub changed : Bool
  -- whether the last call may have changed what is where on the screen
  pub moved : Bool
  -- the widgets by their numbers, with their kept places
  pub widgets : Widgets
  -- the open windows by their numbers, from top to bottom
  pub windows : List ℕ
  -- the numbers of the widgets whose look the last call touched
  pub touched : List ℕ

-- whether the call says rightly that it changed the rows, the open windows or their order
abbrev pub TellsChange : DeskView → DeskView → Type 0
TellsChange old new = IsTrue new.changed ↔ ¬ ((new.desk.rows ≡ old.desk.rows) × (new.desk.windows ≡ old.desk.windows))

-- where the call says that it changed nothing, the rows, the open windows and their order are as they were
abbrev pub StaysUnlessChanged : DeskView → DeskView → Type 0
StaysUnlessChanged old new = new.changed ≡ false → (new.desk.rows ≡ old.desk.rows) × (new.desk.windows ≡ old.desk.windows)

-- Where the call says that it moved nothing, all stays in place: no widget came, went, hangs elsewhere or has another place,
-- and no window opened, closed or rose.
abbrev pub StaysUnlessMoved : DeskView → DeskView → Type 0
StaysUnlessMoved old new = new.moved ≡ false → StaysInPlace old.desk new.desk

-- whether the reply refuses
abbrev pub is_refused : Reply → Bool
is_refused (Refused refusal) = true
is_refused _ = false
