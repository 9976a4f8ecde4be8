-- What an event touches: where it keeps to its scope, only the looks of the widgets in it, and of those that are linked to
-- a Variable in it, can differ, so it is enough to compare those, and what a VScreen shows that it shows anew.
use Rattle.std.specs.Prelude.{ℕ, ◌≡◌, ◌≤◌, Bool, true, false, not, ◌&&◌, ◌||◌, nat_eq, List, [], Some, None, Option}
use Rattle.std.specs.List.{list_any}
use Rattle.std.specs.Option.{option_map_or}
use Rattle.look_core.specs.Seen.{Seen}
use Rattle.widget_model.specs.Rows.{Row}
use Rattle.widget_model.specs.Keys.{key_of}
use Rattle.widget_model.specs.Named.{rows_of_others}
use Rattle.widget_model.specs.Nodes.{is_number_of}
use Rattle.widget_model.specs.Widgets.{rows_of, row_at}
use Rattle.widget_model.specs.Forest.{IsWidgets}
use Rattle.desk_model.specs.OwnPart.{LeavesPointer}
use Rattle.desk_model.specs.Scope.{Scope, StaysBut, is_among}
use Rattle.look_data.specs.Watched.{AreWatched, has_changed}
use Rattle.touch_rules.specs.Touched.{Numbered, is_shown, TellsLooks}
use Rattle.touch_rules.specs.Films.{looks_alike, shown_film}

-- the scene has the numbered rows
pub record IsNumbered (numbered : Numbered) : Type 0 where
  pub widgets : IsWidgets numbered.widgets
  pub rows : numbered.scene.rows ≡ rows_of numbered.widgets

-- An event of the client: a number that names a widget before and after names one key, the others' rows stay, and the
-- pointer lets go of the client's own widgets at most.
pub record IsOwnEvent (client : ℕ) (before after : Numbered) : Type 0 where
  pub some : 1 ≤ client
  pub keys : (id : ℕ) (a b : Row) → row_at before.widgets.entries id ≡ Some a → row_at after.widgets.entries id ≡ Some b → key_of a ≡ key_of b
  pub rows : rows_of_others client after.scene.rows ≡ rows_of_others client before.scene.rows
  pub pointer : LeavesPointer client before.scene.pointer after.scene.pointer

-- A number that names a widget before and after names one key.
pub record KeepsKeys (before after : Numbered) : Type 0 where
  pub each : (id : ℕ) (a b : Row) → row_at before.widgets.entries id ≡ Some a → row_at after.widgets.entries id ≡ Some b → key_of a ≡ key_of b

-- Of the widgets that are there before the event, the numbers in the list have all whose rows or hold the event may change,
-- and the Variable is the only one whose value it may change.
pub record WatchesScope (scope : Scope) (named : List ℕ) (variable : Option ℕ) (before : Numbered) : Type 0 where
  pub rows : (id : ℕ) (row : Row) → row_at before.widgets.entries id ≡ Some row → is_among scope.rows (key_of row) ≡ true → list_any (nat_eq id) named ≡ true
  pub held : (id : ℕ) (row : Row) → row_at before.widgets.entries id ≡ Some row → is_among scope.held (key_of row) ≡ true → list_any (nat_eq id) named ≡ true
  pub values : (id : ℕ) (row : Row) → row_at before.widgets.entries id ≡ Some row → is_among scope.values (key_of row) ≡ true → variable ≡ Some id

-- whether it is that number, where there is one
abbrev pub is_number : Option ℕ → ℕ → Bool
is_number anew id = option_map_or (nat_eq id) anew false

-- Of the widgets that are there before and after, exactly the numbered one shows a film that looks different.
pub record ShowsNumberAnew (anew : Option ℕ) (before after : Numbered) : Type 0 where
  pub each : (id : ℕ) (a b : Row) → row_at before.widgets.entries id ≡ Some a → row_at after.widgets.entries id ≡ Some b
      → not (looks_alike (shown_film a) (shown_film b)) ≡ is_number anew id

-- whether it is the number of the VScreen that is shown anew, and is shown before and after
abbrev pub is_seen_anew : Option ℕ → Numbered → Numbered → ℕ → Bool
is_seen_anew anew before after id = is_number anew id && (is_shown before id && is_shown after id)

-- After an event that keeps to its scope it is enough to compare the watched looks, and to add the VScreen that it shows
-- anew.
abbrev pub WatchedLooksAreEnough : Type 0
WatchedLooksAreEnough =
    (scope : Scope) (named : List ℕ) (variable anew : Option ℕ) (before after : Numbered) (looks : List (ℕ × Seen)) (touched : List ℕ) → IsNumbered before → IsNumbered after → KeepsKeys before after
    → StaysBut scope before.scene after.scene → WatchesScope scope named variable before → ShowsNumberAnew anew before after → AreWatched named variable before.widgets before.windows before.scene looks
    → ((id : ℕ) → list_any (nat_eq id) touched ≡ (has_changed looks after.widgets after.windows after.scene id || is_seen_anew anew before after id))
    → TellsLooks before after touched

-- Where no number of the client is live after it, nothing is touched.
abbrev pub LeavingTouchesNothing : Type 0
LeavingTouchesNothing =
    (client : ℕ) (before after : Numbered) → IsNumbered before → IsNumbered after → IsOwnEvent client before after
    → ((id : ℕ) → is_number_of client id ≡ true → row_at after.widgets.entries id ≡ None)
    → TellsLooks before after []

-- Where the rows, the open windows and the pointer stay, nothing is touched.
abbrev pub StayingTouchesNothing : Type 0
StayingTouchesNothing =
    (before after : Numbered) → after.widgets.entries ≡ before.widgets.entries → after.scene ≡ before.scene → TellsLooks before after []
