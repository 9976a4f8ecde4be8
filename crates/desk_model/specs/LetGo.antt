-- What the pointer lets go of, as every event ends: a grab or focus whose widget is neither an open window nor under
-- one is none.
use Rattle.std.specs.Prelude.{ℕ, Bool, List, Option, Some, None, if◌then◌else◌}
use Rattle.cmd_words.specs.declared.replies.Reply.{Reply}
use Rattle.widget_model.specs.Pointer.{Grab, no_grab, on_widget, drags}
use Rattle.widget_model.specs.Trees.{root_of}
use Rattle.desk_model.specs.Desk.{Desk, is_open}

-- whether the widget is an open window or under one
abbrev pub is_in_window : Desk → ℕ × List ℕ → Bool
is_in_window desk key = is_open desk key.0 (root_of desk.rows key.0 key.1)

-- what stays of a grab, where only some widgets may be grabbed
abbrev pub grab_left : (ℕ × List ℕ → Bool) → Grab → Grab
grab_left stays no_grab = no_grab
grab_left stays (on_widget key) = if stays key then on_widget key else no_grab
grab_left stays (drags window dx dy) = if stays window then drags window dx dy else no_grab

-- what stays of a focus
abbrev pub focus_left : (ℕ × List ℕ → Bool) → Option (ℕ × List ℕ) → Option (ℕ × List ℕ)
focus_left stays None = None
focus_left stays (Some widget) = if stays widget then Some widget else None

-- The pointer lets go of what is neither an open window nor under one.
unfoldable pub let_go : Desk → Desk
let_go desk =
    record desk {
      pointer = record desk.pointer {
        grab = grab_left (is_in_window desk) desk.pointer.grab;
        focus = focus_left (is_in_window desk) desk.pointer.focus;
      };
    }

-- So each event ends, whatever it did and answered.
abbrev pub event_end : Reply × Desk → Reply × Desk
event_end done = (done.0, let_go done.1)
