-- What holds of a desk but for its pointer, and that a desk of which it holds is a whole one once the pointer has
-- let go.
use Rattle.std.proofs.Common.{◌≡◌, ℕ, Bool, true, false, cond, List, Option, Some, None, refl, ap₂}
use Rattle.std.specs.List.{list_all}
use Rattle.cmd_words.specs.declared.replies.Reply.{Reply}
use Rattle.cmd_words.specs.declared.replies.Refusal.{Refusal}
use Rattle.widget_model.specs.RowFacts.{AreRows}
use Rattle.widget_model.specs.Pointer.{Grab, no_grab, on_widget, drags}
use Rattle.scene_model.specs.Shapes.{IsShape}
use Rattle.widget_model.specs.Rows.{Row}
use Rattle.widget_model.specs.Kinds.{is_window_kind}
use Rattle.widget_model.specs.Named.{row_named, is_kind_of}
use Rattle.widget_model.specs.Clients.{is_client}
use Rattle.desk_model.specs.Desk.{Desk}
use Rattle.desk_model.specs.LetGo.{is_in_window, grab_left, focus_left, let_go}
use Rattle.desk_model.specs.Refusals.{outcome}
use Rattle.desk_model.specs.Screens.{roster_limit}
use Rattle.desk_model.specs.DeskFacts.{AreConnectedOnce, AreOpenOnce, links_by_kind, IsRosterOf, AreRingsOf, IsDesk}

-- whether the window is one of the rows, and a Window
abbrev pub names_window : List Row → ℕ × List ℕ → Bool
names_window rows window = is_kind_of is_window_kind (row_named rows window.0 window.1)

-- what holds of the open windows
pub record AreWindows (rows : List Row) (windows : List (ℕ × List ℕ)) : Type 0 where
  pub there : list_all (names_window rows) windows ≡ true
  pub once : AreOpenOnce windows

pub record IsSound (desk : Desk) : Type 0 where
  pub shape : IsShape desk.shape
  pub clients : list_all is_client desk.clients ≡ true
  pub connected_once : AreConnectedOnce desk.clients
  pub rows : AreRows desk.clients desk.rows
  pub by_kind : list_all links_by_kind desk.rows ≡ true
  pub roster : IsRosterOf (roster_limit desk) desk.rows desk.roster
  pub rings : AreRingsOf desk.clients desk.rings
  pub windows : AreWindows desk.rows desk.windows

pub IsSound-desk : (desk : Desk) → IsDesk desk → IsSound desk
IsSound-desk desk kept =
    record {
      shape = kept.shape;
      clients = kept.clients;
      connected_once = kept.connected_once;
      rows = kept.rows;
      by_kind = kept.linked_by_kind;
      roster = kept.roster;
      rings = kept.rings;
      windows = record { there = kept.windows; once = kept.once };
    }

pub IsDesk-sound : (desk : Desk) → IsSound desk → let_go desk ≡ desk → IsDesk desk
IsDesk-sound desk sound held =
    record {
      shape = sound.shape;
      clients = sound.clients;
      connected_once = sound.connected_once;
      rows = sound.rows;
      linked_by_kind = sound.by_kind;
      roster = sound.roster;
      rings = sound.rings;
      windows = sound.windows.there;
      once = sound.windows.once;
      held = held;
    }

-- What stays of a grab or a focus stays of it again.
grab_left-again : (stays : ℕ × List ℕ → Bool) (grab : Grab) → grab_left stays (grab_left stays grab) ≡ grab_left stays grab
grab_left-again stays no_grab = refl
grab_left-again stays (on_widget key) = by (stays key) refl
  where
    by : (b : Bool) → stays key ≡ b → grab_left stays (cond b (on_widget key) no_grab) ≡ cond b (on_widget key) no_grab
    by true here = rw here refl
    by false here = refl
grab_left-again stays (drags window dx dy) = by (stays window) refl
  where
    by : (b : Bool) → stays window ≡ b → grab_left stays (cond b (drags window dx dy) no_grab) ≡ cond b (drags window dx dy) no_grab
    by true here = rw here refl
    by false here = refl

focus_left-again : (stays : ℕ × List ℕ → Bool) (focus : Option (ℕ × List ℕ)) → focus_left stays (focus_left stays focus) ≡ focus_left stays focus
focus_left-again stays None = refl
focus_left-again stays (Some widget) = by (stays widget) refl
  where
    by : (b : Bool) → stays widget ≡ b → focus_left stays (cond b (Some widget) None) ≡ cond b (Some widget) None
    by true here = rw here refl
    by false here = refl

pub let_go-again : (desk : Desk) → let_go (let_go desk) ≡ let_go desk
unfolding let_go
let_go-again desk =
    ap₂ (λ (grab : Grab) (focus : Option (ℕ × List ℕ)). record desk { pointer = record desk.pointer { grab = grab; focus = focus } })
    (grab_left-again (is_in_window desk) desk.pointer.grab) (focus_left-again (is_in_window desk) desk.pointer.focus)

pub IsSound-let_go : (desk : Desk) → IsSound desk → IsSound (let_go desk)
unfolding let_go
IsSound-let_go desk sound = record { shape = sound.shape; clients = sound.clients; connected_once = sound.connected_once; rows = sound.rows; by_kind = sound.by_kind; roster = sound.roster; rings = sound.rings; windows = sound.windows }

-- so each event ends with a whole desk
pub IsDesk-let_go : (desk : Desk) → IsSound desk → IsDesk (let_go desk)
IsDesk-let_go desk sound = IsDesk-sound (let_go desk) (IsSound-let_go desk sound) (let_go-again desk)

-- a refusal leaves the desk
pub IsSound-outcome : (desk : Desk) (refusal : Option Refusal) (effect : Reply × Desk) → IsSound desk → (refusal ≡ None → IsSound effect.1) → IsSound (outcome desk refusal effect).1
IsSound-outcome desk None effect sound done = done refl
IsSound-outcome desk (Some refusal) effect sound done = sound
