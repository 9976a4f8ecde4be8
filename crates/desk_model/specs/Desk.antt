-- The desk: what the sequential server keeps. Widgets are named by client and name.
use Rattle.std.specs.Prelude.{ℕ, Bool, false, ◌&&◌, nat_eq, List, [], None}
use Rattle.std.specs.List.{list_any}
use Rattle.std.specs.Str.{bytes_eq}
use Rattle.kind_core.specs.declared.shapes.Shape.{Shape}
use Rattle.bind_core.specs.Ring.{RingState}
use Rattle.widget_model.specs.Rows.{Row}
use Rattle.widget_model.specs.Pointer.{Pointer, no_grab}

-- an admitted VScreen, with the pixels that it may be drawn in a tick
pub record Admission : Type 0 where
  pub client : ℕ
  pub name : List ℕ
  pub share : ℕ

-- the events kept for a client, each with its tag and two numbers, which may be negative (a release can be left of its
-- widget or above it), and how many were lost
pub record Ring : Type 0 where
  pub client : ℕ
  pub events : RingState

pub record Desk : Type 0 where
  pub shape : Shape
  -- the connected clients
  pub clients : List ℕ
  -- the widgets of all clients in the order of making
  pub rows : List Row
  -- the open windows from top to bottom, each by client and name
  pub windows : List (ℕ × List ℕ)
  pub pointer : Pointer
  -- in the order of admission
  pub roster : List Admission
  -- one for each connected client, in the order of connecting
  pub rings : List Ring

-- At opening the pointer is at the upper left corner, up, with nothing grabbed and no focus.
abbrev pub opening_pointer : Pointer
opening_pointer = record { x = 0; y = 0; down = false; grab = no_grab; focus = None }

-- At opening a desk has its numbers and the pointer alone.
abbrev pub opening_desk : Shape → Desk
opening_desk shape = record { shape = shape; clients = []; rows = []; windows = []; pointer = opening_pointer; roster = []; rings = [] }

abbrev pub is_connected : Desk → ℕ → Bool
is_connected desk client = list_any (nat_eq client) desk.clients

-- whether the window is the one with this client and name
abbrev pub is_window : ℕ → List ℕ → ℕ × List ℕ → Bool
is_window client name window = nat_eq client window.0 && bytes_eq name window.1

abbrev pub is_open : Desk → ℕ → List ℕ → Bool
is_open desk client name = list_any (is_window client name) desk.windows

-- whether the admission is of the VScreen with this client and name
abbrev pub is_admission : ℕ → List ℕ → Admission → Bool
is_admission client name admission = nat_eq client admission.client && bytes_eq name admission.name
