-- What holds of the desk at every moment.
use Rattle.std.specs.Prelude.{ℕ, ◌≡◌, ◌≤◌, Bool, true, false, not, ◌&&◌, ◌||◌, nat_lt, nat_eq, is_none, List, [], ◌∷◌, map}
use Rattle.std.specs.List.{list_all, list_any, All}
use Rattle.std.specs.Option.{option_map_or}
use Rattle.bind_core.specs.Ring.{IsRing}
use Rattle.vscreen_core.specs.Band.{share_of}
use Rattle.scene_model.specs.Shapes.{IsShape}
use Rattle.widget_model.specs.Rows.{Row}
use Rattle.widget_model.specs.Kinds.{can_link, is_window_kind}
use Rattle.widget_model.specs.Named.{row_named, is_kind_of}
use Rattle.widget_model.specs.Trees.{is_admitted}
use Rattle.widget_model.specs.Clients.{is_joined, is_client}
use Rattle.widget_model.specs.RowFacts.{AreRows}
use Rattle.desk_model.specs.Desk.{Desk, Admission, Ring, is_window, is_admission}
use Rattle.desk_model.specs.Screens.{film_named, shares_of, roster_limit}
use Rattle.desk_model.specs.LetGo.{let_go}

-- No client is connected twice.
abbrev pub AreConnectedOnce : List ℕ → Type 0
AreConnectedOnce [] = Unit {0}
AreConnectedOnce (client ∷ clients) = (is_joined clients client ≡ false) × AreConnectedOnce clients

-- Only a row whose kind can be linked has a link.
abbrev pub links_by_kind : Row → Bool
links_by_kind row = is_none row.link || can_link row.kind

-- No window is open twice.
abbrev pub AreOpenOnce : List (ℕ × List ℕ) → Type 0
AreOpenOnce [] = Unit {0}
AreOpenOnce (window ∷ windows) = (list_any (is_window window.0 window.1) windows ≡ false) × AreOpenOnce windows

-- An admission is of a VScreen that is admitted, and its share is its film's.
abbrev pub has_its_share : List Row → Admission → Bool
has_its_share rows admission =
    option_map_or
    (λ film. nat_lt 0 film.period && nat_eq admission.share (share_of film.width film.height film.period))
    (film_named rows admission.client admission.name)
    false

-- No VScreen is admitted twice.
abbrev pub AreAdmittedOnce : List Admission → Type 0
AreAdmittedOnce [] = Unit {0}
AreAdmittedOnce (admission ∷ roster) = (list_any (is_admission admission.client admission.name) roster ≡ false) × AreAdmittedOnce roster

-- whether the row, where it is an admitted VScreen, has an admission
abbrev pub is_listed : List Admission → Row → Bool
is_listed roster row = not (is_admitted row) || list_any (is_admission row.client row.name) roster

-- What holds of the roster: its admissions are exactly those of the admitted VScreens, each once and with its film's
-- share, and the shares together are at most what the spare leaves of the budget.
pub record IsRosterOf (limit : ℕ) (rows : List Row) (roster : List Admission) : Type 0 where
  pub shares : list_all (has_its_share rows) roster ≡ true
  pub once : AreAdmittedOnce roster
  pub all : list_all (is_listed roster) rows ≡ true
  pub within : shares_of roster ≤ limit

-- What holds of the kept events: each connected client has a ring, in the order of connecting.
pub record AreRingsOf (clients : List ℕ) (rings : List Ring) : Type 0 where
  pub each : map (λ ring. ring.client) rings ≡ clients
  pub valid : All (λ ring. IsRing ring.events) rings

pub record IsDesk (desk : Desk) : Type 0 where
  pub shape : IsShape desk.shape
  pub clients : list_all is_client desk.clients ≡ true
  pub connected_once : AreConnectedOnce desk.clients
  pub rows : AreRows desk.clients desk.rows
  pub linked_by_kind : list_all links_by_kind desk.rows ≡ true
  pub roster : IsRosterOf (roster_limit desk) desk.rows desk.roster
  pub rings : AreRingsOf desk.clients desk.rings
  -- an open window is one of the Windows, and is open once
  pub windows : list_all (λ window. is_kind_of is_window_kind (row_named desk.rows window.0 window.1)) desk.windows ≡ true
  pub once : AreOpenOnce desk.windows
  -- nothing is grabbed and nothing has the focus that is neither an open window nor under one
  pub held : let_go desk ≡ desk
