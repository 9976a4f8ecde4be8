-- A beat of a desk's parts: the films of the roster's VScreens are beaten, and their bands handed out by numbers.
use Rattle.std.specs.Prelude.{ℕ, ◌≤◌, List, Option, Some, map}
use Rattle.vscreen_core.specs.declared.band.Band.{Band}
use Rattle.widget_model.specs.Rows.{Row}
use Rattle.widget_model.specs.Widgets.{Widgets, nodes, rows_of, key_at}
use Rattle.tree_core.specs.declared.id.Id.{Id}
use Rattle.admit_core.specs.Roster.{RosterState}
use Rattle.desk_model.specs.Desk.{Desk}
use Rattle.desk_model.specs.DeskFacts.{IsRosterOf}
use Rattle.desk_commands.specs.Parts.{Stage, admissions_at, with_roster, desk_of}
use Rattle.desk_commands.specs.Screens.{HasFilm}

-- the desk of these widgets, of which the VScreens of the roster are admitted
abbrev pub listed_desk : Stage → Widgets → RosterState → List ℕ → Desk
listed_desk stage widgets roster keys = desk_of (with_roster (admissions_at (nodes widgets.entries) roster.entries) stage) widgets keys

-- The roster has exactly the admitted VScreens of the widgets, each once and with its share.
abbrev pub ListsEach : Widgets → RosterState → Type 0
ListsEach widgets roster = IsRosterOf roster.limit (rows_of widgets) (admissions_at (nodes widgets.entries) roster.entries)

-- The number is that of a VScreen whose film has a period.
pub record HasPeriod (widgets : Widgets) (key : ℕ) : Type 0 where
  pub own : HasFilm widgets key
  pub some : 1 ≤ own.film.period

-- a band that was handed out, with the key of its widget
abbrev pub named_band : List (ℕ × Row) → Id × Band → Option (ℕ × List ℕ) × Band
named_band entries entry = (key_at entries entry.0.key, entry.1)

abbrev pub bands_named : List (ℕ × Row) → List (Id × Band) → List (Option (ℕ × List ℕ) × Band)
bands_named entries items = map (named_band entries) items

-- bands that are known by the keys of their VScreens, each of which is there
abbrev pub keyed_band : (ℕ × List ℕ) × Band → Option (ℕ × List ℕ) × Band
keyed_band drawn = (Some drawn.0, drawn.1)

abbrev pub bands_keyed : List ((ℕ × List ℕ) × Band) → List (Option (ℕ × List ℕ) × Band)
bands_keyed bands = map keyed_band bands
