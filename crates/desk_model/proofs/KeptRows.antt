-- What a desk keeps when one of its rows is changed, but for what names it.
use Rattle.std.proofs.Common.{◌≡◌, ℕ, true, List, Some, ◌∙◌}
use Rattle.widget_model.specs.Rows.{Row}
use Rattle.widget_model.specs.Kinds.{is_window_kind}
use Rattle.widget_model.specs.Named.{row_named, with_named}
use Rattle.widget_model.proofs.Leaves.{LeavesNode, LeavesNode-changed}
use Rattle.widget_model.proofs.Hanging.{all_at, all_from, changed}
use Rattle.widget_model.proofs.ChangedRows.{is_kind_of-map, all-with_named, Suits, AreRows-with_named}
use Rattle.desk_model.specs.Desk.{Desk, Admission}
use Rattle.desk_model.specs.Screens.{roster_limit}
use Rattle.desk_model.specs.DeskFacts.{links_by_kind, IsRosterOf}
use Rattle.desk_model.proofs.Sound.{names_window, AreWindows, IsSound}
use Rattle.desk_model.proofs.Rosters.{share_in, IsRosterOf-with_named}

pub AreWindows-with_named : (rows : List Row) (client : ℕ) (name : List ℕ) (change : Row → Row) (windows : List (ℕ × List ℕ)) → LeavesNode change → AreWindows rows windows → AreWindows (with_named client name change rows) windows
AreWindows-with_named rows client name change windows leaves kept =
    let same : LeavesNode (changed client name change) = LeavesNode-changed client name change leaves in
    record {
      there = all_from (names_window (with_named client name change rows)) windows (λ i window there. is_kind_of-map rows (changed client name change) is_window_kind window.0 window.1 same ∙ all_at (names_window rows) windows i window kept.there there);
      once = kept.once;
    }

-- The named row changes, and with it the roster.
pub IsSound-with_roster : (desk : Desk) (client : ℕ) (name : List ℕ) (row : Row) (change : Row → Row) (roster : List Admission) → IsSound desk → row_named desk.rows client name ≡ Some row → Suits desk.rows client name row change → (links_by_kind row ≡ true → links_by_kind (change row) ≡ true) → IsRosterOf (roster_limit desk) (with_named client name change desk.rows) roster → IsSound (record desk { rows = with_named client name change desk.rows; roster = roster })
IsSound-with_roster desk client name row change roster sound found suits by_kind listed =
    record {
      shape = sound.shape;
      clients = sound.clients;
      connected_once = sound.connected_once;
      rows = AreRows-with_named desk.clients desk.rows client name row change sound.rows found suits;
      by_kind = all-with_named links_by_kind links_by_kind desk.rows client name change row sound.rows.names found (λ other h. h) by_kind sound.by_kind;
      roster = listed;
      rings = sound.rings;
      windows = AreWindows-with_named desk.rows client name change desk.windows suits.leaves sound.windows;
    }

-- A change that leaves what is set aside for the row's film leaves the roster.
pub IsSound-with_named : (desk : Desk) (client : ℕ) (name : List ℕ) (row : Row) (change : Row → Row) → IsSound desk → row_named desk.rows client name ≡ Some row → Suits desk.rows client name row change → (links_by_kind row ≡ true → links_by_kind (change row) ≡ true) → share_in (change row) ≡ share_in row → IsSound (record desk { rows = with_named client name change desk.rows })
IsSound-with_named desk client name row change sound found suits by_kind share =
    IsSound-with_roster desk client name row change desk.roster sound found suits by_kind
    (IsRosterOf-with_named (roster_limit desk) desk.rows desk.roster client name row change (record { client = suits.leaves.client; name = suits.leaves.name }) sound.rows.names found share sound.roster)
