-- What a command did: it found its widget or not, it refused, or it changed one row.
use Rattle.std.proofs.Common.{◌≡◌, ℕ, true, false, List, [], ◌∷◌, Option, Some, None, is_some, refl, sym, ap, ◌∙◌, subst}
use Rattle.std.proofs.lemmas.Bool.{true≢false, and_parts, and_from}
use Rattle.std.specs.List.{list_all}
use Rattle.std.specs.Option.{option_map, option_map_or}
use Rattle.kind_core.specs.declared.kinds.Kind.{Kind}
use Rattle.cmd_words.specs.declared.replies.Reply.{Reply}
use Rattle.cmd_words.specs.declared.replies.Reply.TheVariants.{Refused}
use Rattle.cmd_words.specs.declared.replies.Refusal.{Refusal}
use Rattle.widget_model.specs.Rows.{Row}
use Rattle.widget_model.specs.Nodes.{Node, node_of, node_at, id_named}
use Rattle.widget_model.specs.Named.{with_named}
use Rattle.widget_model.specs.Widgets.{Widgets, nodes, rows_of, row_at, edited}
use Rattle.widget_model.specs.Forest.{IsWidgets}
use Rattle.desk_model.specs.Desk.{Desk}
use Rattle.widget_model.proofs.Naming.{id_named-row, row_named-found, row_named-parts, rows-with_row}
use Rattle.tree_core.proofs.Listed.{row_named-row}
use Rattle.tree_core.proofs.ForestLemmas.{nodes-with_row}
use Rattle.widget_model.specs.Kinds.{is_window_kind}
use Rattle.desk_commands.specs.Parts.{windows_at, names_window}
use Rattle.desk_commands.specs.Effects.{Did, with_rows}
use Rattle.desk_commands.specs.Lookup.{IsFound}

-- the widget that has the name's number
pub is_found : (w : Widgets) (client : ℕ) (name : List ℕ) (key : ℕ) (kind : Kind) → IsWidgets w → id_named (nodes w.entries) client name ≡ Some key → option_map (λ (row : Row). row.kind) (row_at w.entries key) ≡ Some kind → IsFound w client name key kind
is_found w client name key kind kept id has = by (row_at w.entries key) refl has
  where
    by : (o : Option Row) → row_at w.entries key ≡ o → option_map (λ (row : Row). row.kind) o ≡ Some kind → IsFound w client name key kind
    by None p h = absurd (cc)
    by (Some row) p h = record { row = row; id = id; there = p; named = row_named-found w.entries client name key kept.numbered.own_numbers id ∙ p; has = cc }

-- a widget with a number is found under its client and name
pub found-live : (w : Widgets) (id : ℕ) (row : Row) → IsWidgets w → row_at w.entries id ≡ Some row → IsFound w row.client row.name id row.kind
found-live w id row valid there =
    record { row = row; id = id_named-row w.entries id row valid.rows.names there; there = there; named = row_named-row w.entries id row valid.numbered.own_numbers valid.rows.names there; has = refl }

-- its row has the client and name that were asked for
pub found-parts : (w : Widgets) (client : ℕ) (name : List ℕ) (key : ℕ) (kind : Kind) (found : IsFound w client name key kind) → (found.row.client ≡ client) × (found.row.name ≡ name)
found-parts w client name key kind found = row_named-parts (rows_of w) client name found.row found.named

-- a call that leaves the widgets
pub same_did : (step : Desk → Reply × Desk) (w : Widgets) (reply : Reply) → ((desk : Desk) → (reply, with_rows (rows_of w) desk) ≡ step (with_rows (rows_of w) desk)) → Did step w w reply
same_did step w reply answer = record { answer = answer; clients = refl; kept = λ id h. refl; places = refl }

pub refused_did : (step : Desk → Reply × Desk) (w : Widgets) (reply : Reply) (refusal : Refusal) → reply ≡ Refused refusal → ((desk : Desk) → step (with_rows (rows_of w) desk) ≡ (Refused refusal, with_rows (rows_of w) desk)) → Did step w w reply
refused_did step w reply refusal is answer = same_did step w reply (λ desk. ap (λ (r : Reply). (r, with_rows (rows_of w) desk)) is ∙ sym (answer desk))

-- a call that changes the widget that was found
pub edited_did : (step : Desk → Reply × Desk) (w : Widgets) (client : ℕ) (name : List ℕ) (key : ℕ) (change : Row → Row) (reply : Reply) → IsWidgets w → id_named (nodes w.entries) client name ≡ Some key → ((row : Row) → node_of (change row) ≡ node_of row) → ((desk : Desk) → step (with_rows (rows_of w) desk) ≡ (reply, with_rows (with_named client name change (rows_of w)) desk)) → Did step w (edited key change w) reply
edited_did step w client name key change reply kept id same answer =
    record {
      answer = λ desk. ap (λ (rs : List Row). (reply, with_rows rs desk)) (rows-with_row w.entries client name key change kept.numbered.own_numbers kept.rows.names id) ∙ sym (answer desk);
      clients = refl;
      kept = λ other h. ap (λ (ns : List (ℕ × Node)). node_at ns other) (nodes-with_row w.entries key change same);
      places = refl;
    }

-- the same, where what the call left is known by an equation
pub done_did : (step : Desk → Reply × Desk) (w new : Widgets) (client : ℕ) (name : List ℕ) (key : ℕ) (change : Row → Row) (reply is : Reply) → reply ≡ is → new ≡ edited key change w → IsWidgets w → id_named (nodes w.entries) client name ≡ Some key → ((row : Row) → node_of (change row) ≡ node_of row) → ((desk : Desk) → step (with_rows (rows_of w) desk) ≡ (is, with_rows (with_named client name change (rows_of w)) desk)) → Did step w new reply
done_did step w new client name key change reply is replied left kept id same answer =
    let P : Widgets → Type 0 = λ v. Did step w v reply in
    subst P (sym left)
    (edited_did step w client name key change reply kept id same (λ desk. answer desk ∙ ap (λ (r : Reply). (r, with_rows (with_named client name change (rows_of w)) desk)) (sym replied)))

-- what was done to the widgets leaves the open windows
named_windows : (old new : List (ℕ × Node)) (key : ℕ) → ((id : ℕ) → is_some (node_at old id) ≡ true → node_at new id ≡ node_at old id) → names_window old key ≡ true → node_at new key ≡ node_at old key
named_windows old new key kept window = by (node_at old key) refl window
  where
    by : (o : Option Node) → node_at old key ≡ o → option_map_or (λ (node : Node). is_window_kind node.kind) o false ≡ true → node_at new key ≡ node_at old key
    by None p h = absurd (true≢false (sym h))
    by (Some node) p h = kept key (ap is_some p)

pub titles_kept : (old new : List (ℕ × Node)) (keys : List ℕ) → ((id : ℕ) → is_some (node_at old id) ≡ true → node_at new id ≡ node_at old id) → list_all (names_window old) keys ≡ true → windows_at new keys ≡ windows_at old keys
titles_kept old new [] kept windows = refl
titles_kept old new (k ∷ ks) kept windows =
    let parts = and_parts (names_window old k) (list_all (names_window old) ks) windows in
    rw (named_windows old new k kept parts.0, titles_kept old new ks kept parts.1) refl

pub windows_kept : (old new : List (ℕ × Node)) (keys : List ℕ) → ((id : ℕ) → is_some (node_at old id) ≡ true → node_at new id ≡ node_at old id) → list_all (names_window old) keys ≡ true → list_all (names_window new) keys ≡ true
windows_kept old new [] kept windows = refl
windows_kept old new (k ∷ ks) kept windows =
    let parts = and_parts (names_window old k) (list_all (names_window old) ks) windows in
    let here : names_window new k ≡ true = rw (named_windows old new k kept parts.0) parts.0 in
    and_from _ _ here (windows_kept old new ks kept parts.1)
