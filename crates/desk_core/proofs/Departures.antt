-- A client leaves with its windows and widgets.
use Rattle.std.proofs.Common.{◌≡◌, ℕ, Bool, true, false, cond, not, nat_eq, List, [], ◌∷◌, Option, Some, None, refl, sym, ap, ap₂, ◌∙◌}
use Rattle.std.proofs.lemmas.Bool.{true≢false, and_parts, and_from, not-true}
use Rattle.std.specs.List.{list_all, filter}
use Rattle.std.specs.Option.{option_map_or}
use Rattle.desk_commands.specs.Parts.{Stage}
use Rattle.stack_core.specs.Stack.{IsStack}
use Rattle.widget_model.specs.Rows.{Row}
use Rattle.widget_model.specs.Nodes.{Node, node_at}
use Rattle.widget_model.specs.Kinds.{is_window_kind}
use Rattle.widget_model.specs.Widgets.{Widgets, nodes, departed}
use Rattle.widget_model.specs.Forest.{IsWidgets}
use Rattle.desk_model.specs.Clients.{without_client}
use Rattle.widget_model.proofs.Naming.{rows_of-departed}
use Rattle.desk_commands.specs.Parts.{windows_at, desk_of, names_window, is_others, AreParts}
use Rattle.desk_commands.proofs.OthersLists.{windows_at-filter, node_at-others}

abbrev title : Option Node → ℕ × List ℕ
title o = option_map_or (λ node. (node.client, node.name)) o (0, [])

-- the node of another client's window stays
others_node : (es : List (ℕ × Row)) (client key : ℕ) → names_window (nodes es) key ≡ true → is_others (nodes es) client key ≡ true → node_at (nodes (filter (λ (e : ℕ × Row). not (nat_eq client e.1.client)) es)) key ≡ node_at (nodes es) key
others_node es client key window other = by (node_at (nodes es) key) refl window other
  where
    by : (o : Option Node) → node_at (nodes es) key ≡ o → option_map_or (λ (node : Node). is_window_kind node.kind) o false ≡ true → not (nat_eq client (title o).0) ≡ true → node_at (nodes (filter (λ (e : ℕ × Row). not (nat_eq client e.1.client)) es)) key ≡ o
    by None p h k = absurd (true≢false (sym h))
    by (Some node) p h k = node_at-others es client key node p (not-true (nat_eq client node.client) k)

others_titles : (es : List (ℕ × Row)) (client : ℕ) (keys : List ℕ) → list_all (names_window (nodes es)) keys ≡ true → windows_at (nodes (filter (λ (e : ℕ × Row). not (nat_eq client e.1.client)) es)) (filter (is_others (nodes es) client) keys) ≡ windows_at (nodes es) (filter (is_others (nodes es) client) keys)
others_titles es client [] windows = refl
others_titles es client (k ∷ ks) windows = by (others_titles es client ks parts.1) (is_others (nodes es) client k) refl
  where
    parts : (names_window (nodes es) k ≡ true) × (list_all (names_window (nodes es)) ks ≡ true)
    parts = and_parts (names_window (nodes es) k) (list_all (names_window (nodes es)) ks) windows

    by : windows_at (nodes (filter (λ (e : ℕ × Row). not (nat_eq client e.1.client)) es)) (filter (is_others (nodes es) client) ks) ≡ windows_at (nodes es) (filter (is_others (nodes es) client) ks) → (b : Bool) → is_others (nodes es) client k ≡ b → windows_at (nodes (filter (λ (e : ℕ × Row). not (nat_eq client e.1.client)) es)) (cond b (k ∷ filter (is_others (nodes es) client) ks) (filter (is_others (nodes es) client) ks)) ≡ windows_at (nodes es) (cond b (k ∷ filter (is_others (nodes es) client) ks) (filter (is_others (nodes es) client) ks))
    by rest true q = rw (others_node es client k parts.0 q, rest) refl
    by rest false q = rest

others_windows : (es : List (ℕ × Row)) (client : ℕ) (keys : List ℕ) → list_all (names_window (nodes es)) keys ≡ true → list_all (names_window (nodes (filter (λ (e : ℕ × Row). not (nat_eq client e.1.client)) es))) (filter (is_others (nodes es) client) keys) ≡ true
others_windows es client [] windows = refl
others_windows es client (k ∷ ks) windows = by (others_windows es client ks parts.1) (is_others (nodes es) client k) refl
  where
    parts : (names_window (nodes es) k ≡ true) × (list_all (names_window (nodes es)) ks ≡ true)
    parts = and_parts (names_window (nodes es) k) (list_all (names_window (nodes es)) ks) windows

    by : list_all (names_window (nodes (filter (λ (e : ℕ × Row). not (nat_eq client e.1.client)) es))) (filter (is_others (nodes es) client) ks) ≡ true → (b : Bool) → is_others (nodes es) client k ≡ b → list_all (names_window (nodes (filter (λ (e : ℕ × Row). not (nat_eq client e.1.client)) es))) (cond b (k ∷ filter (is_others (nodes es) client) ks) (filter (is_others (nodes es) client) ks)) ≡ true
    by rest true q =
        let here : names_window (nodes (filter (λ (e : ℕ × Row). not (nat_eq client e.1.client)) es)) k ≡ true = rw (others_node es client k parts.0 q) parts.0 in
        and_from _ _ here rest
    by rest false q = rest

-- the stage without the client's admissions and events
abbrev pub stage_without : ℕ → Stage → Stage
stage_without client stage = record stage { roster = filter (λ admission. not (nat_eq client admission.client)) stage.roster; rings = filter (λ ring. not (nat_eq client ring.client)) stage.rings }

-- the desk without the client
pub desk_of-departed : (stage : Stage) (w : Widgets) (client : ℕ) (keys : List ℕ) → list_all (names_window (nodes w.entries)) keys ≡ true → desk_of (stage_without client stage) (departed client w) (filter (is_others (nodes w.entries) client) keys) ≡ without_client client (desk_of stage w keys)
desk_of-departed stage w client keys windows =
    ap₂ (λ (rs : List Row) (ws : List (ℕ × List ℕ)). record (desk_of (stage_without client stage) (departed client w) []) { rows = rs; windows = ws }) (rows_of-departed w client) (others_titles w.entries client keys windows ∙ windows_at-filter (nodes w.entries) client keys)

pub AreParts-departed : (joined : List ℕ) (w : Widgets) (client : ℕ) (keys : List ℕ) → AreParts joined w keys → IsWidgets (departed client w) → IsStack (filter (is_others (nodes w.entries) client) keys) → AreParts (filter (λ other. not (nat_eq client other)) joined) (departed client w) (filter (is_others (nodes w.entries) client) keys)
AreParts-departed joined w client keys kept valid stack =
    record { clients = ap (filter (λ other. not (nat_eq client other))) kept.clients; tree = valid; stack = stack; windows = others_windows w.entries client keys kept.windows }
