-- Windows that are open: by number as by name, and there is always room for one more.
use Rattle.std.proofs.Common.{◌≡◌, ℕ, zero, suc, ◌+◌, ◌<◌, Bool, true, false, ◌||◌, nat_eq, List, [], ◌∷◌, length, drop, slice_get, Option, Some, None, is_some, refl, sym, ap, ap₂, ◌∙◌, subst, add-one}
use Rattle.std.proofs.lemmas.Bool.{true≢false, eq-eqb, ne_eqb, and_parts, and_from}
use Rattle.std.specs.List.{list_all, list_any}
use Rattle.std.specs.Option.{option_map, option_map_or}
use Rattle.kind_core.specs.declared.kinds.Kind.{Kind}
use Rattle.kind_core.specs.declared.kinds.Kind.TheVariants.{Window}
use Rattle.desk_commands.specs.Parts.{Stage}
use Rattle.cmd_words.specs.declared.replies.Reply.{Reply}
use Rattle.cmd_words.specs.declared.replies.Reply.TheVariants.{Done, Refused}
use Rattle.cmd_words.specs.declared.replies.Refusal.{Refusal}
use Rattle.cmd_words.specs.declared.replies.Refusal.TheVariants.{AlreadyOpen}
use Rattle.stack_core.specs.Stack.{holds_key, IsStack}
use Rattle.widget_model.specs.Rows.{Row}
use Rattle.widget_model.specs.Nodes.{Node, node_of, id_named, node_at}
use Rattle.widget_model.specs.Kinds.{counts_with, is_window_kind}
use Rattle.widget_model.specs.Named.{has_name, row_named, AreNamedApart}
use Rattle.widget_model.specs.Widgets.{Widgets, nodes, row_at, rows_in}
use Rattle.desk_model.specs.Desk.{Desk, is_window, is_open}
use Rattle.desk_model.specs.Refusals.{when, first_refusal, outcome, unless_there, unless_kind}
use Rattle.desk_model.specs.Windows.{open_effect, step_open}
use Rattle.widget_model.proofs.Naming.{has_name-parts, has_name-own, id_named-row}
use Rattle.tree_core.proofs.ForestLemmas.{node_at-nodes}
use Rattle.desk_commands.specs.Parts.{title_at, windows_at, desk_of, names_window, AreParts}
use Rattle.desk_commands.specs.Effects.{DidAll}
use Rattle.desk_commands.specs.Lookup.{IsFound}
use Rattle.desk_commands.proofs.KindRoom.{IsAlike, room_for_one}
use Rattle.desk_layout.proofs.KeyNumbers.{numbers-same}
use Rattle.desk_commands.proofs.Effects.{found-parts}

-- one key further on, and past the last one
pub holds_key-further : (ks : List ℕ) (i key k : ℕ) → slice_get ks i ≡ Some k → holds_key (drop i ks) key ≡ (nat_eq k key || holds_key (drop (i + 1) ks) key)
holds_key-further [] i key k there = absurd (cc)
holds_key-further (j ∷ js) zero key k there = let same : j ≡ k = cc in rw same refl
holds_key-further (j ∷ js) (suc i) key k there = rw (add-one (suc i)) (holds_key-further js i key k there ∙ rw (add-one i) refl)

pub holds_key-past : (ks : List ℕ) (i key : ℕ) → slice_get ks i ≡ None → holds_key (drop i ks) key ≡ holds_key (drop (i + 1) ks) key
holds_key-past [] zero key past = refl
holds_key-past [] (suc i) key past = rw (add-one (suc i)) refl
holds_key-past (j ∷ js) zero key past = absurd (cc)
holds_key-past (j ∷ js) (suc i) key past = rw (add-one (suc i)) (holds_key-past js i key past ∙ rw (add-one i) refl)

-- Windows are counted by themselves
windows_alike : (kind : Kind) → counts_with Window kind ≡ is_window_kind kind
windows_alike Window = refl
windows_alike _ = refl

pub window-kind : (kind : Kind) → is_window_kind kind ≡ true → kind ≡ Window
window-kind Window h = refl
window-kind _ h = absurd (cc)

pub window_at : (w : Widgets) (key : ℕ) → names_window (nodes w.entries) key ≡ true → IsAlike Window w key
window_at w key window = by (row_at w.entries key) refl (ap named (sym (node_at-nodes w.entries key)) ∙ window)
  where
    named : Option Node → Bool
    named o = option_map_or (λ (node : Node). is_window_kind node.kind) o false

    by : (o : Option Row) → row_at w.entries key ≡ o → named (option_map node_of o) ≡ true → IsAlike Window w key
    by None p h = absurd (true≢false (sym h))
    by (Some row) p h = record { row = row; there = p; counts = windows_alike row.kind ∙ h }

-- there are at most 8 Windows of each of 16 clients, and a Window that isn't open is one more than those that are
pub room_to_open : (w : Widgets) (keys : List ℕ) (key : ℕ) → AreParts w.clients w keys → names_window (nodes w.entries) key ≡ true → holds_key keys key ≡ false → length keys < 128
room_to_open w keys key kept window new = room_for_one Window w keys key (names_window (nodes w.entries)) kept.tree kept.stack.distinct kept.windows (window_at w) (window_at w key window) new

-- a widget has the client and name of the one that was found exactly where it has its number
pub same_title : (w : Widgets) (client : ℕ) (name : List ℕ) (key : ℕ) (kind : Kind) (k : ℕ) → AreNamedApart (rows_in w.entries) → IsFound w client name key kind → is_some (row_at w.entries k) ≡ true → is_window client name (title_at (nodes w.entries) k) ≡ nat_eq k key
same_title w client name key kind k own found live = by (row_at w.entries k) refl (node_at-nodes w.entries k) live
  where
    parts : (found.row.client ≡ client) × (found.row.name ≡ name)
    parts = found-parts w client name key kind found

    same : (row : Row) → row_at w.entries k ≡ Some row → (b : Bool) → has_name client name row ≡ b → b ≡ nat_eq k key
    same row p true q =
        let names = has_name-parts client name row q in
        let here : id_named (nodes w.entries) client name ≡ Some k = rw (← names.0, ← names.1) (id_named-row w.entries k row own p) in
        let number : k ≡ key = cc (here, found.id) in
        sym (eq-eqb k key number)
    same row p false q =
        sym
        (ne_eqb k key
        (λ e. let there : row_at w.entries key ≡ Some row = ap (row_at w.entries) (sym e) ∙ p in
        let one : row ≡ found.row = cc (there, found.there) in
        let own : has_name client name found.row ≡ true = ap₂ (λ (c : ℕ) (n : List ℕ). has_name c n found.row) (sym parts.0) (sym parts.1) ∙ has_name-own found.row in
        true≢false (sym own ∙ ap (has_name client name) (sym one) ∙ q)))

    by : (o : Option Row) → row_at w.entries k ≡ o → node_at (nodes w.entries) k ≡ option_map node_of (row_at w.entries k) → is_some o ≡ true → is_window client name (title_at (nodes w.entries) k) ≡ nat_eq k key
    by None p q h = absurd (true≢false (sym h))
    by (Some row) p q h =
        let there : node_at (nodes w.entries) k ≡ Some (node_of row) = q ∙ ap (option_map node_of) p in
        rw there (same row p (has_name client name row) refl)

-- an open window has the client and name of the one that was found exactly where it has its number
pub same_window : (w : Widgets) (client : ℕ) (name : List ℕ) (key : ℕ) (kind : Kind) (k : ℕ) → AreNamedApart (rows_in w.entries) → IsFound w client name key kind → names_window (nodes w.entries) k ≡ true → is_window client name (title_at (nodes w.entries) k) ≡ nat_eq k key
same_window w client name key kind k own found window = same_title w client name key kind k own found (by (row_at w.entries k) (sym (ap (λ (o : Option Node). option_map_or (λ (node : Node). is_window_kind node.kind) o false) (node_at-nodes w.entries k)) ∙ window))
  where
    by : (o : Option Row) → option_map_or (λ (node : Node). is_window_kind node.kind) (option_map node_of o) false ≡ true → is_some o ≡ true
    by None h = absurd (true≢false (sym h))
    by (Some row) h = refl

pub is_open-holds_key : (w : Widgets) (client : ℕ) (name : List ℕ) (key : ℕ) (kind : Kind) (keys : List ℕ) → AreNamedApart (rows_in w.entries) → IsFound w client name key kind → list_all (names_window (nodes w.entries)) keys ≡ true → list_any (is_window client name) (windows_at (nodes w.entries) keys) ≡ holds_key keys key
is_open-holds_key w client name key kind [] own found windows = refl
is_open-holds_key w client name key kind (k ∷ ks) own found windows =
    let parts = and_parts (names_window (nodes w.entries) k) (list_all (names_window (nodes w.entries)) ks) windows in
    rw (same_window w client name key kind k own found parts.0, is_open-holds_key w client name key kind ks own found parts.1) refl

-- a Window that was found
pub found-window : (w : Widgets) (client : ℕ) (name : List ℕ) (key : ℕ) (kind : Kind) → IsFound w client name key kind → is_window_kind kind ≡ true → names_window (nodes w.entries) key ≡ true
found-window w client name key kind found window =
    let there : node_at (nodes w.entries) key ≡ Some (node_of found.row) = node_at-nodes w.entries key ∙ ap (option_map node_of) found.there in
    rw there (ap is_window_kind found.has ∙ window)

pub found-title : (w : Widgets) (client : ℕ) (name : List ℕ) (key : ℕ) (kind : Kind) → IsFound w client name key kind → title_at (nodes w.entries) key ≡ (client, name)
found-title w client name key kind found =
    let there : node_at (nodes w.entries) key ≡ Some (node_of found.row) = node_at-nodes w.entries key ∙ ap (option_map node_of) found.there in
    let parts = found-parts w client name key kind found in
    rw there (rw (parts.0, parts.1) refl)

pub step_open-by : (desk : Desk) (client : ℕ) (name : List ℕ) (row : Option Row) (b : Bool) → row_named desk.rows client name ≡ row → is_open desk client name ≡ b → step_open desk client name ≡ outcome desk (first_refusal (unless_there row ∷ unless_kind is_window_kind row ∷ when b AlreadyOpen ∷ [])) (open_effect desk client name)
unfolding step_open
step_open-by desk client name row b h k = rw (h, k) refl

-- a step that leaves the widgets and the windows
pub refused_all : (step : Desk → Reply × Desk) (w : Widgets) (keys : List ℕ) (reply : Reply) (refusal : Refusal) → AreParts w.clients w keys → reply ≡ Refused refusal → ((stage : Stage) → step (desk_of stage w keys) ≡ (Refused refusal, desk_of stage w keys)) → DidAll step w w keys keys reply
refused_all step w keys reply refusal kept replied answer =
    record { answer = λ stage. ap (λ (r : Reply). (r, desk_of stage w keys)) replied ∙ sym (answer stage); clients = refl; kept = kept; names = λ stage id key named inside. named; admitted = λ entry there. refl; numbers = numbers-same w.entries kept.tree.rows.names; places = λ id row there. refl }

pub opened_all : (w : Widgets) (client : ℕ) (name : List ℕ) (key : ℕ) (kind : Kind) (keys keys' : List ℕ) (reply : Reply) → AreParts w.clients w keys → IsFound w client name key kind → is_window_kind kind ≡ true → holds_key keys key ≡ false → keys' ≡ key ∷ keys → IsStack keys' → reply ≡ Done → DidAll (λ desk. step_open desk client name) w w keys keys' reply
opened_all w client name key kind keys keys' reply kept found window new pushed stack replied =
    let right : is_window_kind found.row.kind ≡ true = ap is_window_kind found.has ∙ window in
    let title = found-title w client name key kind found in
    let P : List ℕ → Type 0 = λ ks. list_all (names_window (nodes w.entries)) ks ≡ true in
    let closed = is_open-holds_key w client name key kind keys kept.tree.rows.names found kept.windows ∙ new in
    record {
      answer = λ stage.
          ap₂ (λ (r : Reply) (ks : List ℕ). (r, desk_of stage w ks)) replied pushed
          ∙ ap (λ (t : ℕ × List ℕ). (Done, record (desk_of stage w keys) { windows = t ∷ windows_at (nodes w.entries) keys })) title
          ∙ sym (step_open-by (desk_of stage w keys) client name (Some found.row) false found.named closed ∙ rw right refl);
      clients = refl;
      kept = record { clients = kept.clients; tree = kept.tree; stack = stack; windows = subst P (sym pushed) (and_from _ _ (found-window w client name key kind found window) kept.windows) };
      names = λ stage id key named inside. named;
      admitted = λ entry there. refl;
      numbers = numbers-same w.entries kept.tree.rows.names;
      places = λ id row there. refl;
    }
