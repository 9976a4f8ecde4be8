-- A window that is raised by its number is raised by its key.
use Rattle.std.proofs.Common.{◌≡◌, ◌↔◌, ℕ, Option, Bool, true, false, not, ◌||◌, nat_eq, List, [], ◌∷◌, Some, refl, sym, ap, ap₂, ◌∙◌, slice_get}
use Rattle.std.specs.Prelude.{IsTrue}
use Rattle.std.specs.List.{list_all}
use Rattle.std.proofs.lemmas.Bool.{true≢false, and_parts, and_from, eqb-true}
use Rattle.stack_core.specs.Stack.{holds_key, without, IsStack}
use Rattle.widget_model.specs.Nodes.{Node, node_of, node_at}
use Rattle.widget_model.specs.Kinds.{is_window_kind}
use Rattle.widget_model.specs.Widgets.{Widgets, IsLive, nodes}
use Rattle.desk_model.specs.Windows.{with_top}
use Rattle.tree_core.specs.declared.id.Id.{Id}
use Rattle.tree_core.proofs.ForestLemmas.{node_at-nodes}
use Rattle.input_core.specs.Numbered.{numbered}
use Rattle.input_core.specs.Seen.{key_seen}
use Rattle.input_core.proofs.Numbers.{numbered_row}
use Rattle.input_core.proofs.Keys.{key_seen-numbered}
use Rattle.desk_commands.specs.Parts.{windows_at, names_window, AreParts}
use Rattle.desk_commands.specs.Effects.{TellsAll}
use Rattle.desk_commands.specs.Lookup.{IsFound}
use Rattle.desk_commands.proofs.Effects.{found-live}
use Rattle.desk_commands.proofs.WindowSteps.{is_open-holds_key, found-title}
use Rattle.desk_commands.proofs.WindowOrder.{windows_at-without, raised_tells}
use Rattle.desk_commands.proofs.OthersLists.{list_all-without}
use Rattle.desk_inputs.specs.Raised.{is_open_at}
use Rattle.std.specs.Option.{option_map, option_map_or}

held-passes : (p : ℕ → Bool) (keys : List ℕ) (key : ℕ) → list_all p keys ≡ true → holds_key keys key ≡ true → p key ≡ true
held-passes p [] key all held = absurd (true≢false (sym held))
held-passes p (k ∷ ks) key all held = by (held-passes p ks key) (nat_eq k key) refl (and_parts (p k) (list_all p ks) all) held
  where
    by : (list_all p ks ≡ true → holds_key ks key ≡ true → p key ≡ true) → (b : Bool) → nat_eq k key ≡ b → (p k ≡ true) × (list_all p ks ≡ true) → (b || holds_key ks key) ≡ true → p key ≡ true
    by rest true is parts h = ap p (sym (eqb-true k key is)) ∙ parts.0
    by rest false is parts h = rest parts.1 h

-- what is known of a live number whose key is open
pub record IsRaised (w : Widgets) (keys keys' : List ℕ) (id : ℕ) (key : ℕ × List ℕ) : Type 0 where
  pub windows : windows_at (nodes w.entries) keys' ≡ with_top key.0 key.1 (windows_at (nodes w.entries) keys)
  pub named : list_all (names_window (nodes w.entries)) keys' ≡ true
  pub kind : is_window_kind (numbered w.entries id).kind ≡ true

pub found-numbered : (w : Widgets) (id : ℕ) (keys : List ℕ) → AreParts w.clients w keys → IsLive w id → IsFound w (numbered w.entries id).client (numbered w.entries id).name id (numbered w.entries id).kind
found-numbered w id keys parts live = found-live w id (numbered w.entries id) parts.tree (numbered_row w.entries id live)

pub open-held : (w : Widgets) (keys : List ℕ) (id : Id) → AreParts w.clients w keys → IsLive w id.key → is_open_at w keys (key_seen w.entries id) ≡ true → holds_key keys id.key ≡ true
open-held w keys id parts live opened =
    let row = numbered w.entries id.key in
    let found = found-numbered w id.key keys parts live in
    sym (is_open-holds_key w row.client row.name id.key row.kind keys parts.tree.rows.names found parts.windows)
    ∙ ap (is_open_at w keys) (sym (key_seen-numbered w.entries id live))
    ∙ opened

pub IsRaised-held : (w : Widgets) (keys keys' : List ℕ) (id : Id) → AreParts w.clients w keys → IsLive w id.key → holds_key keys id.key ≡ true → keys' ≡ id.key ∷ without keys id.key → IsRaised w keys keys' id.key (key_seen w.entries id)
IsRaised-held w keys keys' id parts live held raised =
    let row = numbered w.entries id.key in
    let found = found-numbered w id.key keys parts live in
    let own = parts.tree.rows.names in
    let window : names_window (nodes w.entries) id.key ≡ true = held-passes (names_window (nodes w.entries)) keys id.key parts.windows held in
    let node : node_at (nodes w.entries) id.key ≡ Some (node_of row) = node_at-nodes w.entries id.key ∙ ap (option_map node_of) (numbered_row w.entries id.key live) in
    record {
      windows =
          ap (windows_at (nodes w.entries)) raised
          ∙ ap₂ (λ (t : ℕ × List ℕ) (ws : List (ℕ × List ℕ)). t ∷ ws) (found-title w row.client row.name id.key row.kind found) (windows_at-without w row.client row.name id.key row.kind keys own found parts.windows)
          ∙ ap (λ (key : ℕ × List ℕ). with_top key.0 key.1 (windows_at (nodes w.entries) keys)) (sym (key_seen-numbered w.entries id live));
      named = ap (list_all (names_window (nodes w.entries))) raised ∙ and_from (names_window (nodes w.entries) id.key) (list_all (names_window (nodes w.entries)) (without keys id.key)) window (list_all-without (names_window (nodes w.entries)) keys id.key parts.windows);
      kind = sym (ap (λ (o : Option Node). option_map_or (λ (n : Node). is_window_kind n.kind) o false) node) ∙ window;
    }

pub parts-raised : (w : Widgets) (keys keys' : List ℕ) (id : ℕ) (key : ℕ × List ℕ) → AreParts w.clients w keys → IsStack keys' → IsRaised w keys keys' id key → AreParts w.clients w keys'
parts-raised w keys keys' id key parts stack raised = record { clients = parts.clients; tree = parts.tree; stack = stack; windows = raised.named }

pub tells-raised : (w : Widgets) (keys keys' : List ℕ) (id : Id) (key : ℕ × List ℕ) (on_top changed : Bool) → AreParts w.clients w keys → IsLive w id.key → IsRaised w keys keys' id.key key → keys' ≡ id.key ∷ without keys id.key → (IsTrue on_top ↔ (slice_get keys 0 ≡ Some id.key)) → changed ≡ not on_top → TellsAll w w keys keys' changed
tells-raised w keys keys' id key on_top changed parts live is raised tells told =
    let row = numbered w.entries id.key in
    raised_tells w row.client row.name id.key row.kind keys keys' on_top changed parts (found-numbered w id.key keys parts live) is.kind tells told raised
