-- The view of a desk is its scene, by numbers, and has the places that are due.
use Rattle.std.proofs.Common.{◌≡◌, ◌+◌, ℕ, Bool, true, false, cond, ◌&&◌, nat_lt, List, [], ◌∷◌, Option, Some, None, refl, sym, ap, ap₂, ◌∙◌, arith}
use Rattle.std.proofs.lemmas.Bool.{true≢false, and_parts, lt-ltb}
use Rattle.std.proofs.lemmas.List.Elements.{All-nil, All-cons}
use Rattle.std.specs.List.{All, Contains, list_all}
use Rattle.std.specs.Option.{option_map, option_map_or, option_and_then}
use Rattle.kind_core.specs.declared.kinds.Kind.{Kind}
use Rattle.kind_core.specs.declared.kinds.Kind.TheVariants.{Window, Grid, Frame, Button, Label, Entry, Scale, Scrollbar, Variable, VScreen}
use Rattle.kind_core.specs.declared.shapes.Shape.{Shape}
use Rattle.widget_model.specs.Rows.{Row}
use Rattle.widget_model.specs.Keys.{key_of}
use Rattle.widget_model.specs.Nodes.{Node, node_of, node_at, id_named}
use Rattle.widget_model.specs.Kinds.{is_window_kind}
use Rattle.widget_model.specs.Trees.{root_of}
use Rattle.widget_model.specs.Relatives.{root_id}
use Rattle.widget_model.specs.Widgets.{Widgets, nodes, rows_of, row_at, row_kind, place_at}
use Rattle.tree_core.specs.declared.pointer.Pointer.{Pointer}
use Rattle.tree_core.proofs.ForestLemmas.{node_at-nodes}
use Rattle.scene_model.specs.Placing.{place_in}
use Rattle.admit_core.specs.Roster.{RosterState}
use Rattle.desk_model.specs.Desk.{Ring}
use Rattle.desk_model.specs.Seen as seen
use Rattle.scene_core.specs.View.{keys_of, scene_from, AreWindows, KeepsPlaces}
use Rattle.scene_core.proofs.Numbered.{live-there}
use Rattle.scene_core.proofs.Tops.{window-among}
use Rattle.desk_commands.specs.Parts.{stage_of, windows_at, desk_of, names_window, AreParts}
use Rattle.desk_layout.specs.Placed.{HaveDuePlaces}
use Rattle.desk_layout.specs.Laid.{is_window_at}
use Rattle.desk_layout.proofs.Layouts.{below-due}

-- the row of a number that names a Window
record NamesWindow (es : List (ℕ × Row)) (key : ℕ) : Type 0 where
  row : Row
  there : row_at es key ≡ Some row
  node : node_at (nodes es) key ≡ Some (node_of row)
  kind : row.kind ≡ Window

is-window : (kind : Kind) → is_window_kind kind ≡ true → kind ≡ Window
is-window Window h = refl
is-window Grid h = absurd (true≢false (sym h))
is-window Frame h = absurd (true≢false (sym h))
is-window Button h = absurd (true≢false (sym h))
is-window Label h = absurd (true≢false (sym h))
is-window Entry h = absurd (true≢false (sym h))
is-window Scale h = absurd (true≢false (sym h))
is-window Scrollbar h = absurd (true≢false (sym h))
is-window Variable h = absurd (true≢false (sym h))
is-window VScreen h = absurd (true≢false (sym h))

names-window : (es : List (ℕ × Row)) (key : ℕ) → names_window (nodes es) key ≡ true → NamesWindow es key
names-window es key window = by (row_at es key) refl (sym (ap (λ (o : Option Node). option_map_or (λ (node : Node). is_window_kind node.kind) o false) (node_at-nodes es key)) ∙ window)
  where
    by : (o : Option Row) → row_at es key ≡ o → option_map_or (λ (node : Node). is_window_kind node.kind) (option_map node_of (row_at es key)) false ≡ true → NamesWindow es key
    by None p h = absurd (true≢false (sym h ∙ ap (λ (o : Option Row). option_map_or (λ (node : Node). is_window_kind node.kind) (option_map node_of o) false) p))
    by (Some row) p h =
        record {
          row = row;
          there = p;
          node = node_at-nodes es key ∙ ap (option_map node_of) p;
          kind = is-window row.kind (sym (ap (λ (o : Option Row). option_map_or (λ (node : Node). is_window_kind node.kind) (option_map node_of o) false) p) ∙ h);
        }

-- the open windows by their keys
pub keys-windows : (es : List (ℕ × Row)) (keys : List ℕ) → list_all (names_window (nodes es)) keys ≡ true → keys_of es keys ≡ windows_at (nodes es) keys
keys-windows es [] windows = refl
keys-windows es (key ∷ keys) windows =
    let parts = and_parts (names_window (nodes es) key) (list_all (names_window (nodes es)) keys) windows in
    let named = names-window es key parts.0 in
    ap (λ (o : Option Row). option_map_or (λ (k : ℕ × List ℕ). k ∷ keys_of es keys) (option_map key_of o) (keys_of es keys)) named.there
    ∙ ap₂ (λ (k : ℕ × List ℕ) (ks : List (ℕ × List ℕ)). k ∷ ks) (sym (ap (λ (o : Option Node). option_map_or (λ (node : Node). (node.client, node.name)) o (0, [])) named.node)) (keys-windows es keys parts.1)

pub view-scene : (shape : Shape) (roster : RosterState) (rings : List Ring) (pointer : Pointer) (w : Widgets) (keys : List ℕ) → list_all (names_window (nodes w.entries)) keys ≡ true
    → scene_from w keys pointer shape.width shape.height ≡ seen.scene_of (desk_of (stage_of shape roster rings w pointer) w keys)
view-scene shape roster rings pointer w keys windows = ap (λ (ws : List (ℕ × List ℕ)). record (scene_from w keys pointer shape.width shape.height) { windows = ws }) (keys-windows w.entries keys windows)

all-windows : (es : List (ℕ × Row)) (keys : List ℕ) → list_all (names_window (nodes es)) keys ≡ true → All (λ (id : ℕ). row_kind es id ≡ Some Window) keys
all-windows es [] windows = All-nil (λ (id : ℕ). row_kind es id ≡ Some Window)
all-windows es (key ∷ keys) windows =
    let parts = and_parts (names_window (nodes es) key) (list_all (names_window (nodes es)) keys) windows in
    let named = names-window es key parts.0 in
    All-cons (λ (id : ℕ). row_kind es id ≡ Some Window) key keys (ap (option_map (λ (row : Row). row.kind)) named.there ∙ ap Some named.kind) (all-windows es keys parts.1)

pub view-windows : (joined : List ℕ) (w : Widgets) (keys : List ℕ) → AreParts joined w keys → AreWindows w keys
view-windows joined w keys parts = record { each = all-windows w.entries keys parts.windows; once = parts.stack }

pub view-places : (joined : List ℕ) (w : Widgets) (keys : List ℕ) → AreParts joined w keys → HaveDuePlaces w → KeepsPlaces w keys
view-places joined w keys parts due = record { each = λ id window among rooted. by id window among rooted (row_at w.entries id) refl }
  where
    by : (id window : ℕ) → Contains keys window → root_id w id ≡ Some window → (o : Option Row) → row_at w.entries id ≡ o → place_at w id ≡ option_map (place_in (rows_of w)) (row_at w.entries id)
    by id window among rooted None p =
        let nothing : root_id w id ≡ None = ap (option_and_then (λ (r : Row). id_named (nodes w.entries) r.client (root_of (rows_of w) r.client r.name))) p in
        let both : None ≡ Some window = sym nothing ∙ rooted in
        absurd (cc)
    by id window among rooted (Some row) p =
        let is = window-among w keys window (view-windows joined w keys parts) among in
        let window_is : is_window_at w.entries window ≡ true = ap (λ (o : Option Row). option_map_or (λ (r : Row). is_window_kind r.kind) o false) (live-there w window is.live) ∙ ap is_window_kind is.kind in
        let below : nat_lt window (window + 1) ≡ true = lt-ltb window (window + 1) (omega arith) in
        due.each id row p
        ∙ sym (below-due w (window + 1) id window row parts.tree p rooted below)
        ∙ ap₂ (λ (b d : Bool). cond (b && d) (Some (place_in (rows_of w) row)) None) below window_is
        ∙ sym (ap (option_map (place_in (rows_of w))) p)
