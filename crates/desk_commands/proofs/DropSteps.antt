-- The step of removing a widget.
use Rattle.std.proofs.Common.{◌≡◌, ℕ, Bool, true, false, cond, not, ◌||◌, nat_eq, List, [], ◌∷◌, Option, Some, None, refl, sym, ap, ap₂, ◌∙◌, subst}
use Rattle.std.proofs.lemmas.Bool.{true≢false, eqb-true, and_parts, and_from, or_parts}
use Rattle.std.proofs.lemmas.Option.{same_Some as some_same}
use Rattle.std.specs.Cmp.{nat_eq_equiv}
use Rattle.std.specs.List.{list_all}
use Rattle.std.specs.Option.{option_map, option_map_or}
use Rattle.kind_core.specs.declared.kinds.Kind.{Kind}
use Rattle.cmd_words.specs.declared.replies.Reply.{Reply}
use Rattle.cmd_words.specs.declared.replies.Reply.TheVariants.{Done}
use Rattle.cmd_words.specs.declared.replies.Refusal.TheVariants.{InUse}
use Rattle.stack_core.specs.Stack.{holds_key}
use Rattle.widget_model.specs.Rows.{Row}
use Rattle.widget_model.specs.Nodes.{node_of, node_at}
use Rattle.widget_model.specs.Named.{has_name, row_named, without_named}
use Rattle.widget_model.specs.Trees.{is_admitted, is_used, parent_of, most_levels}
use Rattle.widget_model.specs.Keys.{key_of}
use Rattle.widget_model.specs.Widgets.{key_at, Widgets, nodes, rows_of, row_at, without_row, removed}
use Rattle.widget_model.specs.Forest.{IsWidgets}
use Rattle.desk_model.specs.Desk.{Desk, is_open}
use Rattle.desk_model.specs.Refusals.{when, first_refusal, outcome, unless_there}
use Rattle.desk_model.specs.WidgetCommands.{drop_effect, step_drop}
use Rattle.widget_model.proofs.Hanging.{parent_in, parent_in-loose}
use Rattle.widget_model.proofs.LeftRows.{IsFree-unused}
use Rattle.widget_model.proofs.Naming.{rows-without_row}
use Rattle.row_store.proofs.UnderNumbers.{node_at-nodes, row_at-without_row}
use Rattle.desk_commands.specs.Parts.{Stage, windows_at, desk_of, names_window, names_admitted, AreParts}
use Rattle.desk_model.specs.LetGo.{is_in_window}
use Rattle.desk_commands.specs.Effects.{DidAll, TellsAll}
use Rattle.desk_commands.specs.Lookup.{IsFound}
use Rattle.desk_commands.proofs.Effects.{found-parts}
use Rattle.desk_layout.proofs.KeyNumbers.{key_at-kept, numbers-fewer}
use Rattle.desk_layout.proofs.LeftPlaces.{without-left, removed-place}
use Rattle.desk_commands.proofs.WindowSteps.{is_open-holds_key}
use Rattle.desk_commands.proofs.InWindows.{root_in-alone}

pub step_drop-by : (desk : Desk) (client : ℕ) (name : List ℕ) (row : Option Row) (opened : Bool) → row_named desk.rows client name ≡ row → is_open desk client name ≡ opened → step_drop desk client name ≡ outcome desk (first_refusal (unless_there row ∷ when (option_map_or (is_used desk.rows) row false || opened) InUse ∷ [])) (drop_effect desk client name)
unfolding step_drop
step_drop-by desk client name row opened h k = rw (h, k) refl

-- the nodes of other numbers stay
node_at-without_row : (es : List (ℕ × Row)) (id other : ℕ) → nat_eq other id ≡ false → node_at (nodes (without_row id es)) other ≡ node_at (nodes es) other
node_at-without_row es id other differ =
    node_at-nodes (without_row id es) other
    ∙ ap (option_map node_of) (row_at-without_row es id other ∙ rw (nat_eq_equiv.symm id other, differ) refl)
    ∙ sym (node_at-nodes es other)

-- and so do the open windows, where the number isn't among them
titles_left : (es : List (ℕ × Row)) (id : ℕ) (keys : List ℕ) → holds_key keys id ≡ false → windows_at (nodes (without_row id es)) keys ≡ windows_at (nodes es) keys
titles_left es id [] absent = refl
titles_left es id (k ∷ ks) absent =
    let parts = or_parts (nat_eq k id) (holds_key ks id) absent in
    rw (node_at-without_row es id k parts.0, titles_left es id ks parts.1) refl

windows_left : (es : List (ℕ × Row)) (id : ℕ) (keys : List ℕ) → holds_key keys id ≡ false → list_all (names_window (nodes es)) keys ≡ true → list_all (names_window (nodes (without_row id es))) keys ≡ true
windows_left es id [] absent windows = refl
windows_left es id (k ∷ ks) absent windows =
    let apart = or_parts (nat_eq k id) (holds_key ks id) absent in
    let parts = and_parts (names_window (nodes es) k) (list_all (names_window (nodes es)) ks) windows in
    let here : names_window (nodes (without_row id es)) k ≡ true = rw (node_at-without_row es id k apart.0) parts.0 in
    and_from _ _ here (windows_left es id ks apart.1 parts.1)

-- A widget that isn't used is in no window where it isn't open itself, so a number that names one in a window is
-- another and names it still.
names_left : (w : Widgets) (client : ℕ) (name : List ℕ) (id : ℕ) (kind : Kind) (keys : List ℕ) (stage : Stage) → (found : IsFound w client name id kind) → is_open (desk_of stage w keys) client name ≡ false → is_used (rows_of w) found.row ≡ false → (other : ℕ) (key : ℕ × List ℕ) → key_at w.entries other ≡ Some key → is_in_window (desk_of stage w keys) key ≡ true → key_at (without_row id w.entries) other ≡ Some key
names_left w client name id kind keys stage found shut unused other key named inside = by (nat_eq other id) refl
  where
    parts : (found.row.client ≡ client) × (found.row.name ≡ name)
    parts = found-parts w client name id kind found

    alone : parent_of (rows_of w) client name ≡ None
    alone = ap parent_in found.named ∙ parent_in-loose found.row (IsFree-unused (rows_of w) found.row unused).alone

    out : is_in_window (desk_of stage w keys) (client, name) ≡ false
    out = ap (is_open (desk_of stage w keys) client) (root_in-alone most_levels (rows_of w) client name alone) ∙ shut

    by : (b : Bool) → nat_eq other id ≡ b → key_at (without_row id w.entries) other ≡ Some key
    by true q =
        let row : row_at w.entries other ≡ Some found.row = ap (row_at w.entries) (eqb-true other id q) ∙ found.there in
        let same : Some key ≡ Some (found.row.client, found.row.name) = sym named ∙ ap (option_map key_of) row in
        let is : key ≡ (client, name) = some_same key (found.row.client, found.row.name) same ∙ ap₂ (λ (c : ℕ) (n : List ℕ). (c, n)) parts.0 parts.1 in
        absurd (true≢false (sym inside ∙ ap (is_in_window (desk_of stage w keys)) is ∙ out))
    by false q = key_at-kept w.entries (without_row id w.entries) other key (λ there. node_at-without_row w.entries id other q) named

-- A widget that isn't used is no admitted VScreen, so a number that names one is another.
admitted_left : (w : Widgets) (client : ℕ) (name : List ℕ) (id : ℕ) (kind : Kind) → (found : IsFound w client name id kind) → is_used (rows_of w) found.row ≡ false → (entry : ℕ × ℕ) → names_admitted w.entries entry ≡ true → node_at (nodes (without_row id w.entries)) entry.0 ≡ node_at (nodes w.entries) entry.0
admitted_left w client name id kind found unused entry there = by (nat_eq entry.0 id) refl
  where
    free : is_admitted found.row ≡ false
    free = (IsFree-unused (rows_of w) found.row unused).unadmitted

    by : (b : Bool) → nat_eq entry.0 id ≡ b → node_at (nodes (without_row id w.entries)) entry.0 ≡ node_at (nodes w.entries) entry.0
    by true q =
        let row : row_at w.entries entry.0 ≡ Some found.row = ap (row_at w.entries) (eqb-true entry.0 id q) ∙ found.there in
        absurd (true≢false (sym there ∙ ap (λ (o : Option Row). option_map_or is_admitted o false) row ∙ free))
    by false q = node_at-without_row w.entries id entry.0 q

-- there is none of the name left
pub unnamed : (rs : List Row) (client : ℕ) (name : List ℕ) → row_named (without_named client name rs) client name ≡ None
unnamed [] client name = refl
unnamed (r ∷ rs) client name = by (unnamed rs client name) (has_name client name r) refl
  where
    by : row_named (without_named client name rs) client name ≡ None → (b : Bool) → has_name client name r ≡ b → row_named (cond (not b) (r ∷ without_named client name rs) (without_named client name rs)) client name ≡ None
    by rest true q = rest
    by rest false q = rw q rest

pub dropped_all : (w new : Widgets) (client : ℕ) (name : List ℕ) (key : ℕ) (kind : Kind) (keys : List ℕ) (reply : Reply) → AreParts w.clients w keys → (found : IsFound w client name key kind) → holds_key keys key ≡ false → is_used (rows_of w) found.row ≡ false → new ≡ removed key w → IsWidgets new → reply ≡ Done → DidAll (λ desk. step_drop desk client name) w new keys keys reply
dropped_all w new client name key kind keys reply kept found closed unused left valid replied =
    let P : Widgets → Type 0 = λ v. IsWidgets v → DidAll (λ desk. step_drop desk client name) w v keys keys reply in
    let shut = is_open-holds_key w client name key kind keys kept.tree.rows.names found kept.windows ∙ closed in
    let gone = rows-without_row w.entries client name key kept.tree.numbered.own_numbers kept.tree.rows.names found.id in
    subst P (sym left)
    (λ sound.
    record {
      answer = λ stage.
          ap₂ (λ (rs : List Row) (windows : List (ℕ × List ℕ)). (reply, record (desk_of stage w keys) { rows = rs; windows = windows })) gone (titles_left w.entries key keys closed)
          ∙ ap (λ (r : Reply). (r, record (desk_of stage w keys) { rows = without_named client name (rows_of w) })) replied
          ∙ sym (step_drop-by (desk_of stage w keys) client name (Some found.row) false found.named shut ∙ rw unused refl);
      clients = refl;
      kept = record { clients = refl; tree = sound; stack = kept.stack; windows = windows_left w.entries key keys closed kept.windows };
      names = λ stage. names_left w client name key kind keys stage found shut unused;
      admitted = admitted_left w client name key kind found unused;
      numbers = numbers-fewer w.entries (without_row key w.entries) kept.tree.rows.names (λ id row there. (without-left w.entries key id row there).was);
      places = λ id row there. removed-place w key id row there;
    })
    valid

pub dropped_tells : (w new : Widgets) (client : ℕ) (name : List ℕ) (key : ℕ) (kind : Kind) (keys : List ℕ) (changed : Bool) → IsWidgets w → IsFound w client name key kind → new ≡ removed key w → changed ≡ true → TellsAll w new keys keys changed
dropped_tells w new client name key kind keys changed kept found left told =
    let gone = ap rows_of left ∙ rows-without_row w.entries client name key kept.numbered.own_numbers kept.rows.names found.id in
    (λ h both. by (sym found.named ∙ ap (λ (rs : List Row). row_named rs client name) (sym both.0 ∙ gone) ∙ unnamed (rows_of w) client name), λ n. told)
  where
    by : Some found.row ≡ None → ⊥
    by h = absurd (cc)
