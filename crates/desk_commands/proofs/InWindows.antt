-- Whether a widget is in an open window: by number as by name.
use Rattle.std.proofs.Common.{◌≡◌, ℕ, zero, suc, Bool, true, false, cond, List, Option, Some, None, IsSome, refl, sym, ap, ◌∙◌}
use Rattle.std.proofs.lemmas.Bool.{false≢true}
use Rattle.std.specs.Prelude.{IfSome}
use Rattle.std.specs.Option.{option_map, option_map_or, option_and_then}
use Rattle.kind_core.specs.declared.kinds.Kind.{Kind}
use Rattle.stack_core.specs.Stack.{holds_key}
use Rattle.widget_model.specs.Rows.{Row}
use Rattle.widget_model.specs.Nodes.{id_named}
use Rattle.widget_model.specs.Trees.{parent_of, root_in, root_of}
use Rattle.widget_model.specs.Relatives.{root_id}
use Rattle.widget_model.specs.Widgets.{Widgets, nodes, rows_of, row_at, key_at}
use Rattle.widget_model.specs.Keys.{key_of}
use Rattle.widget_model.specs.Pointer as model
use Rattle.widget_model.specs.Pointer.{no_grab, on_widget, drags}
use Rattle.desk_model.specs.LetGo.{is_in_window, grab_left, focus_left}
use Rattle.desk_commands.specs.Parts.{Stage}
use Rattle.desk_commands.specs.Parts.{desk_of, AreParts}
use Rattle.desk_commands.specs.Lookup.{IsFound}
use Rattle.desk_commands.proofs.Effects.{found-live, is_found, found-parts}
use Rattle.desk_commands.proofs.WindowSteps.{is_open-holds_key}

-- A widget that was found is in a window exactly where its root is open.
pub in_window-found : (w : Widgets) (keys : List ℕ) (client : ℕ) (name : List ℕ) (key : ℕ) (kind : Kind) (root : ℕ) (stage : Stage) → AreParts w.clients w keys → IsFound w client name key kind → root_id w key ≡ Some root → IsSome (row_at w.entries root) → holds_key keys root ≡ is_in_window (desk_of stage w keys) (client, name)
in_window-found w keys client name key kind root stage kept found root_is live = by (row_at w.entries root) refl live
  where
    upper : List ℕ
    upper = root_of (rows_of w) client name

    id : id_named (nodes w.entries) client upper ≡ Some root
    id =
        let parts = found-parts w client name key kind found in
        ap (λ (n : List ℕ). id_named (nodes w.entries) client (root_of (rows_of w) client n)) (sym parts.1)
        ∙ ap (λ (c : ℕ). id_named (nodes w.entries) c (root_of (rows_of w) c found.row.name)) (sym parts.0)
        ∙ sym (ap (option_and_then (λ (row : Row). id_named (nodes w.entries) row.client (root_of (rows_of w) row.client row.name))) found.there)
        ∙ root_is

    by : (o : Option Row) → row_at w.entries root ≡ o → IsSome o → holds_key keys root ≡ is_in_window (desk_of stage w keys) (client, name)
    by None there is_there = absurd (false≢true is_there)
    by (Some row) there is_there =
        sym (is_open-holds_key w client upper root row.kind keys kept.tree.rows.names (is_found w client upper root row.kind kept.tree id (ap (option_map (λ (r : Row). r.kind)) there)) kept.windows)

pub root_in-alone : (most : ℕ) (rows : List Row) (client : ℕ) (name : List ℕ) → parent_of rows client name ≡ None → root_in most rows client name ≡ name
root_in-alone zero rows client name alone = refl
root_in-alone (suc most) rows client name alone = rw alone refl

-- The number of a live widget is in a window exactly where its key is.
pub in_window-live : (w : Widgets) (keys : List ℕ) (id root : ℕ) (stage : Stage) → AreParts w.clients w keys → root_id w id ≡ Some root → IsSome (row_at w.entries root) → IfSome (key_at w.entries id) (λ key. holds_key keys root ≡ is_in_window (desk_of stage w keys) key)
in_window-live w keys id root stage kept root_is live = by (row_at w.entries id) refl
  where
    by : (o : Option Row) → row_at w.entries id ≡ o → IfSome (option_map key_of o) (λ key. holds_key keys root ≡ is_in_window (desk_of stage w keys) key)
    by None there = tt
    by (Some row) there = in_window-found w keys row.client row.name id row.kind root stage kept (found-live w id row kept.tree there) root_is live

cond-same : {X : Type 0} (b : Bool) (x : X) → cond b x x ≡ x
cond-same true x = refl
cond-same false x = refl

-- A grab or focus by number stays where its key does.
grab-kept : (es : List (ℕ × Row)) (stays : ℕ × List ℕ → Bool) (held : ℕ × List ℕ → model.Grab) (id : ℕ) (inside : Bool) → ((key : ℕ × List ℕ) → grab_left stays (held key) ≡ cond (stays key) (held key) no_grab) → IfSome (key_at es id) (λ key. inside ≡ stays key) → cond inside (option_map_or held (key_at es id) no_grab) no_grab ≡ grab_left stays (option_map_or held (key_at es id) no_grab)
grab-kept es stays held id inside left is = by (key_at es id) is
  where
    by : (o : Option (ℕ × List ℕ)) → IfSome o (λ key. inside ≡ stays key) → cond inside (option_map_or held o no_grab) no_grab ≡ grab_left stays (option_map_or held o no_grab)
    by None h = cond-same inside no_grab
    by (Some key) h = ap (λ (b : Bool). cond b (held key) no_grab) h ∙ sym (left key)

pub widget-left : (es : List (ℕ × Row)) (stays : ℕ × List ℕ → Bool) (id : ℕ) (inside : Bool) → IfSome (key_at es id) (λ key. inside ≡ stays key) → cond inside (option_map_or on_widget (key_at es id) no_grab) no_grab ≡ grab_left stays (option_map_or on_widget (key_at es id) no_grab)
widget-left es stays id inside is = grab-kept es stays on_widget id inside (λ key. refl) is

pub drag-left : (es : List (ℕ × Row)) (stays : ℕ × List ℕ → Bool) (id dx dy : ℕ) (inside : Bool) → IfSome (key_at es id) (λ key. inside ≡ stays key) → cond inside (option_map_or (λ key. drags key dx dy) (key_at es id) no_grab) no_grab ≡ grab_left stays (option_map_or (λ key. drags key dx dy) (key_at es id) no_grab)
drag-left es stays id dx dy inside is = grab-kept es stays (λ key. drags key dx dy) id inside (λ key. refl) is

pub focus-left : (es : List (ℕ × Row)) (stays : ℕ × List ℕ → Bool) (id : ℕ) (inside : Bool) → IfSome (key_at es id) (λ key. inside ≡ stays key) → cond inside (key_at es id) None ≡ focus_left stays (key_at es id)
focus-left es stays id inside is = by (key_at es id) is
  where
    by : (o : Option (ℕ × List ℕ)) → IfSome o (λ key. inside ≡ stays key) → cond inside o None ≡ focus_left stays o
    by None h = cond-same inside None
    by (Some key) h = ap (λ (b : Bool). cond b (Some key) None) h

pub if_some-same : (o : Option (ℕ × List ℕ)) (b d : Bool) (stays : ℕ × List ℕ → Bool) → b ≡ d → IfSome o (λ key. d ≡ stays key) → IfSome o (λ key. b ≡ stays key)
if_some-same None b d stays same h = tt
if_some-same (Some key) b d stays same h = same ∙ h
