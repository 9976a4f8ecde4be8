-- The root of a widget, by its number: going up ends there.
use Rattle.std.proofs.Common.{◌≡◌, ℕ, zero, suc, ◌-◌, ◌≤◌, true, List, Option, Some, None, IsSome, refl, sym, ap, ◌∙◌, arith}
use Rattle.std.proofs.lemmas.Bool.{true≢false}
use Rattle.std.specs.Option.{option_map, option_map_or, option_and_then}
use Rattle.kind_core.specs.declared.kinds.Kind.{Kind}
use Rattle.kind_core.specs.declared.kinds.Kind.TheVariants.{Window}
use Rattle.kind_core.specs.declared.shapes.Cell.{Cell}
use Rattle.widget_model.specs.Rows.{Row}
use Rattle.widget_model.specs.Named.{row_named}
use Rattle.widget_model.specs.Nodes.{id_named}
use Rattle.widget_model.specs.Trees.{ends_within, root_in, root_of, parent_of, most_levels}
use Rattle.widget_model.specs.Planted.{hangs_right}
use Rattle.widget_model.specs.Relatives.{parent_id, root_id}
use Rattle.widget_model.specs.Widgets.{Widgets, rows_of, row_at, row_kind, nodes, IsLive}
use Rattle.widget_model.specs.Forest.{IsWidgets}
use Rattle.widget_model.proofs.Hanging.{all_at, hangs_right-at}
use Rattle.widget_model.proofs.Naming.{id_named-row}
use Rattle.tree_core.proofs.Listed.{numbered_place}
use Rattle.scene_model.specs.Placing.{parent_row}
use Rattle.scene_model.specs.declared.axis.Axis.TheVariants.{Across, Down}
use Rattle.scene_model.specs.Spans.{rect_of}
use Rattle.scene_model.specs.Placing.{place_in, root_span, window_span}
use Rattle.scene_model.proofs.LevelLaws.{roots_are_placed_by_their_rows, ends-found}
use Rattle.scene_model.proofs.Parents.{ends_within-child, IsChildOf-is_child}
use Rattle.scene_core.specs.Children.{row_for}
use Rattle.scene_core.specs.Places.{IsInWindow}
use Rattle.scene_core.proofs.Numbered.{live-there, parent_read}
use Rattle.scene_core.proofs.ChildNumbers.{parent_id-found}
use Rattle.scene_core.proofs.ChildNeeds.{child-at}
use Rattle.scene_core.proofs.LeastSteps.{key-found, child-live}
use Rattle.scene_core.proofs.Tops.{parent_of-row, root-read, root-child, window-open, window-alone}

-- a widget without a parent hangs in none
loose : (widgets : Widgets) (id : ℕ) → IsWidgets widgets → IsLive widgets id → parent_row (rows_of widgets) (row_for widgets id) ≡ None → (row_for widgets id).attached ≡ None
loose widgets id valid live none =
    let row = row_for widgets id in
    let place = numbered_place widgets.entries id row (live-there widgets id live) in
    by row.attached refl (all_at (hangs_right (rows_of widgets)) (rows_of widgets) place.0 row valid.rows.planted.hang place.1)
  where
    by : (o : Option (List ℕ × Cell)) → (row_for widgets id).attached ≡ o → hangs_right (rows_of widgets) (row_for widgets id) ≡ true → (row_for widgets id).attached ≡ None
    by None q right = q
    by (Some attached) q right =
        let hung = hangs_right-at (rows_of widgets) (row_for widgets id) attached.0 attached.1 right q in
        let upper : parent_row (rows_of widgets) (row_for widgets id) ≡ Some hung.upper = ap (option_and_then (λ (a : List ℕ × Cell). row_named (rows_of widgets) (row_for widgets id).client a.0)) q ∙ hung.found in
        let both : None ≡ Some hung.upper = sym none ∙ upper in
        absurd (cc)

no_parent : (widgets : Widgets) (id : ℕ) → IsWidgets widgets → IsLive widgets id → parent_id widgets id ≡ None → parent_row (rows_of widgets) (row_for widgets id) ≡ None
no_parent widgets id valid live none = parent_read widgets id valid live ∙ ap (option_map (row_for widgets)) none

-- so it is its own root
pub root-alone : (widgets : Widgets) (id : ℕ) → IsWidgets widgets → IsLive widgets id → parent_id widgets id ≡ None → root_id widgets id ≡ Some id
unfolding most_levels
root-alone widgets id valid live none =
    let row = row_for widgets id in
    let alone : parent_of (rows_of widgets) row.client row.name ≡ None = parent_of-row widgets id valid live ∙ ap (option_map (λ (attached : List ℕ × Cell). attached.0)) (loose widgets id valid live (no_parent widgets id valid live none)) in
    root-read widgets id live
    ∙ ap (λ (o : Option (List ℕ)). id_named (nodes widgets.entries) row.client (option_map_or (root_in 11 (rows_of widgets) row.client) o row.name)) alone
    ∙ id_named-row widgets.entries id row valid.rows.names (live-there widgets id live)

-- going up from a child ends one level later than from its parent
pub ends-parent : (widgets : Widgets) (most id kid : ℕ) → IsWidgets widgets → parent_id widgets kid ≡ Some id
    → ends_within (suc most) (rows_of widgets) (row_for widgets kid).client (row_for widgets kid).name ≡ ends_within most (rows_of widgets) (row_for widgets id).client (row_for widgets id).name
ends-parent widgets most id kid valid parent =
    let at = child-at widgets id kid valid parent in
    ends_within-child most (rows_of widgets) (row_for widgets id).client (row_for widgets id).name (row_for widgets kid)
    (record { named = key-found widgets kid valid (child-live widgets id kid valid parent) })
    (IsChildOf-is_child (row_for widgets id).client (row_for widgets id).name (row_for widgets kid) at.is)

-- and it ends within the levels of a tree
pub ends-live : (widgets : Widgets) (id : ℕ) → IsWidgets widgets → IsLive widgets id → ends_within most_levels (rows_of widgets) (row_for widgets id).client (row_for widgets id).name ≡ true
ends-live widgets id valid live = ends-found (rows_of widgets) (row_for widgets id) valid.rows.planted (key-found widgets id valid live)

-- after no level it hasn't ended
pub ends-some : (widgets : Widgets) (most id : ℕ) → ends_within most (rows_of widgets) (row_for widgets id).client (row_for widgets id).name ≡ true → 1 ≤ most
ends-some widgets zero id ends = absurd (true≢false (sym ends))
ends-some widgets (suc most) id ends = omega arith

-- it ends after one level less from the parent
pub ends-up : (widgets : Widgets) (most id kid : ℕ) → IsWidgets widgets → parent_id widgets kid ≡ Some id
    → ends_within most (rows_of widgets) (row_for widgets kid).client (row_for widgets kid).name ≡ true → ends_within (most - 1) (rows_of widgets) (row_for widgets id).client (row_for widgets id).name ≡ true
ends-up widgets zero id kid valid parent ends = absurd (true≢false (sym ends))
ends-up widgets (suc most) id kid valid parent ends = let e : suc most - 1 ≡ most = omega arith in rw e (sym (ends-parent widgets most id kid valid parent) ∙ ends)

-- a child hangs under the Window of its parent
pub in-window-up : (widgets : Widgets) (id kid : ℕ) → IsWidgets widgets → IsLive widgets id → parent_id widgets kid ≡ Some id → IsInWindow widgets kid → IsInWindow widgets id
in-window-up widgets id kid valid live parent window = ap (option_and_then (row_kind widgets.entries)) (sym (root-child widgets id kid valid live parent)) ∙ window

-- a widget under a Window that hangs in none is the Window
pub in-window-alone : (widgets : Widgets) (id : ℕ) → IsWidgets widgets → IsLive widgets id → parent_id widgets id ≡ None → IsInWindow widgets id → row_kind widgets.entries id ≡ Some Window
in-window-alone widgets id valid live none window = ap (option_and_then (row_kind widgets.entries)) (sym (root-alone widgets id valid live none)) ∙ window

-- the place of a Window is what its row says
pub window-placed : (widgets : Widgets) (id : ℕ) → IsWidgets widgets → row_kind widgets.entries id ≡ Some Window
    → place_in (rows_of widgets) (row_for widgets id) ≡ rect_of (window_span Across (row_for widgets id)) (window_span Down (row_for widgets id))
window-placed widgets id valid is =
    let row = row_for widgets id in
    let window = window-open widgets id is in
    roots_are_placed_by_their_rows (rows_of widgets) row (ap (option_and_then (λ (a : List ℕ × Cell). row_named (rows_of widgets) row.client a.0)) (window-alone widgets id valid window.live window.kind))
    ∙ ap (λ (kind : Kind). rect_of (root_span kind Across row) (root_span kind Down row)) window.kind

-- a parent is live
pub parent-live : (widgets : Widgets) (id kid : ℕ) → IsWidgets widgets → parent_id widgets kid ≡ Some id → IsLive widgets id
parent-live widgets id kid valid parent = let f = parent_id-found widgets id kid valid parent in rw f.upper_there refl

-- a widget with a root is live
pub rooted-live : (widgets : Widgets) (id top : ℕ) → root_id widgets id ≡ Some top → IsLive widgets id
rooted-live widgets id top root = by (row_at widgets.entries id) refl root
  where
    by : (o : Option Row) → row_at widgets.entries id ≡ o → option_and_then (λ (row : Row). id_named (nodes widgets.entries) row.client (root_of (rows_of widgets) row.client row.name)) o ≡ Some top → IsSome o
    by None q h = absurd (cc)
    by (Some row) q h = refl
