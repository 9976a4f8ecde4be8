-- The root of what is in a slot: an open window is its own, and a child has its parent's.
use Rattle.std.proofs.Common.{◌≡◌, ℕ, ◌+◌, ◌/◌, ◌%◌, List, refl, ap, ◌∙◌, slice_get}
use Rattle.std.specs.Prelude.{Option, Some, None, IfSome, IsSome, pos}
use Rattle.std.specs.List.{All}
use Rattle.std.specs.Option.{option_map, option_map_or, option_and_then}
use Rattle.std.proofs.lemmas.Option.{slice_get_within, get_or_from_slice_get}
use Rattle.kind_core.specs.declared.kinds.Kind.TheVariants.{Window}
use Rattle.kind_core.specs.declared.shapes.Cell.{Cell}
use Rattle.geom_core.specs.declared.rectangle.Rect.{Rect}
use Rattle.widget_model.specs.Rows.{Row}
use Rattle.widget_model.specs.Nodes.{id_named}
use Rattle.widget_model.specs.Widgets.{Widgets, rows_of, row_at, row_kind, nodes, place_at}
use Rattle.widget_model.specs.Forest.{IsWidgets}
use Rattle.widget_model.specs.Relatives.{parent_id}
use Rattle.tree_core.proofs.Listed.{All-at}
use Rattle.scene_model.specs.Placing.{place_in}
use Rattle.scene_core.specs.declared.view.View.{View}
use Rattle.scene_core.specs.View.{KeepsPlaces}
use Rattle.scene_core.specs.Children.{row_for}
use Rattle.scene_core.proofs.Numbered.{live-there}
use Rattle.scene_core.proofs.ChildNumbers.{child_id-parent}
use Rattle.scene_core.proofs.LeastSteps.{child-live}
use Rattle.scene_core.proofs.Tops.{window-open, window-alone, root-window, root-child}
use Rattle.painter_core.specs.Stage.{rect_at, child_in_slot, layers_of, IsThere}

-- the parent of what is in a slot
pub parent-window : (widgets : Widgets) (id : ℕ) → IsWidgets widgets → row_kind widgets.entries id ≡ Some Window → parent_id widgets id ≡ None
parent-window widgets id valid kind =
    let window = window-open widgets id kind in
    ap (option_and_then (λ (row : Row). option_and_then (λ (attached : List ℕ × Cell). id_named (nodes widgets.entries) row.client attached.0) row.attached)) (live-there widgets id window.live)
    ∙ ap (option_and_then (λ (attached : List ℕ × Cell). id_named (nodes widgets.entries) (row_for widgets id).client attached.0)) (window-alone widgets id valid window.live window.kind)

pub parent-child : (widgets : Widgets) (id slot kid : ℕ) → IsWidgets widgets → child_in_slot widgets id slot ≡ Some kid → parent_id widgets kid ≡ Some id
parent-child widgets id slot kid valid found = child_id-parent widgets id (slot / 16 + 1) (slot % 16 + 1) kid valid found

-- an open window is there
window_there : (view : View) (slot id : ℕ) → IsWidgets view.tree.now → row_kind view.tree.now.entries id ≡ Some Window → slice_get view.stack.now slot ≡ Some id → IsThere view id
window_there view slot id valid kind at =
    let window = window-open view.tree.now id kind in
    record {
      live = window.live;
      window = id;
      is_open = (slot, slice_get_within view.stack.now slot id at, get_or_from_slice_get view.stack.now slot id id at);
      root = root-window view.tree.now id valid window;
    }

pub windows_there : (view : View) (slot : ℕ) → IsWidgets view.tree.now → All (λ id. row_kind view.tree.now.entries id ≡ Some Window) view.stack.now → IfSome (slice_get view.stack.now slot) (IsThere view)
windows_there view slot valid each = by (slice_get view.stack.now slot) refl
  where
    by : (o : Option ℕ) → slice_get view.stack.now slot ≡ o → IfSome o (IsThere view)
    by None e = tt
    by (Some id) e = window_there view slot id valid (All-at (λ (n : ℕ). row_kind view.tree.now.entries n ≡ Some Window) view.stack.now slot id each e) e

pub row_there : (o : Option Row) → IsSome o → (row : Row) × (o ≡ Some row)
row_there None h = absurd (cc)
row_there (Some row) h = (row, refl)

-- what is in a slot of a widget that is there is there
pub child_there : (view : View) (id slot kid : ℕ) → IsWidgets view.tree.now → IsThere view id → child_in_slot view.tree.now id slot ≡ Some kid → IsThere view kid
child_there view id slot kid valid there found =
    let parent = parent-child view.tree.now id slot kid valid found in
    record {
      live = child-live view.tree.now id kid valid parent;
      window = there.window;
      is_open = there.is_open;
      root = root-child view.tree.now id kid valid there.live parent ∙ there.root;
    }

-- the kept place is the place
kept_some : (place : Rect) (rows : List Row) (o : Option Row) → Some place ≡ option_map (place_in rows) o → place ≡ option_map_or (place_in rows) o (record { x = pos 0; y = pos 0; w = 0; h = 0 })
kept_some place rows None e = absurd (cc)
kept_some place rows (Some row) e = cc

kept_none : (rows : List Row) (o : Option Row) → None ≡ option_map (place_in rows) o → record { x = pos 0; y = pos 0; w = 0; h = 0 } ≡ option_map_or (place_in rows) o (record { x = pos 0; y = pos 0; w = 0; h = 0 })
kept_none rows None e = refl
kept_none rows (Some row) e = absurd (cc)

pub kept_place : (view : View) (id : ℕ) (place : Rect) → KeepsPlaces view.tree.now view.stack.now → IsThere view id → Some place ≡ place_at view.tree.now id → place ≡ (layers_of view).rect id
unfolding layers_of rect_at
kept_place view id place kept there is = kept_some place (rows_of view.tree.now) (row_at view.tree.now.entries id) (is ∙ kept.each id there.window there.is_open there.root)

pub no_kept_place : (view : View) (id : ℕ) → KeepsPlaces view.tree.now view.stack.now → IsThere view id → None ≡ place_at view.tree.now id → record { x = pos 0; y = pos 0; w = 0; h = 0 } ≡ (layers_of view).rect id
unfolding layers_of rect_at
no_kept_place view id kept there is = kept_none (rows_of view.tree.now) (row_at view.tree.now.entries id) (is ∙ kept.each id there.window there.is_open there.root)
