-- What a view lays over what: the slots of windows and of children.
use Rattle.std.proofs.Common.{◌≡◌, ℕ, ◌<◌, ◌≤◌, List, [], ◌∷◌, length, get_or, map, refl, arith}
use Rattle.std.specs.Prelude.{Option, Some, None}
use Rattle.std.specs.Option.{option_map_or}
use Rattle.std.proofs.lemmas.List.{length-map}
use Rattle.std.proofs.lemmas.List.FromFn.{length-map-range_with_len, get_or-map-range_with_len}
use Rattle.std.specs.Prelude.{slice_get, zero, suc, IfSome, IsSome}
use Rattle.std.specs.List.{All}
use Rattle.std.proofs.lemmas.List.Elements.{All-head, All-tail}
use Rattle.std.specs.Option.{option_map}
use Rattle.widget_model.specs.Rows.{Row}
use Rattle.kind_core.specs.declared.kinds.Kind.{Kind}
use Rattle.kind_core.specs.declared.kinds.Kind.TheVariants.{Window, Grid, Frame}
use Rattle.widget_model.specs.Widgets.{Widgets, row_kind, row_at, IsLive}
use Rattle.tree_core.specs.Children.{cells_of}
use Rattle.scene_core.specs.declared.view.View.{View}
use Rattle.scene_core.specs.View.{IsView, KeepsPlaces}
use Rattle.scene_model.proofs.FitWidgets.{widgets_are_fit}
use Rattle.painter_core.specs.Stage.{layers_of, slots_below, slots_of, child_in_slot, IsPaintable}

few_cells : (kind : Kind) → cells_of kind ≤ 256
few_cells Window = omega arith
few_cells Grid = omega arith
few_cells Frame = omega arith
few_cells _ = omega arith

few_slots : (kind : Option Kind) → option_map_or cells_of kind 0 ≤ 256
few_slots None = omega arith
few_slots (Some kind) = few_cells kind

pub length-children : (view : View) (id : ℕ) → length ((layers_of view).below (Some id)) ≡ slots_of view.tree.now id
unfolding layers_of slots_below
length-children view id = length-map-range_with_len (child_in_slot view.tree.now id) 0 (slots_of view.tree.now id)

pub length-windows : (view : View) → length ((layers_of view).below None) ≡ length view.stack.now
unfolding layers_of slots_below
length-windows view = length-map view.stack.now Some

pub few_below : (view : View) (id : ℕ) → length ((layers_of view).below (Some id)) ≤ 256
few_below view id = omega (arith, length-children view id, few_slots (row_kind view.tree.now.entries id))

some_at : (ids : List ℕ) (i : ℕ) → get_or (map Some ids) i None ≡ slice_get ids i
some_at [] zero = refl
some_at [] (suc i) = refl
some_at (id ∷ ids) zero = refl
some_at (id ∷ ids) (suc i) = some_at ids i

-- what is in a slot of the windows, and of a widget
pub window-slot : (view : View) (slot : ℕ) → get_or ((layers_of view).below None) slot None ≡ slice_get view.stack.now slot
unfolding layers_of slots_below
window-slot view slot = some_at view.stack.now slot

pub child-slot : (view : View) (id slot : ℕ) → slot < slots_of view.tree.now id → get_or ((layers_of view).below (Some id)) slot None ≡ child_in_slot view.tree.now id slot
unfolding layers_of slots_below
child-slot view id slot within = get_or-map-range_with_len (child_in_slot view.tree.now id) 0 (slots_of view.tree.now id) slot slot None within (omega arith)

pub live_kind : (row : Option Row) → option_map (λ (row : Row). row.kind) row ≡ Some Window → IsSome row
live_kind None e = absurd (cc)
live_kind (Some row) e = refl

-- the open windows are live
pub windows-there : (widgets : Widgets) (ids : List ℕ) (slot : ℕ) → All (λ id. row_kind widgets.entries id ≡ Some Window) ids → IfSome (slice_get ids slot) (IsLive widgets)
windows-there widgets [] zero each = tt
windows-there widgets [] (suc slot) each = tt
windows-there widgets (id ∷ ids) zero each = live_kind (row_at widgets.entries id) (All-head (λ (id : ℕ). row_kind widgets.entries id ≡ Some Window) id ids each)
windows-there widgets (id ∷ ids) (suc slot) each = windows-there widgets ids slot (All-tail (λ (id : ℕ). row_kind widgets.entries id ≡ Some Window) id ids each)

-- a view of a desk, with its places kept, can be painted
pub IsPaintable-view : (view : View) → IsView view → KeepsPlaces view.tree.now view.stack.now → IsPaintable view
IsPaintable-view view is places = record { is_view = is; widgets = is.valid; fit = widgets_are_fit view.tree.now is.valid; places = places }
