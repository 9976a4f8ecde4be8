-- The measured children of a widget, and the sizes and tracks that are made of them.
use Rattle.std.proofs.Common.{◌≡◌, ℕ, zero, suc, ◌-◌, ◌≤◌, false, min, sum, take, List, Some, refl, sym, ap, ◌∙◌, arith}
use Rattle.std.specs.Option.{option_map}
use Rattle.kind_core.specs.declared.kinds.Kind.{Kind}
use Rattle.kind_core.specs.declared.kinds.Kind.TheVariants.{Window, Grid, Frame, Button, Label, Entry, Scale, Scrollbar, Variable, VScreen}
use Rattle.widget_model.specs.Widgets.{Widgets, rows_of, row_at, IsLive, IsGrid}
use Rattle.widget_model.specs.Forest.{IsWidgets}
use Rattle.scene_model.specs.declared.axis.Axis.{Axis}
use Rattle.scene_model.specs.declared.axis.Axis.TheVariants.{Across, Down}
use Rattle.scene_model.specs.Least.{own_size, is_grid, least_of}
use Rattle.kind_core.specs.declared.shapes.Cell.{Cell}
use Rattle.scene_model.specs.Tracks.{cell_of, Need, rules_of, grid_least}
use Rattle.scene_core.specs.declared.size.Size.{Size}
use Rattle.scene_core.specs.declared.child.Child.{Child}
use Rattle.scene_core.specs.declared.tracks.Tracks.{Tracks}
use Rattle.scene_core.specs.Children.{row_for, size_of, size_for, child_for, needs_for, IsDeep}
use Rattle.scene_core.specs.Measured.{AreTracks}
use Rattle.scene_core.proofs.Numbered.{live-there, grid-live, grid-kind}
use Rattle.scene_core.proofs.LeastSteps.{deep-none, least-own, least-grid}

length-read : (needs : List Need) (rules : List (ℕ × ℕ)) (tracks : Tracks) (n : ℕ) → AreTracks needs rules tracks → n ≡ min (sum (take tracks.used tracks.least)) 4096 → n ≡ grid_least needs rules
unfolding grid_least
length-read needs rules tracks n are is = is ∙ ap (λ (lengths : List ℕ). min (sum lengths) 4096) are.least

pub length-grid : (axis : Axis) (widgets : Widgets) (id : ℕ) (tracks : Tracks) (n : ℕ) → IsWidgets widgets → IsGrid widgets id → AreTracks (needs_for axis widgets id) (rules_of axis (row_for widgets id)) tracks → n ≡ min (sum (take tracks.used tracks.least)) 4096
    → n ≡ least_of (rows_of widgets) axis (row_for widgets id)
length-grid axis widgets id tracks n valid grid are is =
    length-read (needs_for axis widgets id) (rules_of axis (row_for widgets id)) tracks n are is
    ∙ sym (least-grid widgets id axis valid (grid-live widgets id grid) (ap is_grid (grid-kind widgets id grid)))

pair-size : (a b c d : ℕ) → a ≡ c → b ≡ d → (let s : Size = record { w = a; h = b } in s) ≡ (let s : Size = record { w = c; h = d } in s)
pair-size a b c d p q = ap (λ (n : ℕ). let s : Size = record { w = n; h = b } in s) p ∙ ap (λ (n : ℕ). let s : Size = record { w = c; h = n } in s) q

pub size-both : (widgets : Widgets) (id : ℕ) (size : Size) → size.w ≡ least_of (rows_of widgets) Across (row_for widgets id) → size.h ≡ least_of (rows_of widgets) Down (row_for widgets id) → size ≡ size_for widgets id
size-both widgets id size w h = pair-size size.w size.h (least_of (rows_of widgets) Across (row_for widgets id)) (least_of (rows_of widgets) Down (row_for widgets id)) w h

pub no_grid : (kind : Kind) → (kind ≡ Grid → ⊥) → is_grid kind ≡ false
no_grid Grid other = absurd (other refl)
no_grid Window other = refl
no_grid Frame other = refl
no_grid Button other = refl
no_grid Label other = refl
no_grid Entry other = refl
no_grid Scale other = refl
no_grid Scrollbar other = refl
no_grid Variable other = refl
no_grid VScreen other = refl

pub size-own : (widgets : Widgets) (id : ℕ) (kind : Kind) (size : Size) → IsWidgets widgets → IsLive widgets id → kind ≡ (row_for widgets id).kind → (kind ≡ Grid → ⊥)
    → size.w ≡ (own_size kind (rows_of widgets) (row_for widgets id)).0 → size.h ≡ (own_size kind (rows_of widgets) (row_for widgets id)).1 → size ≡ size_for widgets id
size-own widgets id kind size valid live is other w h =
    let plain : is_grid (row_for widgets id).kind ≡ false = ap is_grid (sym is) ∙ no_grid kind other in
    size-both widgets id size
    (w ∙ ap (λ (k : Kind). (own_size k (rows_of widgets) (row_for widgets id)).0) is ∙ sym (least-own widgets id Across valid live plain))
    (h ∙ ap (λ (k : Kind). (own_size k (rows_of widgets) (row_for widgets id)).1) is ∙ sym (least-own widgets id Down valid live plain))

pub deep-some : (widgets : Widgets) (most id : ℕ) → IsWidgets widgets → IsLive widgets id → IsDeep widgets most id → 1 ≤ most
deep-some widgets zero id valid live deep = absurd (deep-none widgets id valid live deep)
deep-some widgets (suc most) id valid live deep = omega arith

-- so many levels are one more than those below
pub deep-suc : (widgets : Widgets) (most id : ℕ) → 1 ≤ most → IsDeep widgets most id → IsDeep widgets (suc (most - 1)) id
deep-suc widgets zero id some deep = absurd (omega arith)
deep-suc widgets (suc most) id some deep = let e : suc most - 1 ≡ most = omega arith in rw e deep

-- the size of a live row
pub size-there : (widgets : Widgets) (id : ℕ) (size : Size) → IsLive widgets id → size ≡ size_for widgets id → option_map (size_of (rows_of widgets)) (row_at widgets.entries id) ≡ Some size
size-there widgets id size live is = ap (option_map (size_of (rows_of widgets))) (live-there widgets id live) ∙ ap Some (sym is)

-- a measured child, from its cell and size
pub child-same : (widgets : Widgets) (key : ℕ) (cell : Cell) (size : Size) → cell ≡ cell_of (row_for widgets key) → size ≡ size_for widgets key
    → (let child : Child = record { key = key; cell = cell; least = size } in child) ≡ child_for widgets key
child-same widgets key cell size c s =
    ap (λ (x : Cell). let child : Child = record { key = key; cell = x; least = size } in child) c
    ∙ ap (λ (x : Size). let child : Child = record { key = key; cell = cell_of (row_for widgets key); least = x } in child) s
