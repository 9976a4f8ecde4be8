-- An inner word of the proofs: what has changed when a widget and those below it are laid out.
use Rattle.std.specs.Prelude.{ℕ, zero, suc, ◌≡◌, ◌≢◌, ◌⊎◌, List, Option, Some}
use Rattle.geom_core.specs.declared.rectangle.Rect.{Rect}
use Rattle.widget_model.specs.Widgets.{Widgets, rows_of, place_at}
use Rattle.widget_model.specs.Forest.{IsWidgets}
use Rattle.widget_model.specs.Relatives.{parent_id, root_id}
use Rattle.scene_model.specs.Placing.{place_in}
use Rattle.scene_core.specs.Children.{row_for}

abbrev pub with_places : List (Option Rect) → Widgets → Widgets
with_places places widgets = record widgets { places = places }

-- the place that the numbered widget is due
abbrev pub due : Widgets → ℕ → Option Rect
due widgets id = Some (place_in (rows_of widgets) (row_for widgets id))

-- going down from the widget, so many times at the most, comes to the other one
abbrev pub IsBelow : ℕ → Widgets → ℕ → ℕ → Type 0
IsBelow zero widgets id other = id ≡ other
IsBelow (suc most) widgets id other = (id ≡ other) ⊎ ((kid : ℕ) × (parent_id widgets kid ≡ Some id) × IsBelow most widgets kid other)

-- Only kept places have changed, of widgets with this one's root alone, and each that was due is due still.
pub record AreReplaced (old : Widgets) (id : ℕ) (new : Widgets) : Type 0 where
  pub same : new ≡ with_places new.places old
  pub valid : IsWidgets new
  pub others : (other : ℕ) → root_id old other ≢ root_id old id → place_at new other ≡ place_at old other
  pub kept : (other : ℕ) → place_at old other ≡ due old other → place_at new other ≡ due old other

-- and those of the widget and of all below it are due
pub record AreLaid (most : ℕ) (old : Widgets) (id : ℕ) (new : Widgets) : Type 0 where
  pub replaced : AreReplaced old id new
  pub under : (other : ℕ) → IsBelow most old id other → place_at new other ≡ due old other
