-- Each number that the pointer holds names a widget.
use Rattle.std.specs.Prelude.{ℕ, List, IfSome, IsSome}
use Rattle.widget_model.specs.Rows.{Row}
use Rattle.widget_model.specs.Widgets.{row_at}
use Rattle.tree_core.specs.declared.pointer.Grab.{Grab}
use Rattle.tree_core.specs.declared.pointer.Grab.TheVariants.{Nothing, Widget, Drag}
use Rattle.tree_core.specs.declared.pointer.Pointer.{Pointer}

abbrev pub IsGrabLive : List (ℕ × Row) → Grab → Type 0
IsGrabLive entries Nothing = Unit {0}
IsGrabLive entries (Widget id) = IsSome (row_at entries id.key)
IsGrabLive entries (Drag id dx dy) = IsSome (row_at entries id.key)

pub record HoldsLive (entries : List (ℕ × Row)) (pointer : Pointer) : Type 0 where
  pub grab : IsGrabLive entries pointer.grab
  pub focus : IfSome pointer.focus (λ id. IsSome (row_at entries id.key))
