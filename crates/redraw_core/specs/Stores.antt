-- Inner words of the proofs: the same of a store.
use Rattle.std.specs.Prelude.{ℕ, ℤ, Bool}
use Rattle.geom_core.specs.declared.rectangle.Rect.{Rect}
use Rattle.redraw_core.specs.declared.store.Store.{Store}
use Rattle.redraw_core.specs.Stored.{IsKept, Grown, Rearranged, Removed, Added}

abbrev pub IsStore : Store → Type 0
IsStore s = IsKept s.kept.items s.area s.map

abbrev pub HasGrown : (ℤ → ℤ → Bool) → Store → Store → Type 0
HasGrown test old new = Grown test old.kept.items old.map new.kept.items new.area new.map

abbrev pub IsRearranged : Store → Store → Type 0
IsRearranged old new = Rearranged old.kept.items old.map new.kept.items new.area new.map

abbrev pub HasRemoved : ℕ → Rect → Store → Store → Type 0
HasRemoved n rect old new = Removed n rect old.kept.items old.map new.kept.items new.area new.map

abbrev pub HasAdded : (ℤ → ℤ → Bool) → Store → Store → Type 0
HasAdded test old new = Added test old.kept.items old.map new.kept.items new.area new.map
