-- An inner word of the proofs: the trail of a pixel, the widgets from the window that shows it down to the one on top.
-- Of the slots below a widget the first one whose place holds the pixel is entered.
use Rattle.std.specs.Prelude.{◌≡◌, ℕ, zero, suc, ◌<◌, ◌≤◌, ℤ, Bool, true, false, ◌&&◌, nat_eq, List, [], ◌∷◌, length, drop, slice_index_or, Option, Some, None, if◌then◌else◌}
use Rattle.geom_core.specs.declared.rectangle.Rect.{Rect}
use Rattle.geom_core.specs.Rect.{in_rect, area_of}
use Rattle.painter_core.specs.Layers.{Layers}

abbrev pub first_holding : (ℕ → Rect) → (ℕ → List ℕ) → List (Option ℕ) → ℤ → ℤ → List ℕ
first_holding rect deeper [] x y = []
first_holding rect deeper (None ∷ slots) x y = first_holding rect deeper slots x y
first_holding rect deeper (Some id ∷ slots) x y = if in_rect (rect id) x y then id ∷ deeper id else first_holding rect deeper slots x y

-- the trail from these slots on, so many levels deep at the most
unfoldable pub trail : ℕ → Layers → List (Option ℕ) → ℤ → ℤ → List ℕ
trail zero layers slots x y = []
trail (suc depth) layers slots x y = first_holding layers.rect (λ id. trail depth layers (layers.below (Some id)) x y) slots x y

-- the slots below a widget from a slot on
abbrev pub slots_from : Layers → Option ℕ → ℕ → List (Option ℕ)
slots_from layers under from = drop from (layers.below under)

-- where a trail ends that begins under a widget
abbrev pub last_of : Option ℕ → List ℕ → Option ℕ
last_of under [] = under
last_of under (id ∷ ids) = last_of (Some id) ids

-- whether the pixels of this widget are painted: those of all where none is named
abbrev pub is_wanted : Option ℕ → Option ℕ → Bool
is_wanted None top = true
is_wanted (Some id) None = false
is_wanted (Some id) (Some top) = nat_eq id top

-- nothing from this slot on holds a pixel of the piece
abbrev pub PassesAll : Layers → Option ℕ → ℕ → Rect → Type 0
PassesAll layers under from piece =
    (depth : ℕ) (x y : ℤ) → in_rect piece x y ≡ true → trail depth layers (slots_from layers under from) x y ≡ []

-- The slot `at` is the first one from `from` on whose widget shares pixels with the piece.
pub record Finds (layers : Layers) (under : Option ℕ) (from : ℕ) (piece : Rect) (at id : ℕ) (shared : Rect) : Type 0 where
  pub least : from ≤ at
  pub within : at < length (layers.below under)
  pub slot : slice_index_or (layers.below under) at None ≡ Some id
  pub passed : (depth : ℕ) (x y : ℤ) → in_rect piece x y ≡ true
      → trail depth layers (slots_from layers under from) x y ≡ trail depth layers (slots_from layers under at) x y
  pub shares : (x y : ℤ) → in_rect shared x y ≡ (in_rect piece x y && in_rect (layers.rect id) x y)
  pub filled : 0 < area_of shared
