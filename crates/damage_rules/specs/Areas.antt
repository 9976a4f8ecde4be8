-- The reach by numbers: the shown areas that one row gives it, from the shots before and after and the looks that differ.
-- The words are those of the reach between two scenes, with the numbers of rows in place of their keys.
use Rattle.std.specs.Prelude.{ℕ, Bool, true, false, ◌&&◌, ◌||◌, not, nat_eq, List, [], ◌∷◌, ◌++◌, Option, Some, None, if◌then◌else◌}
use Rattle.std.specs.List.{list_any}
use Rattle.geom_core.specs.declared.rectangle.Rect.{Rect}
use Rattle.machine_model.specs.Damage.{same_place, is_over}
use Rattle.shot_core.specs.Shot.{Seen, spot_at, windows_in}
use Rattle.shot_core.specs.declared.spot.Spot.{Spot}

abbrev pub same_number : Option ℕ → Option ℕ → Bool
same_number None None = true
same_number (Some a) (Some b) = nat_eq a b
same_number _ _ = false

-- whether both are there and the spots of this window itself, in one place
abbrev pub is_placed_alike : ℕ → Option Spot → Option Spot → Bool
is_placed_alike window (Some before) (Some after) = (nat_eq before.window window && nat_eq after.window window) && same_place before.place after.place
is_placed_alike window _ _ = false

-- whether some window, open before and after, was above this one and is below it, in these orders
unfoldable pub is_higher_in : List ℕ → List ℕ → ℕ → Bool
is_higher_in before after window = list_any (λ other. is_over nat_eq before other window && is_over nat_eq after window other) before

-- whether the window is open in one of the shots alone, or its place differs, or it is put higher
unfoldable pub is_shifted : Seen → Seen → ℕ → Bool
is_shifted before after window = not (is_placed_alike window (spot_at before window) (spot_at after window)) || is_higher_in (windows_in before) (windows_in after) window

-- whether both are there, under this window, with one parent and one place
abbrev pub is_kept : ℕ → Option Spot → Option Spot → Bool
is_kept window (Some before) (Some after) =
    (nat_eq before.window window && nat_eq after.window window) && (same_number before.parent after.parent && same_place before.place after.place)
is_kept window _ _ = false

-- whether the row is under this window in one of the shots alone, or its parent, place or look differ
unfoldable pub is_altered : Seen → Seen → List ℕ → ℕ → ℕ → Bool
is_altered before after looks window key = not (is_kept window (spot_at before key) (spot_at after key)) || list_any (nat_eq key) looks

-- whether the reach names the row of this window
unfoldable pub is_named : Seen → Seen → List ℕ → ℕ → ℕ → Bool
is_named before after looks window key = if is_shifted before after window then nat_eq window key else is_altered before after looks window key

-- what is there, as a list of one or none
abbrev pub option_list : Option Rect → List Rect
option_list None = []
option_list (Some area) = area ∷ []

-- the shown area of the spot, where the reach names it
abbrev pub area_of : Seen → Seen → List ℕ → ℕ → Option Spot → List Rect
area_of before after looks key None = []
area_of before after looks key (Some spot) = if is_named before after looks spot.window key then spot.shown ∷ [] else []

-- the shown areas that the row gives the reach: the one that it had and the one that it has, as far as it is named
unfoldable pub areas_of : Seen → Seen → List ℕ → ℕ → List Rect
areas_of before after looks key = area_of before after looks key (spot_at before key) ++ area_of before after looks key (spot_at after key)
