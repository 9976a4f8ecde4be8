-- The reach of a change from one scene to another: the pixels that have to be drawn again. It is made of shown areas,
-- as they were and as they are: those of each window that opened, closed, moved, changed its size or was put higher,
-- and in each other open window those of the widgets that changed. A pixel is (x, y), counted from 0 at the screen's
-- upper left corner.
use Rattle.std.specs.Prelude.{ℕ, ℤ, Bool, true, false, ◌&&◌, ◌||◌, not, nat_eq, List, [], ◌∷◌, ◌++◌, map, Option, Some, None, if◌then◌else◌}
use Rattle.std.specs.Ordering.{int_eq}
use Rattle.std.specs.List.{list_any}
use Rattle.geom_core.specs.declared.rectangle.Rect.{Rect}
use Rattle.look_core.specs.Same.{same_look}
use Rattle.widget_model.specs.Keys.{key_of, same_key}
use Rattle.scene_model.specs.Scene.{Scene}
use Rattle.scene_model.specs.Showing.{place_of, parent_in, shows_at, is_open_in, is_under}
use Rattle.scene_model.specs.Colours.{look_at}

abbrev pub same_place : Rect → Rect → Bool
same_place a b = (int_eq a.x b.x && int_eq a.y b.y) && (nat_eq a.w b.w && nat_eq a.h b.h)

abbrev pub same_parent : Option (ℕ × List ℕ) → Option (ℕ × List ℕ) → Bool
same_parent None None = true
same_parent (Some a) (Some b) = same_key a b
same_parent _ _ = false

-- whether the upper window comes before the lower one in the order from top to bottom, where `same` tells whether two
-- are one
abbrev pub is_over : {Key : Type 0} → (Key → Key → Bool) → List Key → Key → Key → Bool
is_over same [] upper lower = false
is_over same (window ∷ windows) upper lower = if same upper window then list_any (same lower) windows else is_over same windows upper lower

-- A window is put higher where some window, open before and after, was above it and is below it.
unfoldable pub is_put_higher : Scene → Scene → ℕ × List ℕ → Bool
is_put_higher before after window =
    list_any (λ other. is_over same_key before.windows other window && is_over same_key after.windows window other) before.windows

-- A window is shifted where it is open in one of the scenes alone, or its place differs, or it is put higher.
unfoldable pub is_shifted : Scene → Scene → ℕ × List ℕ → Bool
is_shifted before after window =
    not (is_open_in before window && is_open_in after window) || (not (same_place (place_of before window) (place_of after window)) || is_put_higher before after window)

-- A widget is altered in a window where it is the window or under it in one of the scenes alone, or where its parent,
-- its place or its look differ.
unfoldable pub is_altered : Scene → Scene → ℕ × List ℕ → ℕ × List ℕ → Bool
is_altered before after window key =
    not (is_under before window key && is_under after window key) || (not (same_parent (parent_in before key) (parent_in after key)) || (not (same_place (place_of before key) (place_of after key)) || not (same_look (look_at before key) (look_at after key))))

-- the shown area of a window where it is open, and of a widget where it is under the window
abbrev pub shows_open : Scene → ℕ × List ℕ → ℤ → ℤ → Bool
shows_open scene window x y = is_open_in scene window && shows_at scene window x y

abbrev pub shows_under : Scene → ℕ × List ℕ → ℕ × List ℕ → ℤ → ℤ → Bool
shows_under scene window key x y = is_under scene window key && shows_at scene key x y

-- the keys of a scene's widgets
abbrev pub keys_in : Scene → List (ℕ × List ℕ)
keys_in scene = map key_of scene.rows

-- Of a shifted window the reach has its shown area, as it was and as it is.
abbrev pub in_window : Scene → Scene → ℕ × List ℕ → ℤ → ℤ → Bool
in_window before after window x y = shows_open before window x y || shows_open after window x y

-- Of any other it has the shown areas of the widgets that are altered in it, as they were and as they are.
abbrev pub in_widget : Scene → Scene → ℕ × List ℕ → ℤ → ℤ → ℕ × List ℕ → Bool
in_widget before after window x y key =
    is_altered before after window key && (shows_under before window key x y || shows_under after window key x y)

unfoldable pub in_reach_of : Scene → Scene → ℤ → ℤ → ℕ × List ℕ → Bool
in_reach_of before after x y window =
    if is_shifted before after window
    then in_window before after window x y
    else list_any (in_widget before after window x y) (keys_in before ++ keys_in after)

-- The reach: what it has of each window that was open or is open.
unfoldable pub in_reach : Scene → Scene → ℤ → ℤ → Bool
in_reach before after x y = list_any (in_reach_of before after x y) (before.windows ++ after.windows)
