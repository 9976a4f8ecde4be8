-- The reach once more, key by key: what each widget gives it. A server adds it so, a widget after the other.
use Rattle.std.specs.Prelude.{ℕ, ℤ, ◌≡◌, Bool, ◌&&◌, ◌||◌, List, ◌++◌, if◌then◌else◌}
use Rattle.std.specs.List.{list_any}
use Rattle.widget_model.specs.Keys.{same_key, root_key}
use Rattle.scene_model.specs.Scene.{Scene}
use Rattle.scene_model.specs.Showing.{shows_at, is_open_in}
use Rattle.machine_model.specs.Damage.{is_shifted, is_altered, keys_in, in_reach}
use Rattle.machine_model.specs.DamageLaws.{IsSound}

-- Whether the reach names the widget of this window: of a shifted window it names the window alone, of any other each
-- widget that is altered in it.
abbrev pub is_named_in : Scene → Scene → ℕ × List ℕ → ℕ × List ℕ → Bool
is_named_in before after window key = if is_shifted before after window then same_key window key else is_altered before after window key

-- Whether the reach has the shown area that the widget has in one of the two scenes: the widget is shown in it, and is
-- named in its window there.
unfoldable pub is_named : Scene → Scene → Scene → ℕ × List ℕ → Bool
is_named before after scene key = is_open_in scene (root_key scene.rows key) && is_named_in before after (root_key scene.rows key) key

abbrev pub named_shows : Scene → Scene → Scene → ℤ → ℤ → ℕ × List ℕ → Bool
named_shows before after scene x y key = is_named before after scene key && shows_at scene key x y

-- what the widget gives the reach
abbrev pub in_reach_by : Scene → Scene → ℤ → ℤ → ℕ × List ℕ → Bool
in_reach_by before after x y key = named_shows before after before x y key || named_shows before after after x y key

-- The reach is what all widgets together give it.
abbrev pub ReachIsByKeys : Type 0
ReachIsByKeys =
    (before after : Scene) → IsSound before → IsSound after → (x y : ℤ) → in_reach before after x y ≡ list_any (in_reach_by before after x y) (keys_in before ++ keys_in after)
