-- The look that is kept of a shown widget, by its number, and whether it differs later. A widget is shown where its root
-- is an open window.
use Rattle.std.specs.Prelude.{ℕ, Bool, false, not, List, Option, Some, None, if◌then◌else◌}
use Rattle.std.specs.Option.{option_map, option_map_or}
use Rattle.look_core.specs.Seen.{Seen}
use Rattle.look_core.specs.Same.{same_look}
use Rattle.stack_core.specs.Stack.{holds_key}
use Rattle.widget_model.specs.Widgets.{Widgets, row_at}
use Rattle.widget_model.specs.Relatives.{root_id}
use Rattle.scene_model.specs.Scene.{Scene}
use Rattle.scene_model.specs.LookOf.{look_of}
use Rattle.scene_core.specs.declared.view.View.{View}
use Rattle.scene_core.specs.View.{scene_of}
use Rattle.look_data.specs.Data.{but_bytes}

-- whether the numbered widget is shown, where the windows with these numbers are open
abbrev pub is_shown_at : Widgets → List ℕ → ℕ → Bool
is_shown_at widgets windows id = option_map_or (holds_key windows) (root_id widgets id) false

-- what is kept of the numbered widget: its look without a film's bytes while it is shown, else nothing
unfoldable pub kept_look : Widgets → List ℕ → Scene → ℕ → Option Seen
kept_look widgets windows scene id =
    if is_shown_at widgets windows id then option_map (λ row. but_bytes (look_of scene row)) (row_at widgets.entries id) else None

abbrev pub kept_in : View → ℕ → Option Seen
kept_in view id = kept_look view.tree.now view.stack.now (scene_of view) id

-- whether there is a look of both, and they differ
abbrev pub differ : Option Seen → Option Seen → Bool
differ None after = false
differ (Some before) None = false
differ (Some before) (Some after) = not (same_look before after)
