-- The order of the open windows after an input: the raised window is the top one.
use Rattle.std.specs.Prelude.{ℕ, Bool, List, Option}
use Rattle.std.specs.List.{list_any}
use Rattle.std.specs.Option.{option_map_or}
use Rattle.widget_model.specs.Widgets.{Widgets, nodes}
use Rattle.desk_model.specs.Desk.{is_window}
use Rattle.desk_model.specs.Windows.{with_top}
use Rattle.desk_commands.specs.Parts.{windows_at}

-- whether the window with that key is one of those with these numbers
abbrev pub is_open_at : Widgets → List ℕ → ℕ × List ℕ → Bool
is_open_at widgets keys window = list_any (is_window window.0 window.1) (windows_at (nodes widgets.entries) keys)

abbrev pub windows_after : Option (ℕ × List ℕ) → List (ℕ × List ℕ) → List (ℕ × List ℕ)
windows_after raise windows = option_map_or (λ window. with_top window.0 window.1 windows) raise windows
