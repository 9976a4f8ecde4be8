-- Open windows by number: each has a row, and there are as many titles as numbers.
use Rattle.std.proofs.Common.{◌≡◌, ℕ, true, List, length, slice_get, Some, is_some, ap}
use Rattle.std.proofs.lemmas.List.{length-map}
use Rattle.std.specs.List.{list_all}
use Rattle.widget_model.specs.Nodes.{Node}
use Rattle.widget_model.specs.Widgets.{Widgets, nodes, row_at}
use Rattle.widget_model.proofs.Hanging.{all_at}
use Rattle.desk_commands.specs.Parts.{title_at, windows_at, names_window}
use Rattle.desk_commands.proofs.WindowSteps.{window_at}

-- a key at an index names a Window, which has a row
pub window_live : (w : Widgets) (keys : List ℕ) (i key : ℕ) → list_all (names_window (nodes w.entries)) keys ≡ true → slice_get keys i ≡ Some key → is_some (row_at w.entries key) ≡ true
window_live w keys i key windows there = ap is_some (window_at w key (all_at (names_window (nodes w.entries)) keys i key windows there)).there

pub length-windows_at : (ns : List (ℕ × Node)) (keys : List ℕ) → length (windows_at ns keys) ≡ length keys
length-windows_at ns keys = length-map keys (title_at ns)
