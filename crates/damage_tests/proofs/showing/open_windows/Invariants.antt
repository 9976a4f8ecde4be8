use Rattle.std.proofs.Common.{◌≡◌}
use Rattle.widget_model.specs.Forest.{IsWidgets}
use Rattle.damage_tests.specs.Shown.{IsShown}
use Rattle.damage_tests.proofs.showing.open_windows.Given as goal

abbrev pub invariant-loop-name : goal.invariant-loop-name
invariant-loop-name l = record { clients : l.tree.clients ≡ l.fn.tree.clients; valid : IsWidgets l.tree; shown : IsShown l.tree l.stack }
