-- What the laws of layout ask of rows always holds of those of widgets.
use Rattle.widget_model.specs.Named.{AreNamedApart}
use Rattle.widget_model.specs.Widgets.{Widgets, rows_of}
use Rattle.widget_model.specs.Forest.{IsWidgets}
use Rattle.scene_model.specs.Fit.{AreFit}

-- their rows are within their limits, and hang right in one another
abbrev pub WidgetsAreFit : Type 0
WidgetsAreFit = (widgets : Widgets) → IsWidgets widgets → AreFit (rows_of widgets)

-- no two rows of one client have one name
abbrev pub WidgetsAreNamedApart : Type 0
WidgetsAreNamedApart = (widgets : Widgets) → IsWidgets widgets → AreNamedApart (rows_of widgets)
