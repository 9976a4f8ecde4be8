-- The words of the command language: how kinds, attributes, events, options and methods are written.
use Rattle.std.specs.Prelude.{ℕ, List, codes}
use Rattle.kind_core.specs.declared.kinds.Kind as kind
use Rattle.kind_core.specs.declared.kinds.Kind.TheVariants as kinds
use Rattle.kind_core.specs.declared.kinds.Attr as attr
use Rattle.kind_core.specs.declared.kinds.Attr.TheVariants as attrs
use Rattle.kind_core.specs.declared.kinds.EventKind as event
use Rattle.kind_core.specs.declared.kinds.EventKind.TheVariants as events
use Rattle.cmd_words.specs.declared.commands.PlaceOption.{PlaceOption}
use Rattle.cmd_words.specs.declared.commands.PlaceOption.TheVariants.{Column, Row, Pad}
use Rattle.cmd_words.specs.declared.commands.ConfigOption.{ConfigOption}
use Rattle.cmd_words.specs.declared.commands.ConfigOption.TheVariants.{Size, Weight}
use Rattle.cmd_words.specs.declared.methods.Method.{Method}
use Rattle.cmd_words.specs.declared.methods.Method.TheVariants as method

abbrev pub kind_word : kind.Kind → List ℕ
kind_word kinds.Window = codes "Window"
kind_word kinds.Grid = codes "Grid"
kind_word kinds.Frame = codes "Frame"
kind_word kinds.Button = codes "Button"
kind_word kinds.Label = codes "Label"
kind_word kinds.Entry = codes "Entry"
kind_word kinds.Scale = codes "Scale"
kind_word kinds.Scrollbar = codes "Scrollbar"
kind_word kinds.Variable = codes "Variable"
kind_word kinds.VScreen = codes "VScreen"

abbrev pub attr_word : attr.Attr → List ℕ
attr_word attrs.X = codes "x"
attr_word attrs.Y = codes "y"
attr_word attrs.W = codes "w"
attr_word attrs.H = codes "h"
attr_word attrs.Title = codes "title"
attr_word attrs.Text = codes "text"
attr_word attrs.Caret = codes "caret"
attr_word attrs.Cols = codes "cols"
attr_word attrs.Value = codes "value"
attr_word attrs.Max = codes "max"
attr_word attrs.Real = codes "real"
attr_word attrs.View = codes "view"
attr_word attrs.Vert = codes "vert"

abbrev pub event_word : event.EventKind → List ℕ
event_word events.Press = codes "press"
event_word events.Release = codes "release"
event_word events.Click = codes "click"
event_word events.Key = codes "key"
event_word events.Change = codes "change"
event_word events.Motion = codes "motion"
event_word events.Move = codes "move"

abbrev pub place_word : PlaceOption → List ℕ
place_word Column = codes "column"
place_word Row = codes "row"
place_word Pad = codes "pad"

abbrev pub config_word : ConfigOption → List ℕ
config_word Size = codes "size"
config_word Weight = codes "weight"

abbrev pub method_word : Method → List ℕ
method_word method.Set = codes "set"
method_word method.Get = codes "get"
method_word method.Place = codes "place"
method_word method.Lift = codes "lift"
method_word method.ColumnConfig = codes "columnconfig"
method_word method.RowConfig = codes "rowconfig"
method_word method.Link = codes "link"
method_word method.Unlink = codes "unlink"
method_word method.Bind = codes "bind"
method_word method.Unbind = codes "unbind"
method_word method.Open = codes "open"
method_word method.Close = codes "close"
method_word method.Top = codes "top"
method_word method.Mode = codes "mode"
method_word method.Admit = codes "admit"
method_word method.Leave = codes "leave"
method_word method.Frame = codes "frame"
method_word method.Drop = codes "drop"
