-- Each table of words has each value, and none of its words begins another.
use Rattle.std.proofs.Common.{refl, inl, inr}
use Rattle.cmd_words.specs.Words.{kind_word, attr_word, event_word, place_word, config_word}
use Rattle.cmd_text.specs.ReadingWords.{all_methods, all_kinds, all_attrs, all_events, all_place_options, all_config_options}
use Rattle.cmd_words.specs.Words.{method_word}
use Rattle.cmd_text.proofs.Picks.{Among, AreWords, words_from}
use Rattle.cmd_words.specs.declared.methods.Method as method_type
use Rattle.cmd_words.specs.declared.methods.Method.TheVariants as method
use Rattle.kind_core.specs.declared.kinds.Kind as kind_type
use Rattle.kind_core.specs.declared.kinds.Kind.TheVariants as kind
use Rattle.kind_core.specs.declared.kinds.Attr as attr_type
use Rattle.kind_core.specs.declared.kinds.Attr.TheVariants as attr
use Rattle.kind_core.specs.declared.kinds.EventKind as event_type
use Rattle.kind_core.specs.declared.kinds.EventKind.TheVariants as event
use Rattle.cmd_words.specs.declared.commands.PlaceOption as place_type
use Rattle.cmd_words.specs.declared.commands.PlaceOption.TheVariants as place
use Rattle.cmd_words.specs.declared.commands.ConfigOption as config_type
use Rattle.cmd_words.specs.declared.commands.ConfigOption.TheVariants as config

method_complete : (a : method_type.Method) → Among all_methods a
method_complete method.Set = inl refl
method_complete method.Get = inr (inl refl)
method_complete method.Place = inr (inr (inl refl))
method_complete method.Lift = inr (inr (inr (inl refl)))
method_complete method.ColumnConfig = inr (inr (inr (inr (inl refl))))
method_complete method.RowConfig = inr (inr (inr (inr (inr (inl refl)))))
method_complete method.Link = inr (inr (inr (inr (inr (inr (inl refl))))))
method_complete method.Unlink = inr (inr (inr (inr (inr (inr (inr (inl refl)))))))
method_complete method.Bind = inr (inr (inr (inr (inr (inr (inr (inr (inl refl))))))))
method_complete method.Unbind = inr (inr (inr (inr (inr (inr (inr (inr (inr (inl refl)))))))))
method_complete method.Open = inr (inr (inr (inr (inr (inr (inr (inr (inr (inr (inl refl))))))))))
method_complete method.Close = inr (inr (inr (inr (inr (inr (inr (inr (inr (inr (inr (inl refl)))))))))))
method_complete method.Top = inr (inr (inr (inr (inr (inr (inr (inr (inr (inr (inr (inr (inl refl))))))))))))
method_complete method.Mode = inr (inr (inr (inr (inr (inr (inr (inr (inr (inr (inr (inr (inr (inl refl)))))))))))))
method_complete method.Admit = inr (inr (inr (inr (inr (inr (inr (inr (inr (inr (inr (inr (inr (inr (inl refl))))))))))))))
method_complete method.Leave = inr (inr (inr (inr (inr (inr (inr (inr (inr (inr (inr (inr (inr (inr (inr (inl refl)))))))))))))))
method_complete method.Frame = inr (inr (inr (inr (inr (inr (inr (inr (inr (inr (inr (inr (inr (inr (inr (inr (inl refl))))))))))))))))
method_complete method.Drop = inr (inr (inr (inr (inr (inr (inr (inr (inr (inr (inr (inr (inr (inr (inr (inr (inr (inl refl)))))))))))))))))

pub method_words : AreWords method_word all_methods
method_words = words_from method_word all_methods method.Set method_complete refl refl

kind_complete : (a : kind_type.Kind) → Among all_kinds a
kind_complete kind.Window = inl refl
kind_complete kind.Grid = inr (inl refl)
kind_complete kind.Frame = inr (inr (inl refl))
kind_complete kind.Button = inr (inr (inr (inl refl)))
kind_complete kind.Label = inr (inr (inr (inr (inl refl))))
kind_complete kind.Entry = inr (inr (inr (inr (inr (inl refl)))))
kind_complete kind.Scale = inr (inr (inr (inr (inr (inr (inl refl))))))
kind_complete kind.Scrollbar = inr (inr (inr (inr (inr (inr (inr (inl refl)))))))
kind_complete kind.Variable = inr (inr (inr (inr (inr (inr (inr (inr (inl refl))))))))
kind_complete kind.VScreen = inr (inr (inr (inr (inr (inr (inr (inr (inr (inl refl)))))))))

pub kind_words : AreWords kind_word all_kinds
kind_words = words_from kind_word all_kinds kind.Window kind_complete refl refl

attr_complete : (a : attr_type.Attr) → Among all_attrs a
attr_complete attr.X = inl refl
attr_complete attr.Y = inr (inl refl)
attr_complete attr.W = inr (inr (inl refl))
attr_complete attr.H = inr (inr (inr (inl refl)))
attr_complete attr.Title = inr (inr (inr (inr (inl refl))))
attr_complete attr.Text = inr (inr (inr (inr (inr (inl refl)))))
attr_complete attr.Caret = inr (inr (inr (inr (inr (inr (inl refl))))))
attr_complete attr.Cols = inr (inr (inr (inr (inr (inr (inr (inl refl)))))))
attr_complete attr.Value = inr (inr (inr (inr (inr (inr (inr (inr (inl refl))))))))
attr_complete attr.Max = inr (inr (inr (inr (inr (inr (inr (inr (inr (inl refl)))))))))
attr_complete attr.Real = inr (inr (inr (inr (inr (inr (inr (inr (inr (inr (inl refl))))))))))
attr_complete attr.View = inr (inr (inr (inr (inr (inr (inr (inr (inr (inr (inr (inl refl)))))))))))
attr_complete attr.Vert = inr (inr (inr (inr (inr (inr (inr (inr (inr (inr (inr (inr (inl refl))))))))))))

pub attr_words : AreWords attr_word all_attrs
attr_words = words_from attr_word all_attrs attr.X attr_complete refl refl

event_complete : (a : event_type.EventKind) → Among all_events a
event_complete event.Press = inl refl
event_complete event.Release = inr (inl refl)
event_complete event.Click = inr (inr (inl refl))
event_complete event.Key = inr (inr (inr (inl refl)))
event_complete event.Change = inr (inr (inr (inr (inl refl))))
event_complete event.Motion = inr (inr (inr (inr (inr (inl refl)))))
event_complete event.Move = inr (inr (inr (inr (inr (inr (inl refl))))))

pub event_words : AreWords event_word all_events
event_words = words_from event_word all_events event.Press event_complete refl refl

place_complete : (a : place_type.PlaceOption) → Among all_place_options a
place_complete place.Column = inl refl
place_complete place.Row = inr (inl refl)
place_complete place.Pad = inr (inr (inl refl))

pub place_words : AreWords place_word all_place_options
place_words = words_from place_word all_place_options place.Column place_complete refl refl

config_complete : (a : config_type.ConfigOption) → Among all_config_options a
config_complete config.Size = inl refl
config_complete config.Weight = inr (inl refl)

pub config_words : AreWords config_word all_config_options
config_words = words_from config_word all_config_options config.Size config_complete refl refl
