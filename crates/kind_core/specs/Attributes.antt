-- The table of attributes: which kind has which, of what type, in which range, and with which default.
use Rattle.std.specs.Prelude.{ℕ, ℤ, pos, neg_ℤ, Bool, ◌&&◌, int_le, [], Option, Some, None, Result, Ok, Err, if◌then◌else◌}
use Rattle.kind_core.specs.declared.kinds.Kind.{Kind}
use Rattle.kind_core.specs.declared.kinds.Kind.TheVariants.{Window, Frame, Button, Label, Entry, Scale, Scrollbar, Variable}
use Rattle.kind_core.specs.declared.kinds.Attr.{Attr}
use Rattle.kind_core.specs.declared.kinds.Attr.TheVariants.{X, Y, W, H, Title, Text, Caret, Cols, Value, Max, Real, View, Vert}
use Rattle.kind_core.specs.declared.values.Value as value
use Rattle.kind_core.specs.declared.values.Value.TheVariants.{Number, Words}
use Rattle.kind_core.specs.declared.domains.Domain.{Domain}
use Rattle.kind_core.specs.declared.domains.Domain.TheVariants.{Numbers, Texts, Absent}
use Rattle.kind_core.specs.Bytes.{is_text}
use Rattle.kind_core.specs.declared.values.AttrRefusal.{AttrRefusal}
use Rattle.kind_core.specs.declared.values.AttrRefusal.TheVariants.{NotOfKind, OutOfRange}

-- `minus 1024` is -1024
abbrev pub minus : ℕ → ℤ
minus n = neg_ℤ (pos n)

-- The table. Numbers least greatest default: the attribute is a number of that range. Texts: it is a text,
-- which is empty at first. Absent: the kind has no such attribute.
abbrev pub domain_of : Kind → Attr → Domain
domain_of Window X = Numbers (minus 1024) (pos 1024) (pos 0)
domain_of Window Y = Numbers (minus 1024) (pos 1024) (pos 0)
domain_of Window W = Numbers (pos 16) (pos 1024) (pos 160)
domain_of Window H = Numbers (pos 16) (pos 1024) (pos 120)
domain_of Window Title = Texts
domain_of Frame X = Numbers (pos 0) (pos 4096) (pos 0)
domain_of Frame Y = Numbers (pos 0) (pos 4096) (pos 0)
domain_of Button Text = Texts
domain_of Label Text = Texts
domain_of Entry Text = Texts
domain_of Entry Caret = Numbers (pos 0) (pos 64) (pos 0)
domain_of Entry Cols = Numbers (pos 1) (pos 64) (pos 16)
domain_of Scale Value = Numbers (pos 0) (pos 10000) (pos 0)
domain_of Scale Max = Numbers (pos 1) (pos 10000) (pos 100)
domain_of Scrollbar Value = Numbers (pos 0) (pos 10000) (pos 0)
domain_of Scrollbar Real = Numbers (pos 1) (pos 10000) (pos 100)
domain_of Scrollbar View = Numbers (pos 1) (pos 10000) (pos 10)
domain_of Scale Vert = Numbers (pos 0) (pos 1) (pos 0)
domain_of Scrollbar Vert = Numbers (pos 0) (pos 1) (pos 0)
domain_of Variable Value = Numbers (minus 1000000) (pos 1000000) (pos 0)
domain_of _ _ = Absent

-- from low to high
abbrev pub in_range : ℤ → ℤ → ℤ → Bool
in_range low high n = int_le low n && int_le n high

-- How the table takes a value. The kind hasn't the attribute, or it has the other type: NotOfKind. A number is outside
-- its range: OutOfRange with the range. Bytes that make no text are none of its type.
abbrev pub judged : Domain → value.Value → Result (Unit {0}) AttrRefusal
judged (Numbers least greatest _) (Number n) = if in_range least greatest n then Ok tt else Err (OutOfRange least greatest)
judged (Numbers _ _ _) (Words _) = Err NotOfKind
judged Texts (Words text) = if is_text text then Ok tt else Err NotOfKind
judged Texts (Number _) = Err NotOfKind
judged Absent _ = Err NotOfKind

-- the default, where the kind has the attribute
abbrev pub first_value : Domain → Option value.Value
first_value (Numbers _ _ default) = Some (Number default)
first_value Texts = Some (Words [])
first_value Absent = None
