-- What a row's attributes are: numbers and texts, and with a link the number of its Variable.
use Rattle.std.specs.Prelude.{ℕ, ℤ, pos, List, [], length, Bool, int_lt, Option, Some, None, unsigned_abs}
use Rattle.std.specs.Option.{option_map, option_and_then}
use Rattle.kind_core.specs.declared.kinds.Attr.{Attr}
use Rattle.kind_core.specs.declared.kinds.Attr.TheVariants.{X, Y, Text, Caret, Value, Max, Real, View, Vert}
use Rattle.kind_core.specs.declared.values.Value as value
use Rattle.kind_core.specs.declared.values.Value.TheVariants.{Number, Words}
use Rattle.kind_core.specs.Effective.{raw_value, scale_value, scrollbar_value, frame_offset, entry_caret, label_text}
use Rattle.widget_model.specs.Rows.{Row, attr_of}
use Rattle.widget_model.specs.Named.{row_named}
use Rattle.scene_model.specs.declared.axis.Axis.{Axis}
use Rattle.scene_model.specs.declared.axis.Axis.TheVariants.{Across, Down}

-- the number that a value is, 0 where it is none
abbrev pub number_in : Option value.Value → ℤ
number_in None = pos 0
number_in (Some (Number n)) = n
number_in (Some (Words text)) = pos 0

-- the text that a value is, empty where it is none
abbrev pub text_in : Option value.Value → List ℕ
text_in None = []
text_in (Some (Number n)) = []
text_in (Some (Words text)) = text

abbrev pub number_of : Attr → Row → ℤ
number_of attr row = number_in (attr_of row attr)

-- the same of a number that isn't negative
abbrev pub count_of : Attr → Row → ℕ
count_of attr row = unsigned_abs (number_of attr row)

abbrev pub text_of : Attr → Row → List ℕ
text_of attr row = text_in (attr_of row attr)

-- the value of the Variable that the row is linked to
unfoldable pub linked_value : List Row → Row → Option ℤ
linked_value rows row = option_map (number_of Value) (option_and_then (row_named rows row.client) row.link)

-- whether a Scale or Scrollbar goes down in place of across
abbrev pub is_vertical : Row → Bool
is_vertical row = int_lt (pos 0) (number_of Vert row)

-- what a Label shows
abbrev pub label_of : List Row → Row → List ℕ
label_of rows row = label_text (text_of Text row) (linked_value rows row)

-- the value that a Scale shows, and the one that a Scrollbar shows
abbrev pub scale_of : List Row → Row → ℤ
scale_of rows row = scale_value (raw_value (linked_value rows row) (number_of Value row)) (number_of Max row)

abbrev pub scrollbar_of : List Row → Row → ℤ
scrollbar_of rows row = scrollbar_value (raw_value (linked_value rows row) (number_of Value row)) (number_of Real row) (number_of View row)

-- where an Entry's caret stands, in bytes of its text
abbrev pub caret_of : Row → ℕ
caret_of row = entry_caret (count_of Caret row) (length (text_of Text row))

-- by how much a Frame's child is moved to the left, or up
abbrev pub offset_of : Axis → List Row → Row → ℤ
offset_of Across rows row = number_of X row
offset_of Down rows row = frame_offset (linked_value rows row) (number_of Y row)
