-- The effective numbers and texts: what a widget shows and moves by, once its attributes are brought into
-- step with one another and with the Variable that it is linked to. `linked` is that Variable's value.
use Rattle.std.specs.Prelude.{ℕ, ℤ, pos, ◌-ℤ◌, int_lt, int_le, min, List, ◌++◌, Option, Some, None, unwrap_or, if◌then◌else◌}
use Rattle.std.specs.Fmt.{signed_decimal}

-- low where v is below it, high where v is above it, else v
abbrev pub clamp : ℤ → ℤ → ℤ → ℤ
clamp v low high = if int_lt v low then low else (if int_lt high v then high else v)

-- The raw number of a Scale or Scrollbar: the linked value, or its own without a link.
abbrev pub raw_value : Option ℤ → ℤ → ℤ
raw_value linked own = unwrap_or linked own

-- A Scale's value stays from 0 to its max.
abbrev pub scale_value : ℤ → ℤ → ℤ
scale_value raw max = clamp raw (pos 0) max

-- A Scrollbar's value stays from 0 to what of real its view leaves over, and is 0 where it shows all.
abbrev pub scrollbar_value : ℤ → ℤ → ℤ → ℤ
scrollbar_value raw real view = if int_le real view then pos 0 else clamp raw (pos 0) (real -ℤ view)

-- A Frame's offset down is the linked value, from 0 to 4,096, or its own `y` without a link. (Its offset to
-- the right is its own `x`.)
abbrev pub frame_offset : Option ℤ → ℤ → ℤ
frame_offset (Some value) y = clamp value (pos 0) (pos 4096)
frame_offset None y = y

-- An Entry's caret stands at most at its text's end.
abbrev pub entry_caret : ℕ → ℕ → ℕ
entry_caret caret text_length = min caret text_length

-- A Label shows its text, and then the linked value in decimal, `-` before a negative one.
abbrev pub label_text : List ℕ → Option ℤ → List ℕ
label_text text (Some value) = text ++ signed_decimal value
label_text text None = text
