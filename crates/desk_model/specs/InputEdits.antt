-- The edits that a key makes in an Entry, and where a press puts its caret. A caret stands behind that many bytes.
use Rattle.std.specs.Prelude.{ℕ, ℤ, pos, ◌+◌, ◌-◌, ◌/◌, ◌-ℤ◌, min, ◌&&◌, nat_eq, nat_lt, int_lt, unsigned_abs, List, length, Option, Some, None, if◌then◌else◌}
use Rattle.std.specs.List.{insert, remove}
use Rattle.kind_core.specs.Bytes.{is_printable}

pub record Edit : Type 0 where
  -- the text after it, none where it stays
  pub text : Option (List ℕ)
  -- where the caret is after it
  pub caret : ℕ

-- The byte is put at the caret, which goes behind it.
abbrev pub typed : ℕ → List ℕ → ℕ → Edit
typed byte text caret = record { text = Some (insert text caret byte); caret = caret + 1 }

-- The byte before the caret is taken out.
abbrev pub erased : List ℕ → ℕ → Edit
erased text caret = record { text = Some (remove text (caret - 1)); caret = caret - 1 }

-- The caret goes a byte to the left, or to the right.
abbrev pub stepped_back : ℕ → Edit
stepped_back caret = record { text = None; caret = caret - 1 }

abbrev pub stepped_on : ℕ → Edit
stepped_on caret = record { text = None; caret = caret + 1 }

-- The edit of a key's byte. One that prints is typed where the text has fewer than 64 bytes; 8 erases and 2 steps back
-- where the caret isn't at the text's start; 6 steps on where it isn't at its end. In every other case there is none.
unfoldable pub edit_of : ℕ → List ℕ → ℕ → Option Edit
edit_of byte text caret =
    if is_printable byte && nat_lt (length text) 64 then Some (typed byte text caret)
    else if nat_eq byte 8 && nat_lt 0 caret then Some (erased text caret)
    else if nat_eq byte 2 && nat_lt 0 caret then Some (stepped_back caret)
    else if nat_eq byte 6 && nat_lt caret (length text) then Some (stepped_on caret)
    else None

-- The caret that a press at the local column u gives: letters are 6 wide and begin at column 2.
unfoldable pub caret_at : ℤ → ℕ → ℕ
caret_at u text_length = if int_lt u (pos 2) then 0 else min text_length (unsigned_abs (u -ℤ pos 2) / 6)
