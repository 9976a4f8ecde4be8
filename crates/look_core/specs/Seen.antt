-- A look as plain data: its texts are lists of bytes. This is what is compared where two looks are: a value of
-- the program holds borrowed texts, and where those lie says nothing. A film's list has the shown bytes of the
-- whole film, row by row, or, in the look that one row is drawn from, those of that row.
use Rattle.std.specs.Prelude.{ℕ, ◌+◌, ◌*◌, Bool, List, slice_range}
use Rattle.look_core.specs.declared.look.Look.{Look}
use Rattle.look_core.specs.declared.look.Look.TheVariants.{WindowLook, GridLook, FrameLook, ButtonLook, LabelLook, EntryLook, ScaleLook, ScrollLook, FilmLook, NoFilm}

pub data Seen : Type 0 where
  window : (title : List ℕ) → Seen
  grid : Seen
  frame : Seen
  button : (text : List ℕ) → (held : Bool) → Seen
  label : (shown : List ℕ) → Seen
  entry : (text : List ℕ) → (caret : ℕ) → (focus : Bool) → Seen
  scale : (value max : ℕ) → (vert held : Bool) → Seen
  scrollbar : (value real view : ℕ) → (vert held : Bool) → Seen
  film : (width height : ℕ) → (bytes : List ℕ) → Seen
  no_film : Seen

-- what the value of the program is as plain data
abbrev pub seen : Look → Seen
seen (WindowLook title) = window title.now
seen GridLook = grid
seen FrameLook = frame
seen (ButtonLook text held) = button text.now held
seen (LabelLook shown) = label shown.now
seen (EntryLook text caret focus) = entry text.now caret focus
seen (ScaleLook value max vert held) = scale value max vert held
seen (ScrollLook value real view vert held) = scrollbar value real view vert held
seen (FilmLook w h row) = film w h row.now
seen NoFilm = no_film

-- The look that row v is drawn from: of a film's bytes it has that row's alone.
unfoldable pub in_row : ℕ → Seen → Seen
in_row v (film width height bytes) = film width height (slice_range bytes (v * width) ((v + 1) * width))
in_row v look = look
