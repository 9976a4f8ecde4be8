-- A kept look is seen as a look, with its texts as lists of bytes. Of a film it keeps the size alone: the film's list of
-- bytes is empty in it.
use Rattle.std.specs.Prelude.{[]}
use Rattle.look_core.specs.Seen as seen
use Rattle.look_core.specs.Seen.{Seen}
use Rattle.kind_core.specs.Effective.{label_text}
use Rattle.look_data.specs.declared.data.LookData.{LookData}
use Rattle.look_data.specs.declared.data.LookData.TheVariants.{Window, Grid, Frame, Button, Label, Entry, Scale, Scrollbar, Film, NoFilm}

-- A Label shows its text, and then its number in decimal, where it has one.
abbrev pub seen_in : LookData → Seen
seen_in (Window title) = seen.window title
seen_in Grid = seen.grid
seen_in Frame = seen.frame
seen_in (Button text held) = seen.button text held
seen_in (Label text number) = seen.label (label_text text number)
seen_in (Entry text caret focus) = seen.entry text caret focus
seen_in (Scale value max vert held) = seen.scale value max vert held
seen_in (Scrollbar value real view vert held) = seen.scrollbar value real view vert held
seen_in (Film width height) = seen.film width height []
seen_in NoFilm = seen.no_film

-- the look without its film's bytes
abbrev pub but_bytes : Seen → Seen
but_bytes (seen.film width height bytes) = seen.film width height []
but_bytes look = look
