-- The looks: the palette number of the pixel (u, v) of a widget of w by h. Of each kind's cases the first that
-- holds decides.
use Rattle.std.specs.Prelude.{ℕ, ◌+◌, ◌*◌, nat_le, nat_lt, Bool, ◌&&◌, ◌||◌, ◌==◌, if◌then◌else◌, List, slice_index}
use Rattle.look_core.specs.declared.palette.TheConstants.{INK, GROUND, LINE, TITLE_GROUND, TITLE_INK, FACE, HELD_FACE, TROUGH, KNOB, HELD_KNOB, ENTRY_GROUND, FOCUS, FILM_GROUND}
use Rattle.look_core.specs.Ink.{is_ink}
use Rattle.look_core.specs.Knob.{trough_length, trough_place, is_on_knob, is_on_line, scale_knob, scrollbar_knob}

-- the first or the last of so many columns or rows
abbrev pub is_side : ℕ → ℕ → Bool
is_side count t = t == 0 || t + 1 == count

-- An edge pixel is in the first or last column or row.
abbrev pub is_edge : ℕ → ℕ → ℕ → ℕ → Bool
is_edge w h u v = is_side w u || is_side h v

-- A Window's title has the upper 12 rows.
abbrev pub is_title_row : ℕ → Bool
is_title_row v = nat_lt v 12

-- Window: the edge; the title's ink; the title's ground; the ground.
unfoldable pub window_colour : List ℕ → ℕ → ℕ → ℕ → ℕ → ℕ
window_colour title w h u v =
    if is_edge w h u v then LINE else
    (if is_title_row v && is_ink title 3 2 u v then TITLE_INK else
    (if is_title_row v then TITLE_GROUND else GROUND))

-- Label: the ink of what it shows; the ground.
unfoldable pub label_colour : List ℕ → ℕ → ℕ → ℕ
label_colour shown u v = if is_ink shown 2 2 u v then INK else GROUND

abbrev pub face_colour : Bool → ℕ
face_colour held = if held then HELD_FACE else FACE

-- Button: the edge; its text's ink; its face, which is another while it is held.
unfoldable pub button_colour : List ℕ → Bool → ℕ → ℕ → ℕ → ℕ → ℕ
button_colour text held w h u v =
    if is_edge w h u v then LINE else
    (if is_ink text 4 4 u v then INK else face_colour held)

abbrev pub entry_edge_colour : Bool → ℕ
entry_edge_colour focus = if focus then FOCUS else LINE

-- The caret of an Entry with the focus stands before the letter of its number, in the rows of the letters.
abbrev pub caret_column : ℕ → ℕ
caret_column caret = 2 + 6 * caret

abbrev pub is_on_caret : ℕ → Bool → ℕ → ℕ → Bool
is_on_caret caret focus u v = focus && (u == caret_column caret && (nat_le 2 v && nat_le v 9))

-- Entry: the edge, which is another with the focus; the caret; its text's ink; the ground.
unfoldable pub entry_colour : List ℕ → ℕ → Bool → ℕ → ℕ → ℕ → ℕ → ℕ
entry_colour text caret focus w h u v =
    if is_edge w h u v then entry_edge_colour focus else
    (if is_on_caret caret focus u v then FOCUS else
    (if is_ink text 2 2 u v then INK else ENTRY_GROUND))

abbrev pub knob_colour : Bool → ℕ
knob_colour held = if held then HELD_KNOB else KNOB

-- Scale: the knob, which is another while it is held; the line; the trough.
unfoldable pub scale_colour : ℕ → ℕ → Bool → Bool → ℕ → ℕ → ℕ → ℕ → ℕ
scale_colour value max vert held w h u v =
    if is_on_knob (scale_knob (trough_length vert w h) value max) (trough_place vert u v)
    then knob_colour held else
    (if is_on_line vert w h u v then LINE else TROUGH)

-- Scrollbar: the knob, which is another while it is held; the trough.
unfoldable pub scrollbar_colour : ℕ → ℕ → ℕ → Bool → Bool → ℕ → ℕ → ℕ → ℕ → ℕ
scrollbar_colour value real view vert held w h u v =
    if is_on_knob (scrollbar_knob (trough_length vert w h) value real view) (trough_place vert u v)
    then knob_colour held else TROUGH

-- VScreen with a film of width by height, `row` being the bytes of its row v: the byte, inside the film; the
-- ground.
unfoldable pub film_colour : ℕ → ℕ → List ℕ → ℕ → ℕ → ℕ
film_colour width height row u v = if nat_lt u width && nat_lt v height then slice_index row u else FILM_GROUND
