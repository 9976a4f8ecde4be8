-- Whether two looks are the same: they are of one kind, and equal in all that its cases read.
use Rattle.std.specs.Prelude.{Bool, true, false, not, ◌&&◌, ◌==◌, if◌then◌else◌}
use Rattle.std.specs.Str.{bytes_eq}
use Rattle.look_core.specs.Seen.{Seen, window, grid, frame, button, label, entry, scale, scrollbar, film, no_film}

abbrev pub same_flag : Bool → Bool → Bool
same_flag a b = if a then b else not b

unfoldable pub same_look : Seen → Seen → Bool
same_look (window title) (window title') = bytes_eq title title'
same_look grid grid = true
same_look frame frame = true
same_look (button text held) (button text' held') = bytes_eq text text' && same_flag held held'
same_look (label shown) (label shown') = bytes_eq shown shown'
same_look (entry text caret focus) (entry text' caret' focus') =
    bytes_eq text text' && (caret == caret' && same_flag focus focus')
same_look (scale value max vert held) (scale value' max' vert' held') =
    value == value' && (max == max' && (same_flag vert vert' && same_flag held held'))
same_look (scrollbar value real view vert held) (scrollbar value' real' view' vert' held') =
    value == value' && (real == real' && (view == view' && (same_flag vert vert' && same_flag held held')))
same_look (film width height bytes) (film width' height' bytes') =
    width == width' && (height == height' && bytes_eq bytes bytes')
same_look no_film no_film = true
same_look _ _ = false
