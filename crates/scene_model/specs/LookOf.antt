-- What each widget of a scene looks like: all that its pixels are made from, but for its size.
use Rattle.std.specs.Prelude.{ℕ, Bool, false, List, unsigned_abs}
use Rattle.std.specs.Option.{option_map_or}
use Rattle.kind_core.specs.declared.kinds.Kind.{Kind}
use Rattle.kind_core.specs.declared.kinds.Kind.TheVariants.{Window, Grid, Frame, Button, Label, Entry, Scale, Scrollbar, Variable, VScreen}
use Rattle.kind_core.specs.declared.kinds.Attr.TheVariants.{Title, Text, Max, Real, View}
use Rattle.look_core.specs.Seen as seen
use Rattle.look_core.specs.Seen.{Seen}
use Rattle.widget_model.specs.Rows.{Row}
use Rattle.widget_model.specs.Keys.{key_of, same_key}
use Rattle.widget_model.specs.Pointer.{Grab, no_grab, on_widget, drags}
use Rattle.scene_model.specs.Scene.{Scene}
use Rattle.scene_model.specs.Values.{count_of, text_of, label_of, scale_of, scrollbar_of, caret_of, is_vertical}

-- whether the pointer has grabbed the widget with this key
abbrev pub grabs : Grab → ℕ × List ℕ → Bool
grabs no_grab key = false
grabs (on_widget widget) key = same_key key widget
grabs (drags window dx dy) key = false

abbrev pub is_held : Scene → Row → Bool
is_held scene row = grabs scene.pointer.grab (key_of row)

-- whether keys go to the widget
abbrev pub has_focus : Scene → Row → Bool
has_focus scene row = option_map_or (same_key (key_of row)) scene.pointer.focus false

-- the look of a row of this kind. A Variable is never shown.
abbrev pub look_by : Kind → Scene → Row → Seen
look_by Window scene row = seen.window (text_of Title row)
look_by Grid scene row = seen.grid
look_by Frame scene row = seen.frame
look_by Button scene row = seen.button (text_of Text row) (is_held scene row)
look_by Label scene row = seen.label (label_of scene.rows row)
look_by Entry scene row = seen.entry (text_of Text row) (caret_of row) (has_focus scene row)
look_by Scale scene row =
    seen.scale (unsigned_abs (scale_of scene.rows row)) (count_of Max row) (is_vertical row) (is_held scene row)
look_by Scrollbar scene row =
    seen.scrollbar (unsigned_abs (scrollbar_of scene.rows row)) (count_of Real row) (count_of View row) (is_vertical row) (is_held scene row)
look_by VScreen scene row = option_map_or (λ film. seen.film film.width film.height film.shown) row.film seen.no_film
look_by Variable scene row = seen.no_film

unfoldable pub look_of : Scene → Row → Seen
look_of scene row = look_by row.kind scene row
