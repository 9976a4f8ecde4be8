-- Which commands and inputs move nothing: each widget that is there afterwards is due the place that it was due before.
use Rattle.std.specs.Prelude.{ℕ, ℤ, ◌≡◌, Bool, true, false, not, ◌&&◌, ◌||◌, nat_eq, length, is_some, List, Some}
use Rattle.std.specs.List.{list_any}
use Rattle.std.specs.Option.{option_map_or}
use Rattle.std.specs.Str.{bytes_eq}
use Rattle.std.specs.Fmt.{signed_decimal}
use Rattle.kind_core.specs.declared.kinds.Kind.{Kind}
use Rattle.kind_core.specs.declared.kinds.Kind.TheVariants.{Entry, Frame}
use Rattle.kind_core.specs.declared.kinds.Attr.{Attr}
use Rattle.kind_core.specs.declared.kinds.Attr.TheVariants.{X, Y, W, H, Text, Cols, Value, Vert}
use Rattle.kind_core.specs.declared.values.Value as value
use Rattle.kind_core.specs.declared.values.Value.TheVariants.{Number, Words}
use Rattle.cmd_words.specs.declared.commands.Command.{Command}
use Rattle.cmd_words.specs.declared.commands.Command.TheVariants.{New, Set, Get, Bind, Unbind, OpenWindow, CloseWindow, TopWindow, Admit, Leave, SendFrame, DropWidget, Poll}
use Rattle.widget_model.specs.Rows.{Row}
use Rattle.widget_model.specs.Kinds.{is_variable_kind, is_window_kind}
use Rattle.widget_model.specs.Named.{row_named}
use Rattle.widget_model.specs.Keys.{row_of}
use Rattle.scene_model.specs.Values.{number_of, text_of}
use Rattle.scene_model.specs.DuePlaces.{due_place}
use Rattle.desk_model.specs.InPlace.{due_of, leaves_hung}
use Rattle.desk_model.specs.InputEffects.{Effects}

pub record MoveNothing (old new : List Row) : Type 0 where
  pub each : (key : ℕ × List ℕ) (row : Row) → row_of new key ≡ Some row → due_place new row ≡ due_of old key

abbrev pub is_entry : Kind → Bool
is_entry Entry = true
is_entry _ = false

-- Layout reads the numbers that place and size a widget, every text but an Entry's, and the value of a Variable.
abbrev pub is_asked : Kind → Attr → Bool
is_asked kind X = true
is_asked kind Y = true
is_asked kind W = true
is_asked kind H = true
is_asked kind Cols = true
is_asked kind Vert = true
is_asked kind Text = not (is_entry kind)
is_asked kind Value = is_variable_kind kind
is_asked kind _ = false

-- how many letters a number takes
abbrev pub letters_of : ℤ → ℕ
letters_of number = length (signed_decimal number)

abbrev pub is_frame : Kind → Bool
is_frame Frame = true
is_frame _ = false

-- whether the row is a Frame that is linked to the Variable
abbrev pub is_frame_of : Row → Row → Bool
is_frame_of variable row = is_frame row.kind && (nat_eq variable.client row.client && option_map_or (bytes_eq variable.name) row.link false)

-- Layout needs the same of the widget with the other value: a text as long as the one it has, or a Variable's number of as
-- many letters, where no Frame is linked to the Variable.
abbrev pub needs_the_same : List Row → Row → Attr → value.Value → Bool
needs_the_same rows row Text (Words text) = nat_eq (length text) (length (text_of Text row))
needs_the_same rows row Value (Number number) = nat_eq (letters_of number) (letters_of (number_of Value row)) && not (list_any (is_frame_of row) rows)
needs_the_same rows row _ _ = false

-- whether the widget, or one that is linked to it, may move when its attribute gets the value
abbrev pub value_moves : List Row → Row → Attr → value.Value → Bool
value_moves rows row attr value = is_asked row.kind attr && not (needs_the_same rows row attr value)

-- Reading, a new widget that is no Window, opening, closing and raising a window, binding and polling events, frames,
-- admissions, taking a widget away, and setting what layout doesn't read, or what it needs as much room for as before, move nothing;
-- any other command may.
abbrev pub may_move : List Row → ℕ → Command → Bool
may_move rows client (New name kind) = is_window_kind kind
may_move rows client (Set name options) = option_map_or (λ row. list_any (λ option. value_moves rows row option.0 option.1) options) (row_named rows client name) false
may_move rows client (Get name attr) = false
may_move rows client (Bind name event tag) = false
may_move rows client (Unbind name event) = false
may_move rows client (OpenWindow name) = false
may_move rows client (CloseWindow name) = false
may_move rows client (TopWindow name) = false
may_move rows client (Admit name period) = false
may_move rows client (Leave name) = false
may_move rows client (SendFrame name size) = false
may_move rows client (DropWidget name) = false
may_move rows client Poll = false
may_move rows client _ = true

-- whether the command, where it is done, may change what is where on the screen
abbrev pub moves : List Row → ℕ → Command → Bool
moves rows client command = may_move rows client command || not (leaves_hung command)

-- the same of an input: it moves a Window, or gives a value that moves something
abbrev pub effects_move : List Row → Effects → Bool
effects_move rows effects =
    is_some effects.moved
    || option_map_or (λ set. option_map_or (λ row. value_moves rows row Value (Number set.1)) (row_of rows set.0) false) effects.value false
