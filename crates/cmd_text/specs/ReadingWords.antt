-- Inner words of the proofs: how the words of kinds, attributes, events, options and methods are read.
use Rattle.std.specs.Prelude.{ℕ, min, List, [], ◌∷◌, length, Result, Ok, Err}
use Rattle.kind_core.specs.declared.kinds.Kind.{Kind}
use Rattle.kind_core.specs.declared.kinds.Kind.TheVariants as kinds
use Rattle.kind_core.specs.declared.kinds.Attr.{Attr}
use Rattle.kind_core.specs.declared.kinds.Attr.TheVariants as attrs
use Rattle.kind_core.specs.declared.kinds.EventKind.{EventKind}
use Rattle.kind_core.specs.declared.kinds.EventKind.TheVariants as events
use Rattle.cmd_words.specs.declared.commands.PlaceOption.{PlaceOption}
use Rattle.cmd_words.specs.declared.commands.PlaceOption.TheVariants.{Column, Row, Pad}
use Rattle.cmd_words.specs.declared.commands.ConfigOption.{ConfigOption}
use Rattle.cmd_words.specs.declared.commands.ConfigOption.TheVariants.{Size, Weight}
use Rattle.cmd_words.specs.declared.methods.Method.{Method}
use Rattle.cmd_words.specs.declared.methods.Method.TheVariants as method
use Rattle.cmd_words.specs.Words.{kind_word, attr_word, event_word, place_word, config_word, method_word}
use Rattle.cmd_text.specs.Reading.{◌>>=◌, expect_at}

-- all that a word may mean
abbrev pub all_methods : List Method
all_methods = method.Set ∷ method.Get ∷ method.Place ∷ method.Lift ∷ method.ColumnConfig ∷ method.RowConfig ∷ method.Link ∷ method.Unlink ∷ method.Bind ∷ method.Unbind ∷ method.Open ∷ method.Close ∷ method.Top ∷ method.Mode ∷ method.Admit ∷ method.Leave ∷ method.Frame ∷ method.Drop ∷ []

abbrev pub all_kinds : List Kind
all_kinds = kinds.Window ∷ kinds.Grid ∷ kinds.Frame ∷ kinds.Button ∷ kinds.Label ∷ kinds.Entry ∷ kinds.Scale ∷ kinds.Scrollbar ∷ kinds.Variable ∷ kinds.VScreen ∷ []

abbrev pub all_attrs : List Attr
all_attrs = attrs.X ∷ attrs.Y ∷ attrs.W ∷ attrs.H ∷ attrs.Title ∷ attrs.Text ∷ attrs.Caret ∷ attrs.Cols ∷ attrs.Value ∷ attrs.Max ∷ attrs.Real ∷ attrs.View ∷ attrs.Vert ∷ []

abbrev pub all_events : List EventKind
all_events = events.Press ∷ events.Release ∷ events.Click ∷ events.Key ∷ events.Change ∷ events.Motion ∷ events.Move ∷ []

abbrev pub all_place_options : List PlaceOption
all_place_options = Column ∷ Row ∷ Pad ∷ []

abbrev pub all_config_options : List ConfigOption
all_config_options = Size ∷ Weight ∷ []

-- the first success, else the failure that is farther on
abbrev pub or_nearer : {A : Type 0} → Result A ℕ → Result A ℕ → Result A ℕ
or_nearer (Ok x) _ = Ok x
or_nearer (Err left) (Ok x) = Ok x
or_nearer (Err left) (Err other) = Err (min left other)

-- one of some words
abbrev pub pick_at : {A : Type 0} → (A → List ℕ) → List A → List ℕ → Result (A × List ℕ) ℕ
pick_at word_of [] xs = Err (length xs)
pick_at word_of (a ∷ all) xs = or_nearer (expect_at (word_of a) xs >>= λ rest. Ok (a, rest)) (pick_at word_of all xs)

unfoldable pub kind_at : List ℕ → Result (Kind × List ℕ) ℕ
kind_at xs = pick_at kind_word all_kinds xs

unfoldable pub attr_at : List ℕ → Result (Attr × List ℕ) ℕ
attr_at xs = pick_at attr_word all_attrs xs

unfoldable pub event_at : List ℕ → Result (EventKind × List ℕ) ℕ
event_at xs = pick_at event_word all_events xs

unfoldable pub place_option_at : List ℕ → Result (PlaceOption × List ℕ) ℕ
place_option_at xs = pick_at place_word all_place_options xs

unfoldable pub config_option_at : List ℕ → Result (ConfigOption × List ℕ) ℕ
config_option_at xs = pick_at config_word all_config_options xs

unfoldable pub method_at : List ℕ → Result (Method × List ℕ) ℕ
method_at xs = pick_at method_word all_methods xs
