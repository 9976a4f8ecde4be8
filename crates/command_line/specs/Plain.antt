-- The plain form: a command, and then its options in the table's order, each as `--name` and a number in its range.
use Rattle.std.specs.Prelude.{◌≡◌, ◌≤◌, ◌&&◌, ℕ, Bool, true, not, List, [], ◌∷◌, Some}
use Rattle.clap.specs.Words.{Text}
use Rattle.command_line.specs.Table.{Ranged, Verb, verb_named}
use Rattle.command_line.specs.Numbers.{number_read}
use Rattle.command_line.specs.Matched.{Called}
use Rattle.command_line.specs.Given.{Given, is_option, spelled}

-- each option with its value, in order
abbrev pub in_order : List Ranged → List Text → List Given
in_order [] texts = []
in_order (o ∷ options) [] = []
in_order (o ∷ options) (t ∷ texts) = (o.name, t) ∷ in_order options texts

-- each text writes its number, in the range of its option
abbrev pub Write : List Ranged → List Text → List ℕ → Type 0
Write [] [] [] = Unit {0}
Write (o ∷ options) (t ∷ texts) (n ∷ ns) = (number_read o.least o.greatest t ≡ Some n) × Write options texts ns
Write _ _ _ = ⊥

-- each number is in the range of its option
abbrev pub AreWithin : List Ranged → List ℕ → Type 0
AreWithin [] [] = Unit {0}
AreWithin (o ∷ options) (n ∷ ns) = (o.least ≤ n) × (n ≤ o.greatest) × AreWithin options ns
AreWithin _ _ = ⊥

-- no two options have one name
abbrev pub are_apart : List Ranged → Bool
are_apart [] = true
are_apart (o ∷ options) = not (is_option options o.name) && are_apart options

pub record IsPlain (verbs : List Verb) (words : List Text) (call : Called) : Type 0 where
  pub verb : Verb
  pub texts : List Text
  pub words_are : words ≡ verb.name ∷ spelled (in_order verb.options texts)
  pub in_table : verb_named verbs verb.name ≡ Some verb
  pub name : call.name ≡ verb.name
  pub numbers : Write verb.options texts call.numbers
