-- A command with each of its options once, in any order.
use Rattle.std.specs.Prelude.{◌≡◌, ◌&&◌, Bool, true, not, List, [], ◌∷◌, find, bytes_eq, Some, Option, option_map}
use Rattle.std.specs.List.{list_all, list_any}
use Rattle.clap.specs.Words.{Text}
use Rattle.cmd_words.specs.Productions.{are_digits}
use Rattle.command_line.specs.Table.{Ranged, Verb, verb_named}
use Rattle.command_line.specs.Matched.{Called, numbers_from}

-- an option's name and its value
abbrev pub Given : Type 0
Given = Text × Text

-- The words of options: two for each, `--name` and its value.
abbrev pub spelled : List Given → List Text
spelled [] = []
spelled (g ∷ gs) = (45 ∷ 45 ∷ g.0) ∷ g.1 ∷ spelled gs

abbrev pub given_value : List Given → Text → Option Text
given_value gs name = option_map (λ g. g.1) (find (λ g. bytes_eq g.0 name) gs)

abbrev pub is_among : List Given → Text → Bool
is_among gs name = list_any (λ g. bytes_eq g.0 name) gs

-- no option is given twice
abbrev pub are_once : List Given → Bool
are_once [] = true
are_once (g ∷ gs) = not (is_among gs g.0) && are_once gs

abbrev pub is_option : List Ranged → Text → Bool
is_option options name = list_any (λ o. bytes_eq o.name name) options

-- The words are the name of a command and then each of its options once, in any order, each with a number in its range.
pub record IsCall (verbs : List Verb) (words : List Text) (call : Called) : Type 0 where
  pub verb : Verb
  pub given : List Given
  pub words_are : words ≡ verb.name ∷ spelled given
  pub in_table : verb_named verbs verb.name ≡ Some verb
  pub name : call.name ≡ verb.name
  pub known : list_all (λ g. is_option verb.options g.0) given ≡ true
  pub once : are_once given ≡ true
  pub digits : list_all (λ g. are_digits g.1) given ≡ true
  pub numbers : numbers_from (given_value given) verb.options ≡ Some call.numbers
