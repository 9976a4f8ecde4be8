-- The `clap` command of a table: `dope` with a subcommand for each command, of which one is required. A subcommand has
-- exactly its options. Each is required, is given by its long name, and has one value, which is taken as text. There is
-- no option and no command for help, so a request for help is refused.
use Rattle.std.specs.Prelude.{◌≡◌, ◌⊎◌, Bool, true, false, List, [], ◌∷◌, map, codes, Some}
use Rattle.clap.specs.Words.{App, Rule, Shape, Text, fault_of, new_rule, takes}
use Rattle.clap.specs.Simple.{new_shape}
use Rattle.command_line.specs.Table.{Ranged, Verb}

abbrev pub option_rule : Text → Rule
option_rule name = record (new_rule name) { long = Some name; required = true }

abbrev pub option_rules : List Ranged → List Rule
option_rules options = map (λ o. option_rule o.name) options

abbrev pub verb_shape : Verb → Shape
verb_shape v = record (new_shape v.name) { rules = option_rules v.options }

abbrev pub top_shape : Bool → Shape
top_shape is_leaf = record (new_shape (codes "dope")) {
  is_leaf = is_leaf;
  no_binary_name = true;
  disable_help_flag = true;
  disable_help_subcommand = true;
  subcommand_required = true;
}

abbrev pub has_none : List Verb → Bool
has_none [] = true
has_none (v ∷ vs) = false

abbrev pub program : List Verb → App
program verbs = record { top = top_shape (has_none verbs); subs = map verb_shape verbs }

-- `clap` takes the words: they pass its test, or it finds no fault with them.
abbrev pub AreTaken : List Verb → List Text → Type 0
AreTaken verbs words = (takes (program verbs) words ≡ true) ⊎ (fault_of (program verbs) words ≡ [])
