-- What building makes of a table's `clap` command, and that the command is simple.
use Rattle.std.proofs.Common.{◌≡◌, ◌∙◌, ◌&&◌, ℕ, true, false, not, List, [], ◌∷◌, map, refl, ap, ap₂, count_by}
use Rattle.std.specs.List.{list_all, list_any}
use Rattle.std.specs.Option.{is_some}
use Rattle.clap.specs.Walk.{Rule, Text, is_early_multiple}
use Rattle.clap.specs.Simple.{App, Shape, built, built_leaf, filled, filled_from, inherited, is_ready_leaf, is_simple, is_simple_leaf, marked_built, new_shape}
use Rattle.clap.specs.Faults.{has_free_rules, is_free_app, is_simple_and_free}
use Rattle.command_line.specs.Table.{Ranged, Verb}
use Rattle.command_line.specs.Program.{option_rule, option_rules, program, top_shape, verb_shape}

abbrev pub built_rule : Text → Rule
built_rule name = filled (option_rule name)

abbrev pub built_rules : List Ranged → List Rule
built_rules options = map (λ o. built_rule o.name) options

abbrev pub built_top : Shape
built_top = record (top_shape false) { is_built = true }

abbrev pub built_verb : Verb → Shape
built_verb v = record (new_shape v.name) {
  rules = built_rules v.options;
  no_binary_name = true;
  disable_help_flag = true;
  disable_help_subcommand = true;
  is_built = true;
}

abbrev pub built_program : List Verb → App
built_program verbs = record { top = built_top; subs = map built_verb verbs }

rules_built : (options : List Ranged) → filled_from 1 (option_rules options) ≡ built_rules options
rules_built [] = refl
rules_built (o ∷ options) = ap (λ rules. built_rule o.name ∷ rules) (rules_built options)

verb_built : (v : Verb) → built_leaf (inherited (marked_built (top_shape false)) (verb_shape v)) ≡ built_verb v
verb_built v = ap (λ rules. record (built_verb v) { rules = rules }) (rules_built v.options)

verbs_built : (verbs : List Verb) → map built_leaf (map (inherited (marked_built (top_shape false))) (map verb_shape verbs)) ≡ map built_verb verbs
verbs_built [] = refl
verbs_built (v ∷ vs) = ap₂ (λ s ss. s ∷ ss) (verb_built v) (verbs_built vs)

pub program_built : (v : Verb) (vs : List Verb) → built (program (v ∷ vs)) ≡ built_program (v ∷ vs)
program_built v vs = ap (λ subs. record { top = built_top; subs = subs }) (verbs_built (v ∷ vs))

-- ---- the command is simple

rules_simple : (options : List Ranged) → list_all (λ r. r.is_simple) (option_rules options) ≡ true
rules_simple [] = refl
rules_simple (o ∷ options) = rules_simple options

built_simple : (options : List Ranged) → list_all (λ r. r.is_simple) (built_rules options) ≡ true
built_simple [] = refl
built_simple (o ∷ options) = built_simple options

none_early : (n : ℕ) (options : List Ranged) → list_any (is_early_multiple n) (built_rules options) ≡ false
none_early n [] = refl
none_early n (o ∷ options) = none_early n options

shapes_simple : (verbs : List Verb) → list_all is_simple_leaf (map verb_shape verbs) ≡ true
shapes_simple [] = refl
shapes_simple (v ∷ vs) = ap₂ (λ a b. a && b) (rules_simple v.options) (shapes_simple vs)

verb_ready : (v : Verb) → is_ready_leaf (built_verb v) ≡ true
verb_ready v = ap₂ (λ a b. a && not b) (built_simple v.options) (none_early (count_by (λ r. is_some r.index) (built_rules v.options)) v.options)

verbs_ready : (verbs : List Verb) → list_all is_ready_leaf (map built_verb verbs) ≡ true
verbs_ready [] = refl
verbs_ready (v ∷ vs) = ap₂ (λ a b. a && b) (verb_ready v) (verbs_ready vs)

pub some_simple : (v : Verb) (vs : List Verb) → is_simple (program (v ∷ vs)) ≡ true
some_simple v vs = ap₂ (λ a b. a && b) (shapes_simple (v ∷ vs)) (ap (λ subs. list_all is_ready_leaf subs) (verbs_built (v ∷ vs)) ∙ verbs_ready (v ∷ vs))

-- ---- no option has a rule on another

pub rules_free : (options : List Ranged) → list_all (λ r. r.is_free) (built_rules options) ≡ true
rules_free [] = refl
rules_free (o ∷ options) = rules_free options

verbs_free : (verbs : List Verb) → list_all has_free_rules (map built_verb verbs) ≡ true
verbs_free [] = refl
verbs_free (v ∷ vs) = ap₂ (λ a b. a && b) (rules_free v.options) (verbs_free vs)

pub program_free : (verbs : List Verb) → is_simple_and_free (program verbs) ≡ true
program_free [] = refl
program_free (v ∷ vs) = ap₂ (λ a b. a && b) (some_simple v vs) (ap is_free_app (program_built v vs) ∙ verbs_free (v ∷ vs))

pub program_simple : (verbs : List Verb) → is_simple (program verbs) ≡ true
program_simple [] = refl
program_simple (v ∷ vs) = some_simple v vs
