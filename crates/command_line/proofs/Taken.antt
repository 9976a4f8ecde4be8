-- `clap` takes a command with each of its options once, and its matches are what was given.
use Rattle.std.proofs.Common.{◌≡◌, ◌∙◌, ◌&&◌, ◌||◌, ℕ, Bool, true, false, not, List, [], ◌∷◌, ◌++◌, map, length, Some, refl, sym, ap, ap₂, cond, fold, find, bytes_eq, codes, option_map, option_and_then, nat_le}
use Rattle.std.specs.List.{list_all}
use Rattle.std.specs.Option.{is_some}
use Rattle.std.proofs.lemmas.Bool.{and_parts}
use Rattle.clap.specs.Walk.{Held, Names, Row, Rule, Text, Walk, answers_to, finished, nothing_held, settled, walk, walk_from, walked, with_default, first_of, has_row}
use Rattle.clap.specs.Takes.{default_passes, entered_passes, built_takes, is_valid, level_passes, settle_passes, takes, turn_passes, walk_passes}
use Rattle.clap.specs.Simple.{App, Shape, entered, label_of, names_of, rows_at, subcommand_of}
use Rattle.clap.proofs.WalkLemmas.{walk_stopped}
use Rattle.command_line.specs.Table.{Ranged, Verb, verb_named}
use Rattle.command_line.specs.Program.{program}
use Rattle.command_line.specs.Matched.{Called, called, called_in, numbers_from}
use Rattle.command_line.specs.Given.{Given, IsCall, given_value, spelled}
use Rattle.command_line.specs.Fit.{is_fit}
use Rattle.command_line.proofs.Built.{built_program, built_rule, built_rules, built_top, built_verb, program_built, rules_free, some_simple}
use Rattle.command_line.proofs.Tests.{found_has, none_some}
use Rattle.command_line.proofs.Walks.{AllSuit, AreNew, Holds, given_passes, given_row, given_walked, held_after, holds_after}
use Rattle.command_line.proofs.Suiting.{all_new, all_suit, apart_from_none, required_given, value_in_rows}

-- ---- the end of a walk

defaults_pass : (options : List Ranged) → list_all default_passes (built_rules options) ≡ true
defaults_pass [] = refl
defaults_pass (o ∷ options) = defaults_pass options

no_default : (name : Text) (rows : List Row) → with_default rows (built_rule name) ≡ rows
no_default name rows = go (has_row name rows)
  where
    go : (b : Bool) → cond b rows rows ≡ rows
    go true = refl
    go false = refl

no_defaults : (options : List Ranged) (rows : List Row) → fold with_default rows (built_rules options) ≡ rows
no_defaults [] rows = refl
no_defaults (o ∷ options) rows = ap (λ rs. fold with_default rs (built_rules options)) (no_default o.name rows) ∙ no_defaults options rows

-- ---- a subcommand

-- the options of a command are each given once, with these numbers
pub record Fills (v : Verb) (gs : List Given) (ns : List ℕ) : Type 0 where
  pub suit : AllSuit (built_rules v.options) gs
  pub new : AreNew [] gs
  pub numbers : numbers_from (given_value gs) v.options ≡ Some ns

begins : (c : List Rule) → Holds c [] nothing_held
begins c = record { rows = refl; passes = refl }

module _ (v : Verb) (gs : List Given) (ns : List ℕ) (fills : Fills v gs ns) where
  abbrev rules : List Rule
  rules = built_rules v.options

  abbrev last : Held
  last = held_after rules gs nothing_held

  holds_last : Holds rules gs last
  holds_last = holds_after rules [] gs nothing_held (begins rules) fills.suit fills.new

  walk_is : walk rules [] nothing_held (spelled gs) ≡ walk_from last
  walk_is = given_walked rules gs nothing_held fills.suit

  finished_is : finished rules last ≡ map given_row gs
  finished_is = no_defaults v.options (settled rules last).rows ∙ holds_last.rows

  valid : is_valid (built_verb v) (map given_row gs) false ≡ true
  valid = ap₂ (λ x y. x && y) (rules_free v.options) (required_given gs v.options ns fills.numbers)

  pub verb_passes : level_passes (built_verb v) [] nothing_held (spelled gs) false ≡ true
  verb_passes =
      let words = given_passes (built_verb v) [] gs nothing_held refl (begins rules) fills.suit fills.new in
      ap (λ (w : Walk). walk_passes (built_verb v) [] (walk_from nothing_held) (spelled gs) && (settle_passes rules false w.held
      && (list_all default_passes rules && is_valid (built_verb v) (finished rules w.held) false))) walk_is
      ∙ ap₂ (λ x y. x && y) words (ap₂ (λ x y. x && y) holds_last.passes
      (ap₂ (λ x y. x && y) (defaults_pass v.options) (ap (λ rows. is_valid (built_verb v) rows false) finished_is ∙ valid)))

  pub verb_rows : rows_at (built_verb v) (spelled gs) ≡ (v.name, map given_row gs)
  verb_rows = ap (λ (w : Walk). (v.name, finished rules w.held)) walk_is ∙ ap (λ rows. (v.name, rows)) finished_is

-- ---- the first word

abbrev pub names : List Verb → Names
names verbs = map label_of (map built_verb verbs)

label_found : (verbs : List Verb) (word : Text) (v : Verb) → verb_named verbs word ≡ Some v → find (answers_to word) (names verbs) ≡ Some (v.name, [])
label_found [] word v e = absurd (none_some v e)
label_found (x ∷ xs) word v e = go (label_found xs word v) (bytes_eq x.name word) refl e
  where
    go : (verb_named xs word ≡ Some v → find (answers_to word) (names xs) ≡ Some (v.name, [])) → (b : Bool) → bytes_eq x.name word ≡ b
        → cond b (Some x) (verb_named xs word) ≡ Some v → find (answers_to word) (names (x ∷ xs)) ≡ Some (v.name, [])
    go ih true is h = rw is (ap (option_map (λ (y : Verb). (y.name, []))) h)
    go ih false is h = rw is (ih h)

shape_found : (verbs : List Verb) (word : Text) (v : Verb) → verb_named verbs word ≡ Some v → find (λ s. answers_to word (label_of s)) (map built_verb verbs) ≡ Some (built_verb v)
shape_found [] word v e = absurd (none_some v e)
shape_found (x ∷ xs) word v e = go (shape_found xs word v) (bytes_eq x.name word) refl e
  where
    go : (verb_named xs word ≡ Some v → find (λ s. answers_to word (label_of s)) (map built_verb xs) ≡ Some (built_verb v)) → (b : Bool) → bytes_eq x.name word ≡ b
        → cond b (Some x) (verb_named xs word) ≡ Some v → find (λ s. answers_to word (label_of s)) (map built_verb (x ∷ xs)) ≡ Some (built_verb v)
    go ih true is h = rw is (ap (option_map built_verb) h)
    go ih false is h = rw is (ih h)

abbrev stopped_at : Text → List Text → Walk
stopped_at name seen = record (walk_from nothing_held) { stopped = Some (name, seen) }

stopped_passes : (s : Shape) (ns : Names) (name : Text) (seen words : List Text) → walk_passes s ns (stopped_at name seen) words ≡ true
unfolding walk_passes walked
stopped_passes s ns name seen [] = refl
stopped_passes s ns name seen (w ∷ ws) = stopped_passes s ns name (seen ++ w ∷ []) ws

no_help : (b : Bool) → ((b || true) && true) ≡ true
no_help true = refl
no_help false = refl

module _ (verbs : List Verb) (v : Verb) (in_table : verb_named verbs v.name ≡ Some v) where
  first_walked : walked [] (names verbs) (walk_from nothing_held) v.name ≡ stopped_at v.name []
  unfolding walked
  first_walked = rw (label_found verbs v.name v in_table) refl

  top_walked : (rest : List Text) → walk [] (names verbs) nothing_held (v.name ∷ rest) ≡ stopped_at v.name rest
  top_walked rest = ap (λ w. fold (walked [] (names verbs)) w rest) first_walked ∙ sym (walk_stopped [] (names verbs) (walk_from nothing_held) v.name [] rest)

  first_passes : turn_passes built_top (names verbs) (walk_from nothing_held) v.name ≡ true
  first_passes = rw (label_found verbs v.name v in_table) (no_help (not (bytes_eq v.name (codes "help"))))

  top_passes : (rest : List Text) → walk_passes built_top (names verbs) (walk_from nothing_held) (v.name ∷ rest) ≡ true
  unfolding walk_passes
  top_passes rest = rw (first_passes, first_walked) (stopped_passes built_top (names verbs) v.name [] rest)

-- ---- all words

module _ (verbs : List Verb) (v : Verb) (gs : List Given) (ns : List ℕ) (in_table : verb_named verbs v.name ≡ Some v) (fills : Fills v gs ns) where
  built_passes : built_takes (built_program verbs) nothing_held (v.name ∷ spelled gs) ≡ true
  built_passes =
      let app = built_program verbs in
      let words = v.name ∷ spelled gs in
      ap (λ (w : Walk). entered_passes app w.stopped && (walk_passes built_top (names verbs) (walk_from nothing_held) words
      && (settle_passes [] false w.held && (true && is_valid built_top (finished [] w.held) (is_some (entered app w.stopped))))))
      (top_walked verbs v in_table (spelled gs))
      ∙ rw (shape_found verbs v.name v in_table, verb_passes v gs ns fills, top_passes verbs v in_table (spelled gs)) refl

  built_enters : entered (built_program verbs) (walk [] (names verbs) nothing_held (v.name ∷ spelled gs)).stopped ≡ Some (v.name, map given_row gs)
  built_enters =
      ap (λ (w : Walk). entered (built_program verbs) w.stopped) (top_walked verbs v in_table (spelled gs))
      ∙ rw (shape_found verbs v.name v in_table) (ap Some (verb_rows v gs ns fills))

takes_filled : (verbs : List Verb) (v : Verb) (gs : List Given) (ns : List ℕ) → verb_named verbs v.name ≡ Some v → Fills v gs ns
    → takes (program verbs) (v.name ∷ spelled gs) ≡ true
takes_filled [] v gs ns in_table fills = absurd (none_some v in_table)
takes_filled (x ∷ xs) v gs ns in_table fills = ap₂ (λ a b. a && b) (some_simple x xs)
    (ap (λ (a : App). built_takes a nothing_held (v.name ∷ spelled gs)) (program_built x xs) ∙ built_passes (x ∷ xs) v gs ns in_table fills)

matches_filled : (verbs : List Verb) (v : Verb) (gs : List Given) (ns : List ℕ) → verb_named verbs v.name ≡ Some v → Fills v gs ns
    → subcommand_of (program verbs) (v.name ∷ spelled gs) ≡ Some (v.name, map given_row gs)
matches_filled [] v gs ns in_table fills = absurd (none_some v in_table)
matches_filled (x ∷ xs) v gs ns in_table fills =
    ap (λ (a : App). entered a (walk a.top.rules (names_of a) nothing_held (v.name ∷ spelled gs)).stopped) (program_built x xs)
    ∙ built_enters (x ∷ xs) v gs ns in_table fills

call_fills : (verbs : List Verb) (words : List Text) (call : Called) → list_all is_fit verbs ≡ true → (given : IsCall verbs words call)
    → Fills given.verb given.given call.numbers
call_fills verbs words call fit given =
    let fits = found_has is_fit (λ v. bytes_eq v.name given.verb.name) verbs given.verb given.in_table fit in
    record {
      suit = all_suit given.verb.options given.given (and_parts (nat_le (length given.verb.options) 8) _ fits).1 given.known given.digits;
      new = all_new [] given.given (apart_from_none given.given) given.once;
      numbers = given.numbers;
    }

pub call_taken : (verbs : List Verb) (words : List Text) (call : Called) → list_all is_fit verbs ≡ true → IsCall verbs words call
    → takes (program verbs) words ≡ true
call_taken verbs words call fit given = ap (takes (program verbs)) given.words_are
    ∙ takes_filled verbs given.verb given.given call.numbers given.in_table (call_fills verbs words call fit given)

pub call_matched : (verbs : List Verb) (words : List Text) (call : Called) → list_all is_fit verbs ≡ true → IsCall verbs words call
    → called verbs words ≡ Some call
call_matched verbs words call fit given =
    let gs = given.given in
    let rows = ap (subcommand_of (program verbs)) given.words_are
    ∙ matches_filled verbs given.verb gs call.numbers given.in_table (call_fills verbs words call fit given) in
    let same : numbers_from (λ name. first_of name (map given_row gs)) given.verb.options ≡ numbers_from (given_value gs) given.verb.options =
    λ i. numbers_from (λ name. value_in_rows gs name i) given.verb.options in
    ap (option_and_then (called_in verbs)) rows
    ∙ rw (given.in_table, same, given.numbers) (ap (λ n. Some (record { name = n; numbers = call.numbers })) (sym given.name))
