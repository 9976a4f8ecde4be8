-- `clap`'s walk over options that are each given once: two words an option lead from between options to between options.
use Rattle.std.proofs.Common.{◌≡◌, ◌∙◌, ℕ, Bool, true, false, not, List, [], ◌∷◌, ◌++◌, map, length, Some, None, refl, sym, ap, subst, fold, bytes_eq, true≢false, arith, ◌==◌, append_assoc, append-nil, take, suc, ◌+◌}
use Rattle.std.specs.List.{list_any, before_first, position_or_len}
use Rattle.std.proofs.lemmas.Bool.{and_parts, or_parts}
use Rattle.std.proofs.lemmas.List.{map-append}
use Rattle.clap.specs.Lexer.{has_byte, long_of, short_of}
use Rattle.clap.specs.Walk.{Held, Row, Rule, Text, Walk, arg_by_id, arg_by_long, at_row, has_row, more_values, option, settled_rows, walk_from, walked, without}
use Rattle.clap.specs.declared.builder.value_parser.Reading.TheVariants.{AsWritten}
use Rattle.clap.specs.declared.parser.matches.ValueSource.TheVariants.{CommandLine}
use Rattle.clap.specs.Takes.{settle_passes, turn_passes, walk_passes}
use Rattle.clap.specs.Simple.{Shape}
use Rattle.kind_core.specs.Bytes.{is_digit}
use Rattle.cmd_words.specs.Productions.{are_digits}
use Rattle.command_line.specs.Table.{Ranged}
use Rattle.command_line.specs.Given.{Given, is_among, is_option, spelled}
use Rattle.command_line.specs.Fit.{is_fit_name}
use Rattle.command_line.proofs.Built.{built_rule, built_rules}
use Rattle.command_line.proofs.Tests.{bytes_same, either, not_true, same_bytes}

-- ---- what a word is

none_before : (p : ℕ → Bool) (xs : List ℕ) → list_any p xs ≡ false → before_first p xs ≡ xs
none_before p [] e = refl
none_before p (x ∷ xs) e =
    let none = or_parts (p x) (list_any p xs) e in
    let one : 1 + position_or_len p xs ≡ suc (position_or_len p xs) = omega arith in
    rw none.0 (ap (λ n. take n (x ∷ xs)) one ∙ ap (λ ys. x ∷ ys) (none_before p xs none.1))

-- `--name` is the long option of that name
name_read : (name : Text) → is_fit_name name ≡ true → long_of (45 ∷ 45 ∷ name) ≡ Some (name, None)
name_read [] e = absurd (true≢false (sym e))
name_read (x ∷ xs) e =
    let none : has_byte 61 (x ∷ xs) ≡ false = not_true _ (and_parts (not (length (x ∷ xs) == 0)) _ e).1 in
    let front : before_first (λ b. b == 61) (x ∷ xs) ≡ x ∷ xs = none_before (λ b. b == 61) (x ∷ xs) none in
    rw (none, front) refl

not_dashes : (name : Text) → is_fit_name name ≡ true → bytes_eq (45 ∷ 45 ∷ name) (45 ∷ 45 ∷ []) ≡ false
not_dashes [] e = absurd (true≢false (sym e))
not_dashes (x ∷ xs) e = refl

-- digits are no option, and no `--`
digits_plain : (text : Text) → are_digits text ≡ true → (long_of text ≡ None) × (short_of text ≡ None) × (bytes_eq text (45 ∷ 45 ∷ []) ≡ false)
digits_plain [] e = absurd (true≢false (sym e))
digits_plain (x ∷ xs) e = go (x == 45) refl
  where
    go : (b : Bool) → (x == 45) ≡ b → (long_of (x ∷ xs) ≡ None) × (short_of (x ∷ xs) ≡ None) × (bytes_eq (x ∷ xs) (45 ∷ 45 ∷ []) ≡ false)
    go true is =
        let digit : is_digit x ≡ true = (and_parts (is_digit x) _ (and_parts _ _ e).0).0 in
        absurd (grind (arith, digit, is))
    go false is = (rw is refl, rw is refl, rw is refl)

-- ---- the rule of an option

pub rule_by_long : (options : List Ranged) (name : Text) → is_option options name ≡ true → arg_by_long (built_rules options) name ≡ Some (built_rule name)
rule_by_long [] name e = absurd (true≢false (sym e))
rule_by_long (o ∷ options) name e = either (bytes_eq o.name name) _
    (λ is. rw is (ap (λ n. Some (built_rule n)) (same_bytes o.name name is)))
    (λ is rest. rw is (rule_by_long options name rest)) e

pub rule_by_id : (options : List Ranged) (name : Text) → is_option options name ≡ true → arg_by_id (built_rules options) name ≡ Some (built_rule name)
rule_by_id [] name e = absurd (true≢false (sym e))
rule_by_id (o ∷ options) name e = either (bytes_eq o.name name) _
    (λ is. rw is (ap (λ n. Some (built_rule n)) (same_bytes o.name name is)))
    (λ is rest. rw is (rule_by_id options name rest)) e

-- ---- two words

-- what is held once an option's two words were read
abbrev pub held_next : List Rule → Given → Held → Held
held_next c g h = record { rows = settled_rows c h.pending h.rows; pending = Some (g.0, g.1 ∷ []); skip = h.skip }

-- between the two words the option waits for its value
abbrev pub waits : List Rule → Text → Held → Walk
waits c name h = record {
  held = record { rows = settled_rows c h.pending h.rows; pending = Some (name, []); skip = h.skip };
  waiting = option name;
  position = 1;
  is_trailing = false;
  stopped = None;
}

-- what a walk needs of a given option
pub record Suits (c : List Rule) (g : Given) : Type 0 where
  pub fit : is_fit_name g.0 ≡ true
  pub by_long : arg_by_long c g.0 ≡ Some (built_rule g.0)
  pub by_id : arg_by_id c g.0 ≡ Some (built_rule g.0)
  pub digits : are_digits g.1 ≡ true

name_walked : (c : List Rule) (g : Given) (h : Held) → Suits c g → walked c [] (walk_from h) (45 ∷ 45 ∷ g.0) ≡ waits c g.0 h
unfolding walked
name_walked c g h suits = rw (not_dashes g.0 suits.fit, name_read g.0 suits.fit, suits.by_long) refl

value_walked : (c : List Rule) (g : Given) (h : Held) → Suits c g → walked c [] (waits c g.0 h) g.1 ≡ walk_from (held_next c g h)
unfolding walked
value_walked c g h suits =
    let plain = digits_plain g.1 suits.digits in
    rw (plain.2, plain.0, plain.1, suits.by_id, bytes_same g.0) refl

abbrev pub held_after : List Rule → List Given → Held → Held
held_after c [] h = h
held_after c (g ∷ gs) h = held_after c gs (held_next c g h)

abbrev pub AllSuit : List Rule → List Given → Type 0
AllSuit c [] = Unit {0}
AllSuit c (g ∷ gs) = Suits c g × AllSuit c gs

pub given_walked : (c : List Rule) (gs : List Given) (h : Held) → AllSuit c gs → fold (walked c []) (walk_from h) (spelled gs) ≡ walk_from (held_after c gs h)
given_walked c [] h suit = refl
given_walked c (g ∷ gs) h suit =
    ap (λ w. fold (walked c []) (walked c [] w g.1) (spelled gs)) (name_walked c g h suit.0)
    ∙ ap (λ w. fold (walked c []) w (spelled gs)) (value_walked c g h suit.0)
    ∙ given_walked c gs (held_next c g h) suit.1

-- ---- the rows of the matches

abbrev pub given_row : Given → Row
given_row g = record { id = g.0; values = g.1 ∷ []; count = None; source = Some CommandLine; reading = AsWritten }

-- what is held once the options `before` were read
pub record Holds (c : List Rule) (before : List Given) (h : Held) : Type 0 where
  pub rows : settled_rows c h.pending h.rows ≡ map given_row before
  pub passes : settle_passes c false h ≡ true

row_missing : (id : Text) (change : Row → List Row) (missing : List Row) (gs : List Given) → is_among gs id ≡ false → at_row id change missing (map given_row gs) ≡ map given_row gs ++ missing
row_missing id change missing [] e = refl
row_missing id change missing (g ∷ gs) e =
    let none = or_parts (bytes_eq g.0 id) (is_among gs id) e in
    rw none.0 (ap (λ rows. given_row g ∷ rows) (row_missing id change missing gs none.1))

no_row : (id : Text) (gs : List Given) → is_among gs id ≡ false → has_row id (map given_row gs) ≡ false
no_row id [] e = refl
no_row id (g ∷ gs) e =
    let none = or_parts (bytes_eq g.0 id) (is_among gs id) e in
    rw none.0 (no_row id gs none.1)

holds_next : (c : List Rule) (before : List Given) (g : Given) (h : Held) → Holds c before h → Suits c g → is_among before g.0 ≡ false → Holds c (before ++ g ∷ []) (held_next c g h)
holds_next c before g h holds suits new =
    let kept : without g.0 (map given_row before) ≡ map given_row before = row_missing g.0 (λ _. []) [] before new ∙ append-nil (map given_row before) in
    let none : has_row g.0 (map given_row before) ≡ false = no_row g.0 before new in
    record {
      rows = rw (holds.rows, suits.by_id, kept) (row_missing g.0 (more_values CommandLine (g.1 ∷ [])) (given_row g ∷ []) before new ∙ sym (map-append given_row before (g ∷ [])));
      passes = rw (holds.rows, suits.by_id, none) refl;
    }

-- each is new among those before it
abbrev pub AreNew : List Given → List Given → Type 0
AreNew before [] = Unit {0}
AreNew before (g ∷ gs) = (is_among before g.0 ≡ false) × AreNew (before ++ g ∷ []) gs

pub holds_after : (c : List Rule) (before gs : List Given) (h : Held) → Holds c before h → AllSuit c gs → AreNew before gs → Holds c (before ++ gs) (held_after c gs h)
holds_after c before [] h holds suit new = rw (append-nil before) holds
holds_after c before (g ∷ gs) h holds suit new =
    let next = holds_after c (before ++ g ∷ []) gs (held_next c g h) (holds_next c before g h holds suit.0 new.0) suit.1 new.1 in
    subst (λ given. Holds c given (held_after c (g ∷ gs) h)) (append_assoc before (g ∷ []) gs) next

-- ---- the words pass

name_passes : (s : Shape) (g : Given) (h : Held) → s.args_override_self ≡ false → Suits s.rules g → settle_passes s.rules false h ≡ true → turn_passes s [] (walk_from h) (45 ∷ 45 ∷ g.0) ≡ true
name_passes s g h once suits passes = rw (once, not_dashes g.0 suits.fit, name_read g.0 suits.fit, suits.by_long, passes) refl

value_passes : (s : Shape) (g : Given) (h : Held) → Suits s.rules g → turn_passes s [] (waits s.rules g.0 h) g.1 ≡ true
value_passes s g h suits =
    let plain = digits_plain g.1 suits.digits in
    rw (plain.2, plain.0, plain.1) refl

pub given_passes : (s : Shape) (before gs : List Given) (h : Held) → s.args_override_self ≡ false → Holds s.rules before h → AllSuit s.rules gs → AreNew before gs
    → walk_passes s [] (walk_from h) (spelled gs) ≡ true
unfolding walk_passes
given_passes s before [] h once holds suit new = refl
given_passes s before (g ∷ gs) h once holds suit new =
    let rest = given_passes s (before ++ g ∷ []) gs (held_next s.rules g h) once (holds_next s.rules before g h holds suit.0 new.0) suit.1 new.1 in
    rw (name_passes s g h once suit.0 holds.passes, name_walked s.rules g h suit.0, value_passes s g h suit.0, value_walked s.rules g h suit.0) rest
