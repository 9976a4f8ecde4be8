-- The plain form gives each option once, and numbers that were read are in their ranges.
use Rattle.std.proofs.Common.{◌≡◌, ◌∙◌, ◌≤◌, ◌&&◌, ℕ, Bool, true, false, not, cond, List, [], ◌∷◌, Some, None, Option, refl, ap₂, subst, bytes_eq, option_map, option_and_then, nat_le, leb-true}
use Rattle.std.specs.List.{list_all}
use Rattle.std.proofs.lemmas.Bool.{and_parts, or_parts, or_right}
use Rattle.clap.specs.Walk.{Text}
use Rattle.cmd_words.specs.Productions.{are_digits, number_of}
use Rattle.command_line.specs.Table.{Ranged, Verb}
use Rattle.command_line.specs.Numbers.{is_number, number_read}
use Rattle.command_line.specs.Matched.{Called, numbers_from}
use Rattle.command_line.specs.Given.{Given, IsCall, are_once, given_value, is_among, is_option}
use Rattle.command_line.specs.Plain.{AreWithin, IsPlain, Write, are_apart, in_order}
use Rattle.command_line.proofs.Tests.{bytes_same, bytes_turned, chained_some, found_has, mapped_some, none_some, not_true, some_same}

known : (all options : List Ranged) (texts : List Text) → ((name : Text) → is_option options name ≡ true → is_option all name ≡ true)
    → list_all (λ g. is_option all g.0) (in_order options texts) ≡ true
known all [] texts within = refl
known all (o ∷ options) [] within = refl
known all (o ∷ options) (t ∷ texts) within =
    let here : is_option (o ∷ options) o.name ≡ true = rw (bytes_same o.name) refl in
    ap₂ (λ x y. x && y) (within o.name here) (known all options texts (λ name e. within name (or_right (bytes_eq o.name name) _ e)))

not_given : (options : List Ranged) (texts : List Text) (name : Text) → is_option options name ≡ false → is_among (in_order options texts) name ≡ false
not_given [] texts name e = refl
not_given (o ∷ options) [] name e = refl
not_given (o ∷ options) (t ∷ texts) name e =
    let none = or_parts (bytes_eq o.name name) (is_option options name) e in
    rw none.0 (not_given options texts name none.1)

once : (options : List Ranged) (texts : List Text) → are_apart options ≡ true → are_once (in_order options texts) ≡ true
once [] texts e = refl
once (o ∷ options) [] e = refl
once (o ∷ options) (t ∷ texts) e =
    let p = and_parts (not (is_option options o.name)) _ e in
    ap₂ (λ x y. not x && y) (not_given options texts o.name (not_true _ p.0)) (once options texts p.1)

-- what is known of a number that was read
pub record Read (least greatest : ℕ) (text : Text) (n : ℕ) : Type 0 where
  pub digits : are_digits text ≡ true
  pub low : least ≤ n
  pub high : n ≤ greatest

pub number_known : (least greatest : ℕ) (text : Text) (n : ℕ) → number_read least greatest text ≡ Some n → Read least greatest text n
number_known least greatest text n e = go (is_number least greatest text) refl e
  where
    go : (b : Bool) → is_number least greatest text ≡ b → cond b (Some (number_of text)) None ≡ Some n → Read least greatest text n
    go false is f = absurd (none_some n f)
    go true is f =
        let value : number_of text ≡ n = some_same (number_of text) n f in
        let p = and_parts (are_digits text) _ is in
        let q = and_parts (nat_le least (number_of text)) (nat_le (number_of text) greatest) p.1 in
        record {
          digits = p.0;
          low = subst (λ k. least ≤ k) value (leb-true least (number_of text) q.0);
          high = subst (λ k. k ≤ greatest) value (leb-true (number_of text) greatest q.1);
        }

digits : (options : List Ranged) (texts : List Text) (ns : List ℕ) → Write options texts ns → list_all (λ g. are_digits g.1) (in_order options texts) ≡ true
digits [] texts ns write = refl
digits (o ∷ options) [] ns write = refl
digits (o ∷ options) (t ∷ texts) [] write = absurd write
digits (o ∷ options) (t ∷ texts) (n ∷ ns) write = ap₂ (λ x y. x && y) (number_known o.least o.greatest t n write.0).digits (digits options texts ns write.1)

-- an option of another name gives no number here
number_skipped : (g : Given) (gs : List Given) (options : List Ranged) → is_option options g.0 ≡ false → numbers_from (given_value (g ∷ gs)) options ≡ numbers_from (given_value gs) options
number_skipped g gs [] e = refl
number_skipped g gs (o ∷ options) e =
    let none = or_parts (bytes_eq o.name g.0) (is_option options g.0) e in
    let rest = number_skipped g gs options none.1 in
    let value : given_value (g ∷ gs) o.name ≡ given_value gs o.name = rw (bytes_turned o.name g.0 none.0) refl in
    λ i. option_and_then (λ text. option_and_then (λ n. option_map (λ ns. n ∷ ns) (rest i)) (number_read o.least o.greatest text)) (value i)

numbers : (options : List Ranged) (texts : List Text) (ns : List ℕ) → are_apart options ≡ true → Write options texts ns
    → numbers_from (given_value (in_order options texts)) options ≡ Some ns
numbers [] [] [] apart write = refl
numbers [] [] (n ∷ ns) apart write = absurd write
numbers [] (t ∷ texts) ns apart write = absurd write
numbers (o ∷ options) [] ns apart write = absurd write
numbers (o ∷ options) (t ∷ texts) [] apart write = absurd write
numbers (o ∷ options) (t ∷ texts) (n ∷ ns) apart write =
    let p = and_parts (not (is_option options o.name)) _ apart in
    let rest = number_skipped (o.name, t) (in_order options texts) options (not_true _ p.0) ∙ numbers options texts ns p.1 write.1 in
    let value : given_value ((o.name, t) ∷ in_order options texts) o.name ≡ Some t = rw (bytes_same o.name) refl in
    rw (value, write.0, rest) refl

pub plain_given : (verbs : List Verb) (words : List Text) (call : Called) → list_all (λ v. are_apart v.options) verbs ≡ true → IsPlain verbs words call → IsCall verbs words call
plain_given verbs words call apart p =
    let own = found_has (λ v. are_apart v.options) (λ v. bytes_eq v.name p.verb.name) verbs p.verb p.in_table apart in
    record {
      verb = p.verb;
      given = in_order p.verb.options p.texts;
      words_are = p.words_are;
      in_table = p.in_table;
      name = p.name;
      known = known p.verb.options p.verb.options p.texts (λ name e. e);
      once = once p.verb.options p.texts own;
      digits = digits p.verb.options p.texts call.numbers p.numbers;
      numbers = numbers p.verb.options p.texts call.numbers own p.numbers;
    }

-- ---- ranges

pub are_within : (values : Text → Option Text) (options : List Ranged) (ns : List ℕ) → numbers_from values options ≡ Some ns → AreWithin options ns
are_within values [] ns e = subst (λ (xs : List ℕ). AreWithin [] xs) (some_same [] ns e) tt
are_within values (o ∷ options) ns e =
    chained_some (λ text. option_and_then (λ n. option_map (λ xs. n ∷ xs) (numbers_from values options)) (number_read o.least o.greatest text))
    (values o.name) ns (λ text has more.
    chained_some (λ n. option_map (λ xs. n ∷ xs) (numbers_from values options)) (number_read o.least o.greatest text) ns (λ n read rest.
    mapped_some (λ xs. n ∷ xs) (numbers_from values options) ns (λ xs had is.
    let known = number_known o.least o.greatest text n read in
    let all : AreWithin (o ∷ options) (n ∷ xs) = (known.low, known.high, are_within values options xs had) in
    subst (λ (ys : List ℕ). AreWithin (o ∷ options) ys) is all) rest) more) e
