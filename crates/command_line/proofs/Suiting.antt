-- Options that are each given once suit a walk, and their rows have their values.
use Rattle.std.proofs.Common.{◌≡◌, ◌∙◌, ◌&&◌, ◌||◌, ℕ, true, false, not, List, [], ◌∷◌, ◌++◌, map, Some, None, Option, refl, sym, ap, ap₂, subst, find, bytes_eq, true≢false, option_map, option_and_then, slice_get}
use Rattle.std.specs.List.{list_all}
use Rattle.std.specs.Option.{is_some, option_map_or}
use Rattle.std.proofs.lemmas.Bool.{and_parts, or_from, or_parts}
use Rattle.clap.specs.Walk.{Row, Text, first_of}
use Rattle.clap.specs.Facts.{explicit_source}
use Rattle.clap.specs.Takes.{is_given}
use Rattle.clap.proofs.WalkLemmas.{find-map}
use Rattle.cmd_words.specs.Productions.{are_digits}
use Rattle.command_line.specs.Table.{Ranged}
use Rattle.command_line.specs.Numbers.{number_read}
use Rattle.command_line.specs.Matched.{numbers_from}
use Rattle.command_line.specs.Given.{Given, are_once, given_value, is_among, is_option}
use Rattle.command_line.specs.Fit.{is_fit_name}
use Rattle.command_line.proofs.Built.{built_rules}
use Rattle.command_line.proofs.Tests.{bytes_turned, chained_some, either, mapped_some, not_true, same_bytes}
use Rattle.command_line.proofs.Walks.{AllSuit, AreNew, given_row, rule_by_id, rule_by_long}

name_fit : (options : List Ranged) (name : Text) → list_all (λ o. is_fit_name o.name) options ≡ true → is_option options name ≡ true → is_fit_name name ≡ true
name_fit [] name fit e = absurd (true≢false (sym e))
name_fit (o ∷ options) name fit e =
    let fits = and_parts (is_fit_name o.name) _ fit in
    either (bytes_eq o.name name) _
    (λ is. subst (λ n. is_fit_name n ≡ true) (same_bytes o.name name is) fits.0)
    (λ is rest. name_fit options name fits.1 rest) e

pub all_suit : (options : List Ranged) (gs : List Given) → list_all (λ o. is_fit_name o.name) options ≡ true → list_all (λ g. is_option options g.0) gs ≡ true
    → list_all (λ g. are_digits g.1) gs ≡ true → AllSuit (built_rules options) gs
all_suit options [] fit known digits = tt
all_suit options (g ∷ gs) fit known digits =
    let k = and_parts (is_option options g.0) _ known in
    let d = and_parts (are_digits g.1) _ digits in (
      record {
        fit = name_fit options g.0 fit k.0;
        by_long = rule_by_long options g.0 k.0;
        by_id = rule_by_id options g.0 k.0;
        digits = d.0;
      },
      all_suit options gs fit k.1 d.1,
    )

-- ---- each is new

-- none of these is among those before
abbrev AreApart : List Given → List Given → Type 0
AreApart before [] = Unit {0}
AreApart before (g ∷ gs) = (is_among before g.0 ≡ false) × AreApart before gs

pub apart_from_none : (gs : List Given) → AreApart [] gs
apart_from_none [] = tt
apart_from_none (g ∷ gs) = (refl, apart_from_none gs)

not_among : (before : List Given) (g : Given) (name : Text) → is_among before name ≡ false → bytes_eq g.0 name ≡ false → is_among (before ++ g ∷ []) name ≡ false
not_among [] g name none other = or_from (bytes_eq g.0 name) false other refl
not_among (b ∷ before) g name none other =
    let n = or_parts (bytes_eq b.0 name) (is_among before name) none in
    or_from (bytes_eq b.0 name) _ n.0 (not_among before g name n.1 other)

apart_from_more : (before gs : List Given) (g : Given) → AreApart before gs → is_among gs g.0 ≡ false → AreApart (before ++ g ∷ []) gs
apart_from_more before [] g apart none = tt
apart_from_more before (x ∷ gs) g apart none =
    let n = or_parts (bytes_eq x.0 g.0) (is_among gs g.0) none in
    (not_among before g x.0 apart.0 (bytes_turned x.0 g.0 n.0), apart_from_more before gs g apart.1 n.1)

pub all_new : (before gs : List Given) → AreApart before gs → are_once gs ≡ true → AreNew before gs
all_new before [] apart once = tt
all_new before (g ∷ gs) apart once =
    let o = and_parts (not (is_among gs g.0)) _ once in
    (apart.0, all_new (before ++ g ∷ []) gs (apart_from_more before gs g apart.1 (not_true _ o.0)) o.1)

-- ---- the rows

-- an option's first value in the rows is the one that was given
pub value_in_rows : (gs : List Given) (name : Text) → first_of name (map given_row gs) ≡ given_value gs name
value_in_rows gs name = ap (option_and_then (λ (r : Row). slice_get r.values 0)) (sym (find-map (λ (r : Row). bytes_eq r.id name) given_row gs))
    ∙ go (find (λ g. bytes_eq g.0 name) gs)
  where
    go : (o : Option Given) → option_and_then (λ (r : Row). slice_get r.values 0) (option_map given_row o) ≡ option_map (λ g. g.1) o
    go None = refl
    go (Some g) = refl

row_is_given : (gs : List Given) (name : Text) → is_some (given_value gs name) ≡ true → is_given name (map given_row gs) ≡ true
row_is_given gs name e = ap (λ o. option_map_or (λ (r : Row). explicit_source r.source) o false) (sym (find-map (λ (r : Row). bytes_eq r.id name) given_row gs))
    ∙ go (find (λ g. bytes_eq g.0 name) gs) e
  where
    go : (o : Option Given) → is_some (option_map (λ (g : Given). g.1) o) ≡ true → option_map_or (λ (r : Row). explicit_source r.source) (option_map given_row o) false ≡ true
    go None e = absurd (true≢false (sym e))
    go (Some g) e = refl

-- where each option has a number, each is given
pub required_given : (gs : List Given) (options : List Ranged) (ns : List ℕ) → numbers_from (given_value gs) options ≡ Some ns
    → list_all (λ r. not r.required || is_given r.id (map given_row gs)) (built_rules options) ≡ true
required_given gs [] ns e = refl
required_given gs (o ∷ options) ns e =
    chained_some (λ text. option_and_then (λ n. option_map (λ xs. n ∷ xs) (numbers_from (given_value gs) options)) (number_read o.least o.greatest text))
    (given_value gs o.name) ns (λ text has more.
    chained_some (λ n. option_map (λ xs. n ∷ xs) (numbers_from (given_value gs) options)) (number_read o.least o.greatest text) ns (λ n read rest.
    mapped_some (λ xs. n ∷ xs) (numbers_from (given_value gs) options) ns (λ xs numbers is.
    ap₂ (λ x y. x && y) (row_is_given gs o.name (ap is_some has)) (required_given gs options xs numbers)) rest) more) e
