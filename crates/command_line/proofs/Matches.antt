-- From `clap`'s matches to a command and its numbers.
use Rattle.std.proofs.Common.{◌≡◌, ◌∙◌, ◌≤◌, ℕ, true, true≢false, List, map, length, Some, None, Option, sym, ap, subst, option_map, option_and_then, nat_le, leb-true, bytes_eq}
use Rattle.std.specs.Prelude.{unwrap_or, Box}
use Rattle.std.specs.Box.{box_value}
use Rattle.std.specs.List.{list_all}
use Rattle.std.specs.Option.{is_some}
use Rattle.std.proofs.lemmas.Bool.{and_parts}
use Rattle.std.proofs.lemmas.List.{length-map}
use Rattle.clap.specs.Words.{Row, Text, first_of, first_value, found_of, rows_of, subcommand_rows_of, HasMatchesOf}
use Rattle.clap.specs.Matches.{subcommand_name_of}
use Rattle.clap.specs.Simple.{subcommand_rows}
use Rattle.clap.specs.declared.parser.matches.ArgMatches.{ArgMatches}
use Rattle.clap.specs.declared.parser.matches.Found.{Found}
use Rattle.clap.specs.declared.parser.matches.SubCommand.{SubCommand}
use Rattle.clap.specs.declared.parser.matches.ArgMatches.TheViews.{out-ArgMatches, out-SubCommand}
use Rattle.clap.proofs.WalkLemmas.{first_value-rows}
use Rattle.command_line.specs.declared.table.CommandRow.{CommandRow}
use Rattle.command_line.specs.Table.{Verb, verb_named}
use Rattle.command_line.specs.Program.{program}
use Rattle.command_line.specs.Rows.{ranged_of, verb_of}
use Rattle.command_line.specs.Matched.{called, called_in, numbers_from}
use Rattle.command_line.specs.Fit.{is_fit}
use Rattle.command_line.proofs.Built.{program_simple}
use Rattle.command_line.proofs.Tests.{found_has}

module _ {Z : Type 0} where
  met_of : (o : Option (Box SubCommand Z)) (n : Text) (rows : List Row) → Some n ≡ option_map (λ b. (out-SubCommand (box_value b)).name.now) o
      → Some rows ≡ option_map (λ p. p.1) (subcommand_rows o) → subcommand_rows o ≡ Some (n, rows)
  met_of None n rows name is = absurd (true≢false (ap is_some name))
  met_of (Some b) n rows name is =
      let same : n ≡ (out-SubCommand (box_value b)).name.now = ap (λ o. unwrap_or o n) name in
      let all : rows ≡ rows_of (found_of (out-SubCommand (box_value b)).matches) = ap (λ o. unwrap_or o rows) is in
      λ i. Some (sym same i, sym all i)

-- the subcommand that was met, with its rows
pub met_rows : (m : ArgMatches) (n : Text) (rows : List Row) → Some n ≡ subcommand_name_of m → Some rows ≡ option_map (λ p. p.1) (subcommand_rows (out-ArgMatches m).subcommand)
    → subcommand_rows_of m ≡ Some (n, rows)
met_rows m n rows name is = met_of (out-ArgMatches m).subcommand n rows name is

-- its numbers are those of the call
pub met_call : (verbs : List Verb) (m : ArgMatches) (n : Text) (f : Found) (v : Verb) (o : Option (List ℕ)) → subcommand_rows_of m ≡ Some (n, rows_of f)
    → Some v ≡ verb_named verbs n → o ≡ numbers_from (first_value f) v.options
    → option_map (λ ns. record { name = v.name; numbers = ns }) o ≡ option_and_then (called_in verbs) (subcommand_rows_of m)
met_call verbs m n f v o rows named is =
    let same : numbers_from (first_value f) v.options ≡ numbers_from (λ name. first_of name (rows_of f)) v.options =
    λ i. numbers_from (λ name. first_value-rows f name i) v.options in
    ap (option_map (λ ns. record { name = v.name; numbers = ns })) (is ∙ same)
    ∙ (ap (option_and_then (λ (x : Verb). option_map (λ ns. record { name = x.name; numbers = ns }) (numbers_from (λ name. first_of name (rows_of f)) x.options))) named
    ∙ sym (ap (option_and_then (called_in verbs)) rows))

pub few_options : (rows : List CommandRow) (n : Text) (row : CommandRow) → Some (verb_of row) ≡ verb_named (map verb_of rows) n
    → list_all is_fit (map verb_of rows) ≡ true → length row.options.now ≤ 8
few_options rows n row named fit =
    let few : nat_le (length (map ranged_of row.options.now)) 8 ≡ true =
    (and_parts _ _ (found_has is_fit (λ v. bytes_eq v.name n) (map verb_of rows) (verb_of row) (sym named) fit)).0 in
    subst (λ k. k ≤ 8) (length-map row.options.now ranged_of) (leb-true _ 8 few)

-- the matches that `clap` has are those of the words
pub call_is : (verbs : List Verb) (words : List Text) (m : ArgMatches) → HasMatchesOf (program verbs) words m
    → called verbs words ≡ option_and_then (called_in verbs) (subcommand_rows_of m)
call_is verbs words m has = ap (option_and_then (called_in verbs)) (sym (has (program_simple verbs)).1)
