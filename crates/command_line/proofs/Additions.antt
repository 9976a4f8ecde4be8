-- One option more, and one subcommand more, of a command that is being built.
use Rattle.std.proofs.Common.{◌≡◌, ◌∙◌, ◌+◌, ◌<◌, ℕ, false, List, [], ◌∷◌, ◌++◌, map, length, take, get_or, refl, sym, ap, ap₂}
use Rattle.std.proofs.lemmas.List.{map_more, map_push}
use Rattle.clap.specs.Walk.{Rule, Text}
use Rattle.clap.specs.Simple.{App, with_rule, with_subcommand}
use Rattle.command_line.specs.declared.table.NumberOption.{NumberOption}
use Rattle.command_line.specs.declared.table.CommandRow.{CommandRow}
use Rattle.command_line.specs.Table.{Ranged, Verb}
use Rattle.command_line.specs.Program.{has_none, option_rule, program, top_shape, verb_shape}
use Rattle.command_line.specs.Rows.{ranged_of, verb_of}
use Rattle.command_line.specs.Apps.{verb_app}

option_more : (name : Text) (options : List NumberOption) (i : ℕ) (d : NumberOption) → i < length options
    → with_rule (verb_app (record { name = name; options = map ranged_of (take i options) })) (option_rule (get_or options i d).name.now)
    ≡ verb_app (record { name = name; options = map ranged_of (take (i + 1) options) })
option_more name options i d lt =
    ap (λ (rules : List Rule). record { top = record (verb_shape (record { name = name; options = [] })) { rules = rules }; subs = [] })
    (sym (map_push (λ (o : Ranged). option_rule o.name) (map ranged_of (take i options)) (ranged_of (get_or options i d))))
    ∙ ap (λ xs. verb_app (record { name = name; options = xs })) (sym (map_more ranged_of options i d lt))

has_some : (xs : List Verb) (x : Verb) → false ≡ has_none (xs ++ x ∷ [])
has_some [] x = refl
has_some (y ∷ ys) x = refl

verb_more : (rows : List CommandRow) (i : ℕ) (d : CommandRow) → i < length rows
    → with_subcommand (program (map verb_of (take i rows))) (verb_shape (verb_of (get_or rows i d))) ≡ program (map verb_of (take (i + 1) rows))
verb_more rows i d lt =
    let xs = map verb_of (take i rows) in
    let x = verb_of (get_or rows i d) in
    (λ j. record { top = top_shape (has_some xs x j); subs = sym (map_push verb_shape xs x) j })
    ∙ ap program (sym (map_more verb_of rows i d lt))

pub option_added : (old new : App) (name : Text) (options : List NumberOption) (i : ℕ) (d : NumberOption) → old ≡ verb_app (record { name = name; options = map ranged_of (take i options) })
    → i < length options → new ≡ with_rule old (option_rule (get_or options i d).name.now) → new ≡ verb_app (record { name = name; options = map ranged_of (take (i + 1) options) })
option_added old new name options i d was lt is = is ∙ (ap (λ a. with_rule a (option_rule (get_or options i d).name.now)) was ∙ option_more name options i d lt)

pub verb_added : (old new sub : App) (rows : List CommandRow) (i : ℕ) (d : CommandRow) → old ≡ program (map verb_of (take i rows))
    → i < length rows → sub ≡ verb_app (verb_of (get_or rows i d)) → new ≡ with_subcommand old sub.top → new ≡ program (map verb_of (take (i + 1) rows))
verb_added old new sub rows i d was lt made is =
    is ∙ (ap₂ (λ (a : App) (s : App). with_subcommand a s.top) was made ∙ verb_more rows i d lt)
