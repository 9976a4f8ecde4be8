-- The options of `columnconfig` and `rowconfig`: each is checked from left to right; of a repeated one the last
-- counts, and what isn't given stays. A rule is a size and a weight.
use Rattle.std.specs.Prelude.{ℕ, ℤ, pos, List, [], ◌∷◌, Option, unsigned_abs, map}
use Rattle.cmd_words.specs.declared.commands.ConfigOption.{ConfigOption}
use Rattle.cmd_words.specs.declared.commands.ConfigOption.TheVariants.{Size, Weight}
use Rattle.cmd_words.specs.declared.replies.Refusal.{Refusal}
use Rattle.desk_model.specs.Refusals.{first_refusal}
use Rattle.desk_model.specs.PlaceOptions.{unless_within}

-- A size is at most 1,024 pixels, a weight at most 1,000.
abbrev pub rule_option_refusal : ConfigOption × ℤ → Option Refusal
rule_option_refusal (Size, n) = unless_within (pos 0) (pos 1024) n
rule_option_refusal (Weight, n) = unless_within (pos 0) (pos 1000) n

abbrev pub rule_options_refusal : List (ConfigOption × ℤ) → Option Refusal
rule_options_refusal options = first_refusal (map rule_option_refusal options)

abbrev pub with_rule_option : ConfigOption × ℤ → ℕ × ℕ → ℕ × ℕ
with_rule_option (Size, n) rule = (unsigned_abs n, rule.1)
with_rule_option (Weight, n) rule = (rule.0, unsigned_abs n)

abbrev pub with_rule_options : List (ConfigOption × ℤ) → ℕ × ℕ → ℕ × ℕ
with_rule_options [] rule = rule
with_rule_options (option ∷ options) rule = with_rule_options options (with_rule_option option rule)
