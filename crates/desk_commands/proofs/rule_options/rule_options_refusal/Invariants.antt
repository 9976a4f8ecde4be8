-- the first refusal is among the options that weren't looked at
use Rattle.std.proofs.Common.{◌≡◌, drop}
use Rattle.desk_model.specs.ConfigOptions.{rule_options_refusal}
use Rattle.desk_commands.proofs.rule_options.rule_options_refusal.Given as goal

abbrev pub invariant-loop-option : goal.invariant-loop-option
invariant-loop-option l = rule_options_refusal l.options ≡ rule_options_refusal (drop l.option-index l.options)
