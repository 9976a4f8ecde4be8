-- what the options that weren't looked at make of the rule
use Rattle.std.proofs.Common.{◌≡◌, drop}
use Rattle.desk_model.specs.ConfigOptions.{with_rule_options}
use Rattle.desk_commands.proofs.rule_options.with_rule_options.Given as goal

abbrev pub invariant-loop-option : goal.invariant-loop-option
invariant-loop-option l = with_rule_options l.options l.fn.rule ≡ with_rule_options (drop l.option-index l.options) l.made
