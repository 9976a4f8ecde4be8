use Rattle.touch_rules.proofs.ShownAnew.{commands_show_anew}
use Rattle.touch_rules.proofs.laws.commands_show_anew.Goals as goal

pub returns : goal.returns
returns c = commands_show_anew
