use Rattle.script_lines.proofs.Telling.{comments_ask_for_nothing}
use Rattle.script_lines.proofs.laws.comments_ask_for_nothing.Goals as goal

pub returns : goal.returns
returns c = comments_ask_for_nothing
