use Rattle.script_lines.proofs.SaidLines.{misread_alone}
use Rattle.script_lines.proofs.client.misread.Goals as goal

pub returns-clause-all : goal.returns-clause-all
returns-clause-all c = misread_alone c.args.client c.args.said.now c.args.place c.requires.misread.none c.requires.misread.place
