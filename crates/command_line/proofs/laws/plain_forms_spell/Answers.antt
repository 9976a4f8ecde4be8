use Rattle.command_line.proofs.Readings.{plain_spells}
use Rattle.command_line.proofs.laws.plain_forms_spell.Goals as goal

pub returns : goal.returns
returns c = plain_spells
