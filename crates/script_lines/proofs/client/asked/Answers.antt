use Rattle.std.proofs.Common.{◌≤◌, refl, inl, arith}
use Rattle.std.proofs.lemmas.Grind.{common_steps}
use Rattle.desk_model.specs.Commands.{payload_size}
use Rattle.script_lines.proofs.SaidLines.{command_sayable, command_alone}
use Rattle.script_lines.proofs.client.asked.Goals as goal

pub returns-clause-found : goal.returns-clause-found
returns-clause-found c =
    let few : payload_size c.args.command ≤ 65536 = grind (arith, common_steps) in
    inl (c.args.command, refl, command_sayable c.args.said.now c.args.command c.requires.short c.requires.stands few, c.requires.stands)

pub returns-clause-all : goal.returns-clause-all
returns-clause-all c = command_alone c.args.client c.args.said.now c.args.command c.requires.stands
