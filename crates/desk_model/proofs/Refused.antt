-- A refused step of a valid desk leaves it as it was.
use Rattle.std.proofs.Common.{false}
use Rattle.desk_model.specs.Clients.{step_connect, step_hello, step_bye}
use Rattle.desk_model.specs.Commands.{step}
use Rattle.desk_model.specs.DeskLaws.{RefusedConnectsChangeNothing, RefusedHellosChangeNothing, RefusedByesChangeNothing, RefusedCommandsChangeNothing}
use Rattle.desk_model.proofs.Outcomes.{ends-asked, ends-connect, ends-hello, ends-bye, refused-end}

pub refused_connects_change_nothing : RefusedConnectsChangeNothing
unfolding step_connect
refused_connects_change_nothing desk client short refusal kept refused = refused-end desk short _ refusal kept.held (ends-connect desk client short) refused

pub refused_hellos_change_nothing : RefusedHellosChangeNothing
unfolding step_hello
refused_hellos_change_nothing desk short refusal kept refused = refused-end desk short _ refusal kept.held (ends-hello desk short) refused

pub refused_byes_change_nothing : RefusedByesChangeNothing
unfolding step_bye
refused_byes_change_nothing desk client refusal kept refused = refused-end desk false _ refusal kept.held (ends-bye desk client false) refused

pub refused_commands_change_nothing : RefusedCommandsChangeNothing
unfolding step
refused_commands_change_nothing desk client command payload short refusal kept refused = refused-end desk short _ refusal kept.held (ends-asked desk client command payload short) refused
