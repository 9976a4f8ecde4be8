use Rattle.desk_model.specs.Screens.{is_screen}
use Rattle.desk_commands.proofs.Films.{screen-kind}
use Rattle.desk_commands.proofs.screens.screen_for.Goals as goal

pub returns-in-Err-clause-screen : goal.returns-in-Err-clause-screen
returns-in-Err-clause-screen c = λ desk short. c.in-Err.ensures.found is_screen _ screen-kind
