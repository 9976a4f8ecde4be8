use Rattle.desk_model.specs.Tracks.{is_grid}
use Rattle.desk_commands.proofs.TrackSteps.{grid-kind}
use Rattle.desk_commands.proofs.tracks.grid_to_rule.Goals as goal

pub returns-in-Err-clause-ruled : goal.returns-in-Err-clause-ruled
returns-in-Err-clause-ruled c = λ desk. c.in-Err.ensures.found is_grid _ grid-kind
