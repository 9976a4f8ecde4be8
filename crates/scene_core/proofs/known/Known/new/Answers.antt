use Rattle.scene_core.proofs.LeastSteps.{none-known}
use Rattle.scene_core.proofs.known.Known.new.Goals as goal

pub returns-clause-sizes : goal.returns-clause-sizes
returns-clause-sizes c = λ id. none-known 2048 id

pub returns-clause-tracks : goal.returns-clause-tracks
returns-clause-tracks c = λ slot. none-known 16 slot
