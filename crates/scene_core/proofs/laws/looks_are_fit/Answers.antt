use Rattle.scene_model.proofs.Looks.{looks_are_fit}
use Rattle.scene_core.proofs.laws.looks_are_fit.Goals as goal

pub returns : goal.returns
returns c = looks_are_fit
