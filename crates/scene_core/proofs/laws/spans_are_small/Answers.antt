use Rattle.scene_model.proofs.Ranges.{spans_are_small}
use Rattle.scene_core.proofs.laws.spans_are_small.Goals as goal

pub returns : goal.returns
returns c = spans_are_small
