use Rattle.scene_model.proofs.FitWidgets.{widgets_are_fit}
use Rattle.scene_core.proofs.laws.widgets_are_fit.Goals as goal

pub returns : goal.returns
returns c = widgets_are_fit
