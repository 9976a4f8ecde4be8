use Rattle.scene_core.proofs.laws.widgets_are_named_apart.Goals as goal

pub returns : goal.returns
returns c = λ widgets is. is.rows.names
