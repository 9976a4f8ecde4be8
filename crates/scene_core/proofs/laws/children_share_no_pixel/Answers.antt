use Rattle.scene_model.proofs.Apart.{children_share_no_pixel}
use Rattle.scene_core.proofs.laws.children_share_no_pixel.Goals as goal

pub returns : goal.returns
returns c = children_share_no_pixel
