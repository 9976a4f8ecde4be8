use Rattle.machine_model.proofs.Ticks.{clean-is_picture}
use Rattle.server_core.proofs.laws.a_clean_state_shows_the_picture.Goals as goal

pub returns : goal.returns
returns c = clean-is_picture
