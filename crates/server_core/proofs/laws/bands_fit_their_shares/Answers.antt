use Rattle.machine_model.proofs.BandCount.{bands_fit_shares}
use Rattle.server_core.proofs.laws.bands_fit_their_shares.Goals as goal

pub returns : goal.returns
returns c = bands_fit_shares
