use Rattle.grid_layout.proofs.Shares.{width_of-le}
use Rattle.grid_layout.proofs.laws.bounds.Goals as goal

pub returns : goal.returns
returns c = width_of-le
