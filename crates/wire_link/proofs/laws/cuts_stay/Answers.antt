use Rattle.wire_link.proofs.OneCuts.{cuts_stay}
use Rattle.wire_link.proofs.laws.cuts_stay.Goals as goal

pub returns : goal.returns
returns c = cuts_stay
