use Rattle.wire_link.proofs.OneCuts.{one_cut}
use Rattle.wire_link.proofs.laws.one_cut.Goals as goal

pub returns : goal.returns
returns c = one_cut
