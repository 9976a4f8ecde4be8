use Rattle.std.proofs.Common.{arith}
use Rattle.desk_core.proofs.ClientLists.{joined-nowhere}
use Rattle.desk_core.proofs.clients.index_of.Goals as goal

pub returns : goal.returns
returns c = joined-nowhere c.args.members.now c.args.client (λ k d short. c.loop-index.invariant k d (omega (arith, short)))
