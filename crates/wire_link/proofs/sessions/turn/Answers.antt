use Rattle.std.proofs.Common.{[], lit≤}
use Rattle.outside_io.proofs.Told.{Consumes-keeps}
use Rattle.wire_link.proofs.Goings.{stopped_unread}
use Rattle.wire_link.proofs.sessions.turn.Goals as goal

pub returns-in-Err-clause-told : goal.returns-in-Err-clause-told
returns-in-Err-clause-told g c = record {
  bytes = [];
  few = lit≤ tt;
  consumes = Consumes-keeps _ _ c.in-Err.ensures.bytes;
  stopped = stopped_unread _ (g.L.Link.held c.read.new.self) c.in-Err.ensures.still;
}
