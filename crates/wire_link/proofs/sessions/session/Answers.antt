use Rattle.std.proofs.Common.{refl, ap}
use Rattle.outside_io.specs.Outbox.{output}
use Rattle.wire_link.proofs.Endings.{ended}
use Rattle.wire_link.proofs.sessions.session.Goals as goal

pub returns-clause-ended : goal.returns-clause-ended
returns-clause-ended g c =
    ended c.talk_through-end.result _ _ (g.L.Link.held c.args.link.now) _ _ _ refl refl c.requires.fed (ap (output (g.L.Link.held c.args.link.now)) c.new.ensures) c.talk_through-end.ensures.told c.part.ensures.parted
