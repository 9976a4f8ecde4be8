use Rattle.std.proofs.Common.{◌≡◌, ◌≤◌, [], length}
use Rattle.wire_link.specs.Calls.{ledger}
use Rattle.wire_link.specs.Framing.{IsPartial}
use Rattle.wire_link.specs.Session.{IsOpen}
use Rattle.wire_link.specs.Carrying.{is_client}
use Rattle.wire_link.specs.Going.{Going, place}
use Rattle.wire_link.proofs.sessions.talk_through.Given as goal

abbrev pub invariant-loop : goal.invariant-loop
invariant-loop g l = record {
  can : (goal.iterator-loop g).can_next l.iterator';
  finite : (goal.iterator-loop g).is_finite l.iterator';
  going : Going (place l.initial.talk l.initial.framer.waiting (g.L.Link.held l.initial.link) (ledger (g.S.Service.kept l.initial.service) (g.S.Service.refusals l.initial.service))) (place l.talk l.framer.waiting (g.L.Link.held l.link) (ledger (g.S.Service.kept l.service) (g.S.Service.refusals l.service))) (g.L.Link.left l.initial.link) (g.L.Link.left l.link);
  piece : length l.buffer ≡ 4096;
  partial : IsPartial l.framer.waiting;
  still : IsOpen l.talk.standing;
  written : l.talk.out.items ≡ [];
  client : g.S.Service.has_client l.service ≡ is_client l.talk.standing;
  refusals : g.S.Service.refusals l.initial.service ≤ g.S.Service.refusals l.service;
  steady : g.L.Link.faults l.link ≡ g.L.Link.faults l.initial.link;
}
