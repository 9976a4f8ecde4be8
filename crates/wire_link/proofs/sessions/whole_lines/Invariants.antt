use Rattle.std.proofs.Common.{◌≡◌, ◌≤◌, ◌+◌, ◌*◌, ◌-◌, length, take}
use Rattle.wire_link.specs.Calls.{ledger}
use Rattle.wire_link.specs.Session.{IsOpen}
use Rattle.wire_link.specs.Carrying.{is_client}
use Rattle.wire_link.specs.Going.{Went, place}
use Rattle.wire_link.proofs.sessions.whole_lines.Given as goal

abbrev pub invariant-loop-framer : goal.invariant-loop-framer
invariant-loop-framer g l = record {
  told : Went (place l.initial.talk l.initial.framer.waiting (g.L.Link.held l.initial.link) (ledger (g.S.Service.kept l.initial.service) (g.S.Service.refusals l.initial.service))) (take l.taken l.piece) (place l.talk l.framer.waiting (g.L.Link.held l.link) (ledger (g.S.Service.kept l.service) (g.S.Service.refusals l.service)));
  within : l.taken ≤ length l.piece;
  still : IsOpen l.talk.standing;
  client : g.S.Service.has_client l.service ≡ is_client l.talk.standing;
  refusals : g.S.Service.refusals l.initial.service ≤ g.S.Service.refusals l.service;
  left : g.L.Link.left l.link ≡ g.L.Link.left l.initial.link;
  steady : g.L.Link.faults l.link ≡ g.L.Link.faults l.initial.link;
}

abbrev pub decreases-loop-framer : goal.decreases-loop-framer
decreases-loop-framer g l = 2 * (length l.piece - l.taken) + length l.framer.waiting
