use Rattle.std.proofs.Common.{refl, ◌∙◌, arith, rules}
use Rattle.wire_link.proofs.Endings.{going_nowhere, going_on, partial_nothing, still_before}
use Rattle.wire_link.proofs.sessions.talk_through.Goals as goal

pub loop-init : goal.loop-init
loop-init g c = record {
  can = tt;
  finite = tt;
  going = going_nowhere _ _;
  piece = c.requires.piece;
  partial = partial_nothing c.args.framer.now.waiting c.requires.fed;
  still = still_before c.args.talk.now.standing c.requires.still;
  written = c.requires.written;
  client = c.requires.client;
  refusals = omega arith;
  steady = refl;
}

pub loop-preserved : goal.loop-preserved
loop-preserved g c = record {
  can = tt;
  finite = tt;
  going = going_on _ _ _ _ _ _ c.loop.invariant.going c.in-Ok.ensures.told;
  piece = c.turn.auto.buffer ∙ c.loop.invariant.piece;
  partial = c.in-Ok.ensures.partial;
  still = c.in-Ok.ensures.still_open;
  written = c.in-Ok.ensures.still_written;
  client = c.in-Ok.ensures.client_now;
  refusals = search rules;
  steady = search rules;
}
