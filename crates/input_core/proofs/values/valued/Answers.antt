use Rattle.std.proofs.Common.{None}
use Rattle.input_core.proofs.Effected.{live_posts}
use Rattle.input_core.proofs.values.valued.Goals as goal

pub returns-clause-live : goal.returns-clause-live
returns-clause-live c =
    record {
      pointer = c.requires.effects.pointer;
      raise = c.requires.effects.raise;
      value = c.value_id.ensures.live;
      text = c.requires.effects.text;
      caret = c.requires.effects.caret;
      moved = c.requires.effects.moved;
      posts = live_posts c.args.tree.now c.posted.result None c.of-effects.result c.of-effects.ensures c.posted.ensures.live tt;
    }
