use Rattle.std.proofs.Common.{arith, map}
use Rattle.look_data.specs.Kept.{kept_in}
use Rattle.look_data.specs.Looks.{seen_one}
use Rattle.look_data.proofs.LooksLemmas.{named-more}
use Rattle.look_data.proofs.watching.named_looks.Goals as goal

pub loop-id-preserved : goal.loop-id-preserved
loop-id-preserved c = record {
  few = omega (arith, c.loop-id.invariant.few, c.put_look.ensures.few);
  looks = named-more (kept_in c.args.view.now) c.args.named.now c.loop-id.id-index _ (map seen_one c.loop-id.looks.items) (map seen_one c.put_look.new.looks.items) (omega arith) c.loop-id.invariant.looks c.put_look.ensures.look;
}
