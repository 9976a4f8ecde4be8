use Rattle.std.proofs.Common.{◌+◌, ◌/◌, ◌∙◌, sym, ap, arith, cond, get_or, length}
use Rattle.look_core.proofs.LetterLemmas.{no_letter, one_letter, all_letters}
use Rattle.look_core.proofs.lettering.write_letters.Goals as goal

pub loop-k-init : goal.loop-k-init
loop-k-init c = λ i low.
    ap (λ b. cond b c.args.colour (get_or c.args.out.now i 0)) (sym (no_letter c.args.text.now c.args.x c.args.row (c.args.from + i) c.args.from (c.saturating_sub.result / 6) (omega arith) (omega arith)))

pub loop-k-preserved : goal.loop-k-preserved
loop-k-preserved c = λ i low. one_letter c.args.text.now c.args.x c.args.row (c.args.from + i) c.loop-k.k c.args.colour (get_or c.args.out.now i 0) (get_or c.loop-k.out i 0) (get_or c.write_letter.new.out i 0) (omega arith) (c.loop-k.invariant i (omega arith)) (c.write_letter.ensures i low)

pub returns : goal.returns
returns c = λ i low. c.loop-k.invariant i low ∙ ap (λ b. cond b c.args.colour (get_or c.args.out.now i 0)) (all_letters c.args.text.now c.args.x c.args.row (c.args.from + i) (c.args.from + length c.args.out.now) c.loop-k.k (omega arith) (omega arith))
