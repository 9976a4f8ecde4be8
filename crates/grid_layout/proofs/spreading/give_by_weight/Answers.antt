use Rattle.std.proofs.Common.{◌≡◌, ◌<◌, ◌≤◌, ◌≢◌, ◌+◌, ◌-◌, length, get_or, sum, take, arith, ◌∙◌, below_more, get_or-set_other, get_or-set_same, length-set}
use Rattle.std.proofs.lemmas.List.Sums.{sum_by_more}
use Rattle.std.proofs.lemmas.List.FromFn.{fill_by_all}
use Rattle.grid_layout.specs.Spread.{part_before}
use Rattle.grid_layout.proofs.Shares.{first_weights_small, product_small, width_written}
use Rattle.grid_layout.proofs.spreading.give_by_weight.Goals as goal

pub overflow_mul-before : goal.overflow_mul-before
overflow_mul-before c =
    let few : length c.args.weights.now ≤ 16 = omega arith in
    omega (arith, product_small c.args.extra c.loop-i.passed c.requires.extra_small (omega (arith, first_weights_small c.args.weights.now c.loop-i.i few c.requires.weights_small)))

pub overflow_mul-upto : goal.overflow_mul-upto
overflow_mul-upto c =
    let weights = c.args.weights.now in
    let few : length weights ≤ 16 = omega arith in
    let more = sum_by_more (λ x. x) weights c.loop-i.i 0 (omega arith) in
    omega (arith, product_small c.args.extra (c.loop-i.passed + get_or weights c.loop-i.i 0) c.requires.extra_small (omega (arith, more, first_weights_small weights (c.loop-i.i + 1) few c.requires.weights_small)))

pub loop-i-preserved : goal.loop-i-preserved
loop-i-preserved c =
    let weights = c.args.weights.now in
    let i = c.loop-i.i in
    let more = sum_by_more (λ x. x) weights i 0 (omega arith) in
    let weighed : c.loop-i.passed + get_or weights i 0 ≡ sum (take (i + 1) weights) = omega (arith, more) in
    let here : i < length c.loop-i.out = omega arith in
    record {
      places = length-set c.loop-i.out i _ ∙ c.loop-i.invariant.places;
      weighed = weighed;
      widths = below_more _ _
          (λ k h. let ne : k ≢ i = omega arith in rw get_or-set_other (c.loop-i.invariant.widths k h))
          (rw get_or-set_same (width_written c.args.extra (get_or c.args.least.now i 0) c.loop-i.passed (c.loop-i.passed + get_or weights i 0) c.args.all weights i c.loop-i.invariant.weighed weighed c.requires.weighed));
    }

pub returns : goal.returns
returns c =
    let least = c.args.least.now in
    fill_by_all (λ i. get_or least i 0 + (part_before c.args.weights.now c.args.extra (i + 1) - part_before c.args.weights.now c.args.extra i)) c.loop-i.out (length least) 0 c.loop-i.invariant.places (λ k h. c.loop-i.invariant.widths k (omega arith))
