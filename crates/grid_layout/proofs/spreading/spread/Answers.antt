use Rattle.std.proofs.Common.{arith}
use Rattle.grid_layout.proofs.Shares.{least_sum_small, weights_sum_small}
use Rattle.grid_layout.proofs.spreading.spread.Goals as goal

pub sum_of-requires : goal.sum_of-requires
sum_of-requires c = omega (arith, least_sum_small c.args.least.now c.requires.few c.requires.least_small)

pub sum_of-all-requires : goal.sum_of-all-requires
sum_of-all-requires c = omega (arith, weights_sum_small c.args.weights.now (omega arith) c.requires.weights_small)
