use Rattle.shot_core.proofs.Bare.{IsShot-bare}
use Rattle.shot_core.proofs.shot.Shot.new.Goals as goal

pub invariant_of-result : goal.invariant_of-result
invariant_of-result c = IsShot-bare _ c.new.ensures c.new-2.ensures c.in_ok-spots.ensures.len c.in_ok-spots.ensures.none

pub returns-clause-valid : goal.returns-clause-valid
returns-clause-valid c = IsShot-bare _ c.new.ensures c.new-2.ensures c.in_ok-spots.ensures.len c.in_ok-spots.ensures.none
