use Rattle.grid_layout.proofs.Shares.{sum-shares_of, sum-widths_of, sum-take-widths_of}
use Rattle.grid_layout.proofs.laws.sums.Goals as goal

pub returns-clause-shares : goal.returns-clause-shares
returns-clause-shares c = sum-shares_of

pub returns-clause-widths : goal.returns-clause-widths
returns-clause-widths c = sum-widths_of

pub returns-clause-first : goal.returns-clause-first
returns-clause-first c = sum-take-widths_of
