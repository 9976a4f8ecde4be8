use Rattle.geom_core.proofs.ScreenLemmas.{marks_on-at, true_count-marks_on, run_at}
use Rattle.geom_core.proofs.laws.row_major_order.Goals as goal

pub returns-clause-index : goal.returns-clause-index
returns-clause-index c = marks_on-at

pub returns-clause-count : goal.returns-clause-count
returns-clause-count c = true_count-marks_on

pub returns-clause-run : goal.returns-clause-run
returns-clause-run c = run_at
