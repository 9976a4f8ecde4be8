use Rattle.machine_model.proofs.Runs.{ComesRight-run}
use Rattle.server_core.proofs.laws.enough_ticks_draw_the_desk_afresh.Goals as goal

pub returns : goal.returns
returns c = λ from ticks is run only. (ComesRight-run from ticks is run only).afresh
