use Rattle.machine_model.proofs.Ticks.{TickedWith-lost_marks}
use Rattle.server_core.proofs.laws.each_tick_cleans_a_chosen_set.Goals as goal

pub returns : goal.returns
returns c = TickedWith-lost_marks
