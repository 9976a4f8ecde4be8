use Rattle.std.proofs.Common.{◌*◌}
use Rattle.redraw_core.proofs.QueueLemmas.{marks-new, IsDirt-in}
use Rattle.redraw_core.proofs.queue.Queue.new.Goals as goal

pub returns-clause-clean : goal.returns-clause-clean
returns-clause-clean c = marks-new c.new-2.result.items c.in-Ok.map (c.args.width * c.args.height) c.new-2.ensures c.in-Ok.ensures.valid c.in-Ok.ensures.clean

pub returns-clause-valid : goal.returns-clause-valid
returns-clause-valid c = IsDirt-in c.new-2.result.items c.in-Ok.map c.in-Ok.ensures.valid
