use Rattle.std.proofs.Common.{ap}
use Rattle.desk_model.specs.Desk.{Desk}
use Rattle.machine_model.proofs.Opening.{IsState-opening}
use Rattle.machine_model.proofs.Steps.{IsState-same}
use Rattle.server_core.proofs.Parts.{opened}
use Rattle.server_core.proofs.Reaching.{shows_of_desk}
use Rattle.server_core.proofs.server.Server.new.Goals as goal

pub returns-clause-opens : goal.returns-clause-opens
returns-clause-opens c =
    opened c.args.shape c.new-desk.result.desk c.in-Ok.canvas.bytes c.in-Ok-new.queue.marks c.new-desk.ensures.opening c.in-Ok.ensures.bytes c.in-Ok-new.ensures.clean

pub returns-clause-valid : goal.returns-clause-valid
returns-clause-valid c = IsState-same _ _ (returns-clause-opens c) (IsState-opening c.args.shape c.requires)

pub invariant_of-result : goal.invariant_of-result
invariant_of-result c = (
  record {
    state = returns-clause-valid c;
    shape_is = ap (λ (d : Desk). d.shape) c.new-desk.ensures.opening;
    screen = c.in-Ok.ensures.valid;
    width = c.in-Ok.ensures.width;
    height = c.in-Ok.ensures.height;
    dirt = c.in-Ok-new.ensures.valid;
    dirt_width = c.in-Ok-new.ensures.width;
    dirt_height = c.in-Ok-new.ensures.height;
  },
  shows_of_desk c.new-desk.result c.view.result c.shot.new.out c.view.ensures.scene c.view.ensures.tree c.view.ensures.stack c.view.ensures.view c.shot.ensures.shot,
)
