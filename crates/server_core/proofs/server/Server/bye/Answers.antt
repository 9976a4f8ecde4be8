use Rattle.desk_model.specs.Clients.{step_bye}
use Rattle.machine_model.proofs.Steps.{shape-step_bye}
use Rattle.server_core.specs.Calls.{Follows}
use Rattle.server_core.proofs.Parts.{shape_of_step, step_of_parts}
use Rattle.server_core.proofs.server.Server.bye.Goals as goal

-- what follows for the dirt and for the shot
follows : (c : goal.After-follow_call) → Follows c.self.inside.desk c.bye-reply.new.self c.self.inside.queue c.follow_call.new.queue c.follow_call.new.shown
follows c =
    c.follow_call.ensures c.self.inside.desk (record {
      shape = shape_of_step c.self.inside.desk.desk c.bye-reply.new.self.desk (λ short. step_bye c.self.inside.desk.desk c.args.client) c.bye-reply.result (λ short. shape-step_bye c.self.inside.desk.desk c.args.client) c.bye-reply.ensures.step;
      valid = c.bye-reply.ensures.valid;
      shows = c.self.invariant.1;
      numbered = c.bye-reply.ensures.numbered;
      still = c.bye-reply.ensures.still;
      touched = c.bye-reply.ensures.touched;
    })

pub invariant_of-self : goal.invariant_of-self
invariant_of-self c = (
  (step_of_parts c.self.inside.desk.desk c.bye-reply.new.self.desk (λ short. step_bye c.self.inside.desk.desk c.args.client) c.bye-reply.result (shape_of_step c.self.inside.desk.desk c.bye-reply.new.self.desk (λ short. step_bye c.self.inside.desk.desk c.args.client) c.bye-reply.result (λ short. shape-step_bye c.self.inside.desk.desk c.args.client) c.bye-reply.ensures.step) c.bye-reply.ensures.valid c.self.invariant.0 c.bye-reply.ensures.step (follows c).marked).1,
  (follows c).shows,
)

pub returns-clause-step : goal.returns-clause-step
returns-clause-step c = rw (← c.self.view_is) (step_of_parts c.self.inside.desk.desk c.bye-reply.new.self.desk (λ short. step_bye c.self.inside.desk.desk c.args.client) c.bye-reply.result (shape_of_step c.self.inside.desk.desk c.bye-reply.new.self.desk (λ short. step_bye c.self.inside.desk.desk c.args.client) c.bye-reply.result (λ short. shape-step_bye c.self.inside.desk.desk c.args.client) c.bye-reply.ensures.step) c.bye-reply.ensures.valid c.self.invariant.0 c.bye-reply.ensures.step (follows c).marked).0

pub returns-clause-valid : goal.returns-clause-valid
returns-clause-valid c = (invariant_of-self c).0.state
