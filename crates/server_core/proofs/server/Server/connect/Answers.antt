use Rattle.std.proofs.lemmas.Bool.{and_from, le-leb}
use Rattle.desk_model.specs.Clients.{step_connect}
use Rattle.machine_model.proofs.Steps.{shape-step_connect}
use Rattle.server_core.specs.Calls.{Follows}
use Rattle.server_core.proofs.Parts.{shape_of_step, step_of_parts}
use Rattle.server_core.proofs.server.Server.connect.Goals as goal

-- what follows for the dirt and for the shot
follows : (c : goal.After-follow_call) → Follows c.self.inside.desk c.connect-reply.new.self c.self.inside.queue c.follow_call.new.queue c.follow_call.new.shown
follows c =
    c.follow_call.ensures c.self.inside.desk (record {
      shape = shape_of_step c.self.inside.desk.desk c.connect-reply.new.self.desk (λ short. step_connect c.self.inside.desk.desk c.args.client short) c.connect-reply.result (shape-step_connect c.self.inside.desk.desk c.args.client) c.connect-reply.ensures.step;
      valid = c.connect-reply.ensures.valid;
      shows = c.self.invariant.1;
      numbered = c.connect-reply.ensures.numbered;
      still = c.connect-reply.ensures.still;
      touched = c.connect-reply.ensures.touched;
    })

pub invariant_of-self : goal.invariant_of-self
invariant_of-self c = (
  (step_of_parts c.self.inside.desk.desk c.connect-reply.new.self.desk (λ short. step_connect c.self.inside.desk.desk c.args.client short) c.connect-reply.result (shape_of_step c.self.inside.desk.desk c.connect-reply.new.self.desk (λ short. step_connect c.self.inside.desk.desk c.args.client short) c.connect-reply.result (shape-step_connect c.self.inside.desk.desk c.args.client) c.connect-reply.ensures.step) c.connect-reply.ensures.valid c.self.invariant.0 c.connect-reply.ensures.step (follows c).marked).1,
  (follows c).shows,
)

pub returns-clause-step : goal.returns-clause-step
returns-clause-step c = rw (← c.self.view_is) (and_from _ _ (le-leb 1 c.args.client c.requires.low) (le-leb c.args.client 16 c.requires.high), (step_of_parts c.self.inside.desk.desk c.connect-reply.new.self.desk (λ short. step_connect c.self.inside.desk.desk c.args.client short) c.connect-reply.result (shape_of_step c.self.inside.desk.desk c.connect-reply.new.self.desk (λ short. step_connect c.self.inside.desk.desk c.args.client short) c.connect-reply.result (shape-step_connect c.self.inside.desk.desk c.args.client) c.connect-reply.ensures.step) c.connect-reply.ensures.valid c.self.invariant.0 c.connect-reply.ensures.step (follows c).marked).0)

pub returns-clause-valid : goal.returns-clause-valid
returns-clause-valid c = (invariant_of-self c).0.state
