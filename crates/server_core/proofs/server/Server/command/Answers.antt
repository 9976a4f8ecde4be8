use Rattle.std.proofs.Common.{Bool, sym, ap, subst}
use Rattle.std.specs.Bool.{OnTrue}
use Rattle.desk_model.specs.Desk.{Desk}
use Rattle.desk_model.specs.Commands.{step}
use Rattle.desk_core.specs.Asking.{StaysAsItWas}
use Rattle.machine_model.proofs.Steps.{shape-step_command}
use Rattle.server_core.proofs.Reaching.{shows_still, marked_still}
use Rattle.server_core.specs.Calls.{Follows}
use Rattle.server_core.proofs.Parts.{shape_of_step, step_of_parts}
use Rattle.server_core.proofs.server.Server.command.Goals as goal

-- what follows for the dirt and for the shot
follows : (c : goal.After-follow_call) → Follows c.self.inside.desk c.step-reply.new.self c.self.inside.queue c.follow_call.new.queue c.follow_call.new.shown
follows c =
    c.follow_call.ensures c.self.inside.desk (record {
      shape = shape_of_step c.self.inside.desk.desk c.step-reply.new.self.desk (λ short. step c.self.inside.desk.desk c.args.client c.args.command.now c.args.payload.now short) c.step-reply.result (shape-step_command c.self.inside.desk.desk c.args.client c.args.command.now c.args.payload.now) c.step-reply.ensures.step;
      valid = c.step-reply.ensures.valid;
      shows = c.self.invariant.1;
      numbered = c.step-reply.ensures.numbered;
      still = c.step-reply.ensures.still;
      touched = c.step-reply.ensures.touched;
    })

pub invariant_of-self-2 : goal.invariant_of-self-2
invariant_of-self-2 c = (
  (step_of_parts c.self.inside.desk.desk c.step-reply.new.self.desk (λ short. step c.self.inside.desk.desk c.args.client c.args.command.now c.args.payload.now short) c.step-reply.result (shape_of_step c.self.inside.desk.desk c.step-reply.new.self.desk (λ short. step c.self.inside.desk.desk c.args.client c.args.command.now c.args.payload.now short) c.step-reply.result (shape-step_command c.self.inside.desk.desk c.args.client c.args.command.now c.args.payload.now) c.step-reply.ensures.step) c.step-reply.ensures.valid c.self.invariant.0 c.step-reply.ensures.step (follows c).marked).1,
  (follows c).shows,
)

pub returns-clause-step : goal.returns-clause-step
returns-clause-step c = rw (← c.self.view_is) (step_of_parts c.self.inside.desk.desk c.step-reply.new.self.desk (λ short. step c.self.inside.desk.desk c.args.client c.args.command.now c.args.payload.now short) c.step-reply.result (shape_of_step c.self.inside.desk.desk c.step-reply.new.self.desk (λ short. step c.self.inside.desk.desk c.args.client c.args.command.now c.args.payload.now short) c.step-reply.result (shape-step_command c.self.inside.desk.desk c.args.client c.args.command.now c.args.payload.now) c.step-reply.ensures.step) c.step-reply.ensures.valid c.self.invariant.0 c.step-reply.ensures.step (follows c).marked).0

pub returns-clause-valid : goal.returns-clause-valid
returns-clause-valid c = (invariant_of-self-2 c).0.state

-- a command that only asks
stays : (c : goal.After-step) → StaysAsItWas c.self.inside.desk c.step.new.self
stays c = subst (λ (b : Bool). OnTrue b (StaysAsItWas c.self.inside.desk c.step.new.self)) (sym c.if-only_asks.ensures) c.step.ensures.asking

pub invariant_of-self : goal.invariant_of-self
invariant_of-self c = (
  (step_of_parts c.self.inside.desk.desk c.step.new.self.desk (λ short. step c.self.inside.desk.desk c.args.client c.args.command.now c.args.payload.now short) c.step.result (ap (λ (d : Desk). d.shape) (stays c).desk) c.step.ensures.valid c.self.invariant.0 c.step.ensures.step
      (marked_still c.self.inside.desk.desk c.step.new.self.desk c.self.inside.queue c.self.invariant.0.state.desk c.self.invariant.0.dirt (stays c).desk)).1,
  shows_still c.self.inside.desk c.step.new.self c.self.inside.shown (stays c) c.self.invariant.1,
)

pub returns-then-only_asks-clause-step : goal.returns-then-only_asks-clause-step
returns-then-only_asks-clause-step c =
    rw (← c.self.view_is)
    (step_of_parts c.self.inside.desk.desk c.step.new.self.desk (λ short. step c.self.inside.desk.desk c.args.client c.args.command.now c.args.payload.now short) c.step.result (ap (λ (d : Desk). d.shape) (stays c).desk) c.step.ensures.valid c.self.invariant.0 c.step.ensures.step
    (marked_still c.self.inside.desk.desk c.step.new.self.desk c.self.inside.queue c.self.invariant.0.state.desk c.self.invariant.0.dirt (stays c).desk)).0
