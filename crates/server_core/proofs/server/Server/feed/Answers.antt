use Rattle.std.proofs.Common.{refl, ap, ◌∙◌}
use Rattle.desk_model.specs.Desk.{Desk}
use Rattle.desk_model.specs.Feeding.{step_feed}
use Rattle.machine_model.proofs.Steps.{shape-step_feed}
use Rattle.server_core.specs.Calls.{Follows}
use Rattle.server_core.proofs.Parts.{fed_of_parts}
use Rattle.server_core.proofs.server.Server.feed.Goals as goal

-- what follows for the dirt and for the shot
follows : (c : goal.After-follow_call) → Follows c.self.inside.desk c.feed.new.self c.self.inside.queue c.follow_call.new.queue c.follow_call.new.shown
follows c =
    c.follow_call.ensures c.self.inside.desk (record {
      shape = ap (λ (d : Desk). d.shape) c.feed.ensures.step ∙ shape-step_feed c.self.inside.desk.desk c.args.input;
      valid = c.feed.ensures.valid;
      shows = c.self.invariant.1;
      numbered = c.feed.ensures.numbered;
      still = c.feed.ensures.still;
      touched = c.feed.ensures.touched;
    })

pub invariant_of-self : goal.invariant_of-self
invariant_of-self c = (
  (fed_of_parts c.self.inside.desk.desk c.feed.new.self.desk (step_feed c.self.inside.desk.desk c.args.input) (ap (λ (d : Desk). d.shape) c.feed.ensures.step ∙ shape-step_feed c.self.inside.desk.desk c.args.input) c.feed.ensures.valid c.self.invariant.0 c.feed.ensures.step (follows c).marked).1,
  (follows c).shows,
)

pub returns-clause-step : goal.returns-clause-step
returns-clause-step c =
    rw (← c.self.view_is)
    (refl, (fed_of_parts c.self.inside.desk.desk c.feed.new.self.desk (step_feed c.self.inside.desk.desk c.args.input) (ap (λ (d : Desk). d.shape) c.feed.ensures.step ∙ shape-step_feed c.self.inside.desk.desk c.args.input) c.feed.ensures.valid c.self.invariant.0 c.feed.ensures.step (follows c).marked).0)

pub returns-clause-valid : goal.returns-clause-valid
returns-clause-valid c = (invariant_of-self c).0.state
