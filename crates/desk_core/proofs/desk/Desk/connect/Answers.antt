use Rattle.std.proofs.Common.{true, false, ap, sym, ◌∙◌}
use Rattle.cmd_words.specs.declared.replies.Reply.TheVariants.{Done, Refused}
use Rattle.cmd_words.specs.declared.replies.Refusal.TheVariants.{Memory, Connected}
use Rattle.desk_model.specs.Desk.{Desk}
use Rattle.desk_core.proofs.CallSteps.{connect-connected, connect-joined, connect-short, connect-others}
use Rattle.desk_core.proofs.desk.Desk.connect.Goals as goal

pub returns-then-has-clause-step : goal.returns-then-has-clause-step
returns-then-has-clause-step c =
    ap (λ (d : Desk). (Refused Connected, d)) c.stay.ensures.put.desk ∙ connect-connected c.args.self.now.desk c.args.client false c.stay.ensures.visit.desk.held (sym c.if-has.ensures)

pub returns-then-has-clause-others : goal.returns-then-has-clause-others
returns-then-has-clause-others c = connect-others _ _ c.args.client false _ c.stay.ensures.visit.desk (returns-then-has-clause-step c)

pub returns-in-Err-clause-step : goal.returns-in-Err-clause-step
returns-in-Err-clause-step c =
    ap (λ (d : Desk). (Refused Memory, d)) c.in-Err.ensures.err ∙ connect-short c.args.self.now.desk c.args.client c.let_in.ensures.visit.desk.held (sym c.if-has.ensures)

pub returns-in-Err-clause-others : goal.returns-in-Err-clause-others
returns-in-Err-clause-others c = connect-others _ _ c.args.client true _ c.let_in.ensures.visit.desk (returns-in-Err-clause-step c)

pub returns-clause-step : goal.returns-clause-step
returns-clause-step c =
    ap (λ (d : Desk). (Done, d)) c.in-Ok.ensures.ok ∙ connect-joined c.args.self.now.desk c.args.client c.let_in.ensures.visit.desk.held (sym c.if-has.ensures)

pub returns-clause-others : goal.returns-clause-others
returns-clause-others c = connect-others _ _ c.args.client false _ c.let_in.ensures.visit.desk (returns-clause-step c)
