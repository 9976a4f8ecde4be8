use Rattle.std.proofs.Common.{◌≡◌, ◌≤◌, true, false, ap, sym, ◌∙◌, ℤ, pos, arith, to_z, w32}
use Rattle.std.proofs.lemmas.Int.{to_z_pos}
use Rattle.cmd_words.specs.declared.replies.Reply.TheVariants.{Number, Refused}
use Rattle.cmd_words.specs.declared.replies.Refusal.TheVariants.{Memory, Full}
use Rattle.desk_model.specs.Desk.{Desk}
use Rattle.desk_core.proofs.CallSteps.{hello-full, hello-joined, hello-short, hello-others}
use Rattle.desk_core.proofs.desk.Desk.hello.Goals as goal

pub returns-in-None-clause-step : goal.returns-in-None-clause-step
returns-in-None-clause-step c =
    ap (λ (d : Desk). (Refused (Full 16), d)) c.stay.ensures.put.desk ∙ hello-full c.args.self.now.desk false c.stay.ensures.visit.desk.held (sym c.in-None.ensures.free)

pub returns-in-None-clause-others : goal.returns-in-None-clause-others
returns-in-None-clause-others c = hello-others _ _ false _ c.stay.ensures.visit.desk (returns-in-None-clause-step c)

pub returns-in-Err-clause-step : goal.returns-in-Err-clause-step
returns-in-Err-clause-step c =
    ap (λ (d : Desk). (Refused Memory, d)) c.in-Err.ensures.err ∙ hello-short c.args.self.now.desk c.in-Some.client c.let_in.ensures.visit.desk.held (sym c.in-Some.ensures.free)

pub returns-in-Err-clause-others : goal.returns-in-Err-clause-others
returns-in-Err-clause-others c = hello-others _ _ true _ c.let_in.ensures.visit.desk (returns-in-Err-clause-step c)

pub returns-clause-step : goal.returns-clause-step
returns-clause-step c =
    let most : c.in-Some.client ≤ 16 = c.in-Some.ensures.high in
    let number : to_z w32 c.in-Some.client ≡ pos c.in-Some.client = to_z_pos w32 c.in-Some.client (omega (arith, most)) in
    ap (λ (n : ℤ). (Number n, c.let_in.new.self.desk)) number
    ∙ ap (λ (d : Desk). (Number (pos c.in-Some.client), d)) c.in-Ok.ensures.ok
    ∙ hello-joined c.args.self.now.desk c.in-Some.client c.let_in.ensures.visit.desk.held (sym c.in-Some.ensures.free)

pub returns-clause-others : goal.returns-clause-others
returns-clause-others c = hello-others _ _ false _ c.let_in.ensures.visit.desk (returns-clause-step c)
