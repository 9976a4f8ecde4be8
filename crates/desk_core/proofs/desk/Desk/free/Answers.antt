use Rattle.std.proofs.Common.{◌≡◌, ℕ, false, List, Option, Some, None, sym, ap, ◌∙◌, subst}
use Rattle.std.specs.Prelude.{IfSome}
use Rattle.widget_model.specs.Clients.{is_joined}
use Rattle.desk_model.specs.Desk.{is_connected}
use Rattle.desk_model.specs.Clients.{free_client}
use Rattle.desk_core.specs.View.{DeskView}
use Rattle.desk_core.proofs.desk.Desk.free.Goals as goal

pub returns-clause-free : goal.returns-clause-free
returns-clause-free c =
    c.free.ensures.free ∙ ap free_client c.self.invariant.parts.clients ∙ ap (λ (s : DeskView). free_client s.desk.clients) c.self.view_is

pub returns-clause-new_client : goal.returns-clause-new_client
returns-clause-new_client c =
    let N : DeskView → Type 0 = λ s. IfSome c.free.result (λ client. is_connected s.desk client ≡ false) in
    let M : List ℕ → Type 0 = λ clients. IfSome c.free.result (λ client. is_joined clients client ≡ false) in
    subst N c.self.view_is (subst M c.self.invariant.parts.clients c.free.ensures.new_client)
