use Rattle.std.proofs.Common.{ℕ, List, ap, ◌∙◌}
use Rattle.widget_model.specs.Clients.{is_joined}
use Rattle.desk_model.specs.Desk.{is_connected}
use Rattle.desk_core.specs.View.{DeskView}
use Rattle.desk_core.proofs.desk.Desk.has.Goals as goal

pub returns : goal.returns
returns c =
    c.has.ensures ∙ ap (λ (clients : List ℕ). is_joined clients c.args.client) c.self.invariant.parts.clients ∙ ap (λ (s : DeskView). is_connected s.desk c.args.client) c.self.view_is
