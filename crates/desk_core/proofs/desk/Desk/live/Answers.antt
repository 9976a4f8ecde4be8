use Rattle.std.proofs.Common.{subst}
use Rattle.desk_model.specs.DeskFacts.{IsDesk}
use Rattle.desk_core.specs.View.{DeskView}
use Rattle.desk_core.proofs.desk.Desk.live.Goals as goal

pub returns-clause-valid : goal.returns-clause-valid
returns-clause-valid c =
    let D : DeskView → Type 0 = λ s. IsDesk s.desk in
    subst D c.self.view_is c.self.invariant.desk
