use Rattle.std.proofs.Common.{refl, ap}
use Rattle.desk_core.specs.View.{DeskView}
use Rattle.desk_core.proofs.Visits.{visit-of}
use Rattle.desk_core.proofs.desk.Desk.stay.Goals as goal

pub returns-clause-put : goal.returns-clause-put
returns-clause-put c =
    record {
      desk = ap (λ (s : DeskView). s.desk) c.self.view_is;
      widgets = ap (λ (s : DeskView). s.widgets) c.self.view_is;
      windows = ap (λ (s : DeskView). s.windows) c.self.view_is;
    }

pub returns-clause-valid : goal.returns-clause-valid
returns-clause-valid c = c.self.invariant.desk

pub returns-clause-visit : goal.returns-clause-visit
returns-clause-visit c =
    let i = c.self.inside in
    visit-of c.args.self.now i.shape i.roster i.clients i.clients i.pointer i.tree i.tree i.windows i.changed i.moved i.touched.looks.items c.forget.new.touched.looks.items c.self.invariant c.self.view_is refl c.forget.ensures
