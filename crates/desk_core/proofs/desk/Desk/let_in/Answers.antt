use Rattle.std.proofs.Common.{◌≡◌, false, ap, sym, ◌∙◌, subst}
use Rattle.std.specs.Prelude.{OnOk, OnErr}
use Rattle.std.proofs.lemmas.Bool.{and_from, le-leb}
use Rattle.desk_model.specs.Desk.{is_connected}
use Rattle.desk_model.specs.Clients.{with_client}
use Rattle.desk_commands.specs.Parts.{desk_of, stage_of}
use Rattle.desk_core.specs.View.{DeskView}
use Rattle.desk_core.proofs.Comings.{let_in-kept, let_in-entries, let_in-ok, let_in-err}
use Rattle.desk_core.proofs.Visits.{visit-of}
use Rattle.desk_core.proofs.desk.Desk.let_in.Goals as goal

pub invariant_of-self : goal.invariant_of-self
invariant_of-self c =
    let i = c.self.inside in
    let_in-kept i.shape i.pointer i.clients c.join.new.clients i.tree c.join.new.tree i.windows i.roster c.args.client c.join.result c.join.ensures.ok c.join.ensures.err c.self.invariant c.join.ensures.valid
    (and_from _ _ (le-leb 1 c.args.client c.requires.low) (le-leb c.args.client 16 c.requires.high))
    (ap (λ (s : DeskView). is_connected s.desk c.args.client) c.self.view_is ∙ c.requires.new_client)

pub returns-clause-ok : goal.returns-clause-ok
returns-clause-ok c =
    let i = c.self.inside in
    let P : DeskView → Type 0 = λ s. OnOk c.join.result (desk_of (stage_of i.shape i.roster c.join.new.clients c.join.new.tree i.pointer) c.join.new.tree i.windows ≡ with_client c.args.client s.desk) in
    subst P c.self.view_is (let_in-ok i.shape i.pointer i.clients c.join.new.clients i.tree c.join.new.tree i.windows i.roster c.args.client c.join.result c.join.ensures.ok)

pub returns-clause-err : goal.returns-clause-err
returns-clause-err c =
    let i = c.self.inside in
    let P : DeskView → Type 0 = λ s. OnErr c.join.result (desk_of (stage_of i.shape i.roster c.join.new.clients c.join.new.tree i.pointer) c.join.new.tree i.windows ≡ s.desk) in
    subst P c.self.view_is (let_in-err i.shape i.pointer i.clients c.join.new.clients i.tree c.join.new.tree i.windows i.roster c.args.client c.join.result c.join.ensures.err)

pub returns-clause-valid : goal.returns-clause-valid
returns-clause-valid c = (invariant_of-self c).desk

pub returns-clause-visit : goal.returns-clause-visit
returns-clause-visit c =
    let i = c.self.inside in
    visit-of c.args.self.now i.shape i.roster i.clients c.join.new.clients i.pointer i.tree c.join.new.tree i.windows i.changed i.moved i.touched.looks.items c.forget.new.touched.looks.items c.self.invariant c.self.view_is
    (let_in-entries i.shape i.pointer i.clients c.join.new.clients i.tree c.join.new.tree i.windows i.roster c.args.client c.join.result c.join.ensures.ok c.join.ensures.err) c.forget.ensures
