use Rattle.std.proofs.Common.{◌≡◌, Ok, refl, sym, ap, ◌∙◌}
use Rattle.kind_core.specs.declared.kinds.Kind.{Kind}
use Rattle.kind_core.specs.Attributes.{domain_of, judged}
use Rattle.widget_model.specs.Rows.{with_attr}
use Rattle.widget_model.proofs.Fit.{is_fit-with_attr}
use Rattle.tree_core.proofs.TreeKept.{live_edited, IsTree-leaves}
use Rattle.tree_core.proofs.tree.Tree.set_attr.Goals as goal

pub invariant_of-self : goal.invariant_of-self
invariant_of-self c =
    let taken : judged (domain_of c.row.result.now.kind c.args.attr) c.args.value.now ≡ Ok tt = ap (λ (kind : Kind). judged (domain_of kind c.args.attr) c.args.value.now) (sym c.kind-kind.ensures) ∙ sym c.check.ensures ∙ c.in-Ok.is in
    rw c.change.ensures (IsTree-leaves c.self.invariant c.args.id.key c.row.result.now c.row.ensures (with_attr c.args.attr c.args.value.now) (record { node = λ r. refl; link = λ r. refl; attached = λ r. refl }) (is_fit-with_attr c.row.result.now c.args.attr c.args.value.now taken) (λ fit. fit))

pub returns-clause-valid : goal.returns-clause-valid
returns-clause-valid c =
    let taken : judged (domain_of c.row.result.now.kind c.args.attr) c.args.value.now ≡ Ok tt = ap (λ (kind : Kind). judged (domain_of kind c.args.attr) c.args.value.now) (sym c.kind-kind.ensures) ∙ sym c.check.ensures ∙ c.in-Ok.is in
    rw c.change.ensures (IsTree-leaves c.self.invariant c.args.id.key c.row.result.now c.row.ensures (with_attr c.args.attr c.args.value.now) (record { node = λ r. refl; link = λ r. refl; attached = λ r. refl }) (is_fit-with_attr c.row.result.now c.args.attr c.args.value.now taken) (λ fit. fit)).widgets

pub returns-clause-kept : goal.returns-clause-kept
returns-clause-kept c = λ other live. rw c.change.ensures (live_edited c.self.view_is c.args.id.key _ other live)
