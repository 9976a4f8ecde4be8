use Rattle.std.proofs.Common.{refl}
use Rattle.widget_model.specs.Rows.{with_binding}
use Rattle.widget_model.proofs.Fit.{is_fit-with_binding}
use Rattle.tree_core.proofs.TreeKept.{live_row, live_edited, IsTree-leaves}
use Rattle.tree_core.proofs.tree.Tree.set_binding.Goals as goal

pub invariant_of-self : goal.invariant_of-self
invariant_of-self c =
    let found = live_row c.self.view_is c.args.id.key c.requires in
    rw c.change.ensures (IsTree-leaves c.self.invariant c.args.id.key found.0 found.1 (with_binding c.args.event c.args.tag) (record { node = λ r. refl; link = λ r. refl; attached = λ r. refl }) (is_fit-with_binding found.0 c.args.event c.args.tag) (λ fit. fit))

pub returns-clause-valid : goal.returns-clause-valid
returns-clause-valid c =
    let found = live_row c.self.view_is c.args.id.key c.requires in
    rw c.change.ensures (IsTree-leaves c.self.invariant c.args.id.key found.0 found.1 (with_binding c.args.event c.args.tag) (record { node = λ r. refl; link = λ r. refl; attached = λ r. refl }) (is_fit-with_binding found.0 c.args.event c.args.tag) (λ fit. fit)).widgets

pub returns-clause-kept : goal.returns-clause-kept
returns-clause-kept c = λ other live. rw c.change.ensures (live_edited c.self.view_is c.args.id.key _ other live)
