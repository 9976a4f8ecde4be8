use Rattle.std.proofs.Common.{refl}
use Rattle.kind_core.specs.declared.kinds.Kind.TheVariants.{Grid}
use Rattle.widget_model.specs.Rows.{with_row_rule}
use Rattle.widget_model.proofs.Fit.{is_fit-with_row_rule}
use Rattle.tree_core.proofs.TreeKept.{live_row, live_edited, kind_live, IsTree-leaves}
use Rattle.tree_core.proofs.tree.Tree.set_row_rule.Goals as goal

pub invariant_of-self : goal.invariant_of-self
invariant_of-self c =
    let found = live_row c.self.view_is c.args.id.key (kind_live c.args.self.now c.args.id.key Grid c.requires.grid) in
    rw c.change.ensures (IsTree-leaves c.self.invariant c.args.id.key found.0 found.1 (with_row_rule c.args.index (c.args.size, c.args.weight)) (record { node = λ r. refl; link = λ r. refl; attached = λ r. refl }) (is_fit-with_row_rule found.0 c.args.index c.args.size c.args.weight c.requires.size c.requires.weight) (λ fit. fit))

pub returns-clause-valid : goal.returns-clause-valid
returns-clause-valid c =
    let found = live_row c.self.view_is c.args.id.key (kind_live c.args.self.now c.args.id.key Grid c.requires.grid) in
    rw c.change.ensures (IsTree-leaves c.self.invariant c.args.id.key found.0 found.1 (with_row_rule c.args.index (c.args.size, c.args.weight)) (record { node = λ r. refl; link = λ r. refl; attached = λ r. refl }) (is_fit-with_row_rule found.0 c.args.index c.args.size c.args.weight c.requires.size c.requires.weight) (λ fit. fit)).widgets

pub returns-clause-kept : goal.returns-clause-kept
returns-clause-kept c = λ other live. rw c.change.ensures (live_edited c.self.view_is c.args.id.key _ other live)
