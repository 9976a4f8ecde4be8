use Rattle.std.proofs.Common.{◌≡◌, Some, sym, ap, ◌∙◌}
use Rattle.std.specs.Option.{option_map}
use Rattle.kind_core.specs.declared.kinds.Kind.TheVariants.{VScreen}
use Rattle.widget_model.specs.Rows.{Row}
use Rattle.widget_model.specs.Widgets.{Widgets, row_kind}
use Rattle.tree_core.proofs.TreeKept.{live_row, live_edited, kind_live, IsTree-film}
use Rattle.tree_core.proofs.tree.Tree.set_film.Goals as goal

pub invariant_of-self : goal.invariant_of-self
invariant_of-self c =
    let found = live_row c.self.view_is c.args.id.key (kind_live c.args.self.now c.args.id.key VScreen c.requires) in
    let kind : Some (found.0).kind ≡ Some VScreen = ap (option_map (λ (row : Row). row.kind)) (sym found.1) ∙ ap (λ (w : Widgets). row_kind w.entries c.args.id.key) c.self.view_is ∙ c.requires in
    rw c.swap_film.ensures.film (IsTree-film c.self.invariant c.args.id.key found.0 found.1 (Some c.args.film) (cc, c.width.ensures.valid))

pub returns-clause-valid : goal.returns-clause-valid
returns-clause-valid c =
    let found = live_row c.self.view_is c.args.id.key (kind_live c.args.self.now c.args.id.key VScreen c.requires) in
    let kind : Some (found.0).kind ≡ Some VScreen = ap (option_map (λ (row : Row). row.kind)) (sym found.1) ∙ ap (λ (w : Widgets). row_kind w.entries c.args.id.key) c.self.view_is ∙ c.requires in
    rw c.swap_film.ensures.film (IsTree-film c.self.invariant c.args.id.key found.0 found.1 (Some c.args.film) (cc, c.width.ensures.valid)).widgets

pub returns-clause-kept : goal.returns-clause-kept
returns-clause-kept c = λ other live. rw c.swap_film.ensures.film (live_edited c.self.view_is c.args.id.key _ other live)
