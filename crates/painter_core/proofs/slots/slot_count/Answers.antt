use Rattle.std.proofs.Common.{ℕ, length, ap, sym, ◌∙◌}
use Rattle.std.specs.Prelude.{Option}
use Rattle.std.specs.Option.{option_map_or}
use Rattle.kind_core.specs.declared.kinds.Kind.{Kind}
use Rattle.tree_core.specs.Children.{cells_of}
use Rattle.painter_core.specs.Stage.{layers_of}
use Rattle.painter_core.proofs.StageLemmas.{length-windows, length-children}
use Rattle.painter_core.proofs.slots.slot_count.Goals as goal

pub returns-in-None-clause-count : goal.returns-in-None-clause-count
returns-in-None-clause-count c = c.len.ensures.count ∙ sym (length-windows c.args.view.now) ∙ sym (ap (λ (u : Option ℕ). length ((layers_of c.args.view.now).below u)) c.in-None.is)

pub returns-in-Some-clause-count : goal.returns-in-Some-clause-count
returns-in-Some-clause-count c =
    c.cells_of.ensures.count
    ∙ sym (ap (λ (kind : Option Kind). option_map_or cells_of kind 0) c.kind.ensures.kind)
    ∙ sym (length-children c.args.view.now c.in-Some.key)
    ∙ sym (ap (λ (u : Option ℕ). length ((layers_of c.args.view.now).below u)) c.in-Some.is)
