use Rattle.std.proofs.Common.{Option, ap₂, ◌∙◌}
use Rattle.geom_core.specs.declared.rectangle.Rect.{Rect}
use Rattle.widget_model.specs.Widgets.{rows_of}
use Rattle.tree_core.specs.Holds.{pointer_seen}
use Rattle.desk_model.specs.InputEffects.{Hit}
use Rattle.desk_model.specs.Inputs.{effects_of}
use Rattle.desk_inputs.proofs.asking.asked.Goals as goal

pub returns-clause-effects : goal.returns-clause-effects
returns-clause-effects c =
    let v = c.args.view.now in
    c.route.ensures.effects
    ∙ ap₂ (λ (hit : Option Hit) (held : Option Rect). effects_of (rows_of v.tree.now) (pointer_seen v.tree.now.entries v.pointer.now) hit held v.width v.height c.args.input) c.hit_at-hit.ensures.hit c.held_at-held.ensures.held
