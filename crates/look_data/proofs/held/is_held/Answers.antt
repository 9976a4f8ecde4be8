use Rattle.std.proofs.Common.{sym, ap, ◌∙◌}
use Rattle.scene_core.specs.Children.{row_for}
use Rattle.scene_core.proofs.Numbered.{live-there}
use Rattle.tree_core.specs.declared.pointer.Grab.{Grab}
use Rattle.tree_core.specs.Holds.{grab_seen}
use Rattle.widget_model.specs.Keys.{key_of}
use Rattle.widget_model.specs.Widgets.{key_at}
use Rattle.scene_model.specs.LookOf.{grabs}
use Rattle.scene_core.proofs.OneNumber.{same_number, grabs-widget}
use Rattle.look_data.proofs.held.is_held.Goals as goal

pub returns-in-Widget : goal.returns-in-Widget
returns-in-Widget c =
    let widgets = c.args.view.now.tree.now in
    let row = row_for widgets c.args.id.key in
    sym (
    ap (λ (grab : Grab). grabs (grab_seen widgets.entries grab) (key_of row)) c.in-Widget.is
    ∙ grabs-widget (key_at widgets.entries c.in-Widget.held.key) (key_of row)
    ∙ same_number widgets c.args.id.key c.in-Widget.held.key row c.requires.widgets (live-there widgets c.args.id.key c.requires.live)
    )
