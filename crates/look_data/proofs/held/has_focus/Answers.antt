use Rattle.std.proofs.Common.{false, sym, ap, ◌∙◌}
use Rattle.std.specs.Prelude.{Option}
use Rattle.scene_core.specs.Children.{row_for}
use Rattle.scene_core.proofs.Numbered.{live-there}
use Rattle.std.specs.Option.{option_map_or, option_and_then}
use Rattle.tree_core.specs.declared.id.Id.{Id}
use Rattle.widget_model.specs.Keys.{key_of, same_key}
use Rattle.widget_model.specs.Widgets.{key_at}
use Rattle.scene_core.proofs.OneNumber.{same_number}
use Rattle.look_data.proofs.held.has_focus.Goals as goal

pub returns-in-Some : goal.returns-in-Some
returns-in-Some c =
    let widgets = c.args.view.now.tree.now in
    let row = row_for widgets c.args.id.key in
    sym (
    ap (λ (focus : Option Id). option_map_or (same_key (key_of row)) (option_and_then (λ (id : Id). key_at widgets.entries id.key) focus) false) c.in-Some.is
    ∙ same_number widgets c.args.id.key c.in-Some.focus.key row c.requires.widgets (live-there widgets c.args.id.key c.requires.live)
    )
