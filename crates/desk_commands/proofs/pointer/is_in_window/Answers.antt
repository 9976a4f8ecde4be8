use Rattle.widget_model.specs.Widgets.{key_at}
use Rattle.desk_commands.proofs.InWindows.{in_window-live, if_some-same}
use Rattle.desk_commands.proofs.pointer.is_in_window.Goals as goal

pub returns : goal.returns
returns c stage =
    if_some-same (key_at c.args.tree.now.entries c.args.id.key) _ _ _ c.holds.ensures.found (in_window-live c.args.tree.now c.args.windows.now c.args.id.key c.root.result.key stage c.requires.parts c.root.ensures.found c.root.ensures.live)
