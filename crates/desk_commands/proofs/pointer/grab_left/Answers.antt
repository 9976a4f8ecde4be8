use Rattle.std.proofs.Common.{true, false, sym, ap, ◌∙◌}
use Rattle.tree_core.specs.Holds.{grab_seen}
use Rattle.desk_model.specs.LetGo.{is_in_window, grab_left}
use Rattle.desk_commands.specs.Parts.{desk_of}
use Rattle.desk_commands.proofs.InWindows.{widget-left, drag-left}
use Rattle.desk_commands.proofs.pointer.grab_left.Goals as goal

pub returns-then-is_in_window-clause-left : goal.returns-then-is_in_window-clause-left
returns-then-is_in_window-clause-left c stage =
    let es = c.args.tree.now.entries in
    let stays = is_in_window (desk_of stage c.args.tree.now c.args.windows.now) in
    widget-left es stays c.in-Widget.id.key true (c.if-is_in_window.ensures stage) ∙ ap (λ grab. grab_left stays (grab_seen es grab)) (sym c.in-Widget.is)

pub returns-else-is_in_window-clause-left : goal.returns-else-is_in_window-clause-left
returns-else-is_in_window-clause-left c stage =
    let es = c.args.tree.now.entries in
    let stays = is_in_window (desk_of stage c.args.tree.now c.args.windows.now) in
    widget-left es stays c.in-Widget.id.key false (c.if-is_in_window.ensures stage) ∙ ap (λ grab. grab_left stays (grab_seen es grab)) (sym c.in-Widget.is)

pub returns-then-is_in_window-2-clause-left : goal.returns-then-is_in_window-2-clause-left
returns-then-is_in_window-2-clause-left c stage =
    let es = c.args.tree.now.entries in
    let stays = is_in_window (desk_of stage c.args.tree.now c.args.windows.now) in
    drag-left es stays c.in-Drag.id.key c.in-Drag.dx c.in-Drag.dy true (c.if-is_in_window-2.ensures stage) ∙ ap (λ grab. grab_left stays (grab_seen es grab)) (sym c.in-Drag.is)

pub returns-else-is_in_window-2-clause-left : goal.returns-else-is_in_window-2-clause-left
returns-else-is_in_window-2-clause-left c stage =
    let es = c.args.tree.now.entries in
    let stays = is_in_window (desk_of stage c.args.tree.now c.args.windows.now) in
    drag-left es stays c.in-Drag.id.key c.in-Drag.dx c.in-Drag.dy false (c.if-is_in_window-2.ensures stage) ∙ ap (λ grab. grab_left stays (grab_seen es grab)) (sym c.in-Drag.is)
