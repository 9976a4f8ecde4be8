use Rattle.std.proofs.Common.{true, false, sym, ap, ◌∙◌}
use Rattle.std.specs.Option.{option_and_then}
use Rattle.widget_model.specs.Widgets.{key_at}
use Rattle.desk_model.specs.LetGo.{is_in_window, focus_left}
use Rattle.desk_commands.specs.Parts.{desk_of}
use Rattle.desk_commands.proofs.InWindows.{focus-left}
use Rattle.desk_commands.proofs.pointer.focus_left.Goals as goal

pub returns-then-is_in_window-clause-left : goal.returns-then-is_in_window-clause-left
returns-then-is_in_window-clause-left c stage =
    let es = c.args.tree.now.entries in
    let stays = is_in_window (desk_of stage c.args.tree.now c.args.windows.now) in
    focus-left es stays c.in-Some.id.key true (c.if-is_in_window.ensures stage) ∙ ap (λ focus. focus_left stays (option_and_then (λ id. key_at es id.key) focus)) (sym c.in-Some.is)

pub returns-else-is_in_window-clause-left : goal.returns-else-is_in_window-clause-left
returns-else-is_in_window-clause-left c stage =
    let es = c.args.tree.now.entries in
    let stays = is_in_window (desk_of stage c.args.tree.now c.args.windows.now) in
    focus-left es stays c.in-Some.id.key false (c.if-is_in_window.ensures stage) ∙ ap (λ focus. focus_left stays (option_and_then (λ id. key_at es id.key) focus)) (sym c.in-Some.is)
