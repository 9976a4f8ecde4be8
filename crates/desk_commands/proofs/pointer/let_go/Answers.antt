use Rattle.std.proofs.Common.{ℕ, List, Option, ap₂}
use Rattle.widget_model.specs.Pointer.{Grab}
use Rattle.desk_model.specs.LetGo.{let_go}
use Rattle.desk_model.specs.Desk.{Desk}
use Rattle.desk_commands.specs.Parts.{stage_of, desk_of}
use Rattle.desk_commands.proofs.pointer.let_go.Goals as goal

pub returns-clause-left : goal.returns-clause-left
unfolding let_go
returns-clause-left c shape roster rings =
    let stage = stage_of shape roster rings c.args.tree.now c.args.pointer.now in
    let old : Desk = desk_of stage c.args.tree.now c.args.windows.now in
    ap₂ (λ (grab : Grab) (focus : Option (ℕ × List ℕ)). record old { pointer = record old.pointer { grab = grab; focus = focus } }) (c.grab_left-grab.ensures.left stage) (c.focus_left-focus.ensures.left stage)
