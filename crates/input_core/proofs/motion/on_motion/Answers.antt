use Rattle.std.proofs.Common.{ℕ, ◌≡◌, sym, ◌∙◌, ap₂, subst, true}
use Rattle.widget_model.specs.Widgets.{IsLive, rows_of}
use Rattle.tree_core.specs.Holds.{pointer_seen}
use Rattle.desk_model.specs.InputTable.{motion_on, drag_on}
use Rattle.input_core.specs.Live.{IsLiveGrab}
use Rattle.input_core.specs.Numbered.{numbered}
use Rattle.input_core.proofs.Steps.{on_motion-widget, on_motion-drag}
use Rattle.input_core.proofs.motion.on_motion.Goals as goal

pub returns-in-Some-clause-seen : goal.returns-in-Some-clause-seen
returns-in-Some-clause-seen c =
    let w = c.args.tree.now in
    let pointer = c.args.pointer.now in
    let row = numbered w.entries c.in-Widget.id.key in
    let live : IsLive w c.in-Widget.id.key = subst (IsLiveGrab w) c.in-Widget.is c.requires.holds.grab in
    let down : pointer.down ≡ true = c.if-not-pointer.false in
    c.motion_on.ensures.seen
    ∙ ap₂ (λ (x y : ℕ). motion_on row.kind (rows_of w) (record (pointer_seen w.entries pointer) { x = x; y = y }) c.in-Some.place row) c.min.ensures c.min-2.ensures
    ∙ sym (on_motion-widget w pointer c.in-Widget.id c.in-Some.place c.args.held c.args.width c.args.height c.args.x c.args.y c.requires.widgets live down c.in-Widget.is c.in-Some.is)

pub returns-in-Drag-clause-seen : goal.returns-in-Drag-clause-seen
returns-in-Drag-clause-seen c =
    let w = c.args.tree.now in
    let pointer = c.args.pointer.now in
    let row = numbered w.entries c.in-Drag.id.key in
    let live : IsLive w c.in-Drag.id.key = subst (IsLiveGrab w) c.in-Drag.is c.requires.holds.grab in
    let down : pointer.down ≡ true = c.if-not-pointer.false in
    c.drag_on.ensures.seen
    ∙ ap₂ (λ (x y : ℕ). drag_on row.kind (record (pointer_seen w.entries pointer) { x = x; y = y }) c.in-Drag.dx c.in-Drag.dy row) c.min.ensures c.min-2.ensures
    ∙ sym (on_motion-drag w pointer c.in-Drag.id c.in-Drag.dx c.in-Drag.dy c.args.held c.args.width c.args.height c.args.x c.args.y c.requires.widgets live down c.in-Drag.is)
