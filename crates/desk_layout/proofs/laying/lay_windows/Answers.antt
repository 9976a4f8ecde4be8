use Rattle.std.proofs.Common.{◌≡◌, ◌+◌, ℕ, sym, ap, ◌∙◌, subst}
use Rattle.widget_model.specs.Nodes.{first_number}
use Rattle.widget_model.specs.Widgets.{Widgets}
use Rattle.desk_layout.specs.Laid.{AreLaidTo}
use Rattle.desk_layout.proofs.Layouts.{laid-none, laid-other, laid-next}
use Rattle.desk_layout.proofs.laying.lay_windows.Goals.{then-is_window_number, else-is_window_number}
use Rattle.desk_layout.proofs.laying.lay_windows.Goals as goal

pub loop-k-init : goal.loop-k-init
loop-k-init c = laid-none c.args.client c.args.tree.now c.requires.valid c.requires.bare

pub loop-k-preserved : goal.loop-k-preserved
loop-k-preserved c =
    let P : Widgets → Type 0 = λ w. AreLaidTo c.args.client (c.loop-k.k + 1) c.args.tree.now w in
    let key = c.first_number-first.result + c.loop-k.k in
    let at : key ≡ first_number c.args.client + c.loop-k.k = ap (λ (n : ℕ). n + c.loop-k.k) c.first_number-first.ensures.first in
    elim c.if-is_window_number.branch [
      | then-is_window_number w ↦
          subst P (sym w.tree-is)
          (laid-next c.args.client c.loop-k.k key c.args.tree.now c.loop-k.tree w.relayout.new.tree at c.requires.low c.loop-k-test.true c.requires.valid c.loop-k.invariant
          (sym c.is_window_number.ensures.window ∙ w.if-is_window_number.true)
          w.relayout.ensures.clients w.relayout.ensures.rows w.relayout.ensures.placed w.relayout.ensures.others w.relayout.ensures.valid)
      | else-is_window_number w ↦
          subst P (sym w.tree-is)
          (laid-other c.args.client c.loop-k.k key c.args.tree.now c.loop-k.tree at c.loop-k.invariant (sym c.is_window_number.ensures.window ∙ w.if-is_window_number.false))
    ]
