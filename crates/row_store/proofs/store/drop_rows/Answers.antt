use Rattle.std.proofs.Common.{◌≡◌, ◌≤◌, ◌*◌, ◌-◌, false, is_some, sym, ap, ◌∙◌, arith}
use Rattle.widget_model.specs.Widgets.{row_at, without_row}
use Rattle.row_store.proofs.Options.{is_some-copied, is_none_of}
use Rattle.row_store.proofs.UnderNumbers.{left-none, left-next, without_row-absent}
use Rattle.row_store.proofs.store.drop_rows.Goals as goal
use Rattle.row_store.proofs.store.drop_rows.Goals.{then-is_some, else-is_some}

pub loop-id-init : goal.loop-id-init
loop-id-init c = sym (left-none c.args.store.now (128 * (c.args.client - 1)))

pub loop-id-preserved : goal.loop-id-preserved
loop-id-preserved c =
    let low : 128 * (c.args.client - 1) ≤ c.loop-id.id = omega arith in
    let next = ap (without_row c.loop-id.id) c.loop-id.invariant ∙ left-next c.args.store.now (128 * (c.args.client - 1)) c.loop-id.id low in
    elim c.if-is_some.branch [
      | then-is_some w ↦ w.store-is ∙ w.remove.ensures ∙ next
      | else-is_some w ↦
          let none : is_some (row_at c.loop-id.store c.loop-id.id) ≡ false = ap is_some (sym c.get.ensures) ∙ is_some-copied c.get.result ∙ sym c.is_some.ensures ∙ w.if-is_some.false in
          w.store-is ∙ sym (without_row-absent c.loop-id.store c.loop-id.id (is_none_of (row_at c.loop-id.store c.loop-id.id) none)) ∙ next
    ]
