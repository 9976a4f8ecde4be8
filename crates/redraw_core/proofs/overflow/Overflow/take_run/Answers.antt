use Rattle.std.proofs.Common.{◌≡◌, ◌<◌, length, get_or, false, arith, rules, sym, ap, ◌∙◌, inl, inr}
use Rattle.std.specs.Vec.{with_items}
use Rattle.std.proofs.lemmas.List.{with_items_is}
use Rattle.std.proofs.lemmas.Bool.{cases_lt, false≢true}
use Rattle.redraw_core.proofs.OverflowLemmas.{IsOverflow-run, IsTaken-run, row_end_fits}
use Rattle.redraw_core.proofs.overflow.Overflow.take_run.Goals as goal

pub run_end-end-requires-clause-within : goal.run_end-end-requires-clause-within
run_end-end-requires-clause-within c =
    let old = c.self.inside in
    let fits : c.first_true-start.result < length old.cells.items = omega arith in
    omega (arith, row_end_fits old.width old.height c.first_true-start.result c.self.invariant.valid.least_width (omega (arith, c.self.invariant.valid.size)))

pub erase_run-requires-clause-within : goal.erase_run-requires-clause-within
erase_run-requires-clause-within c =
    let old = c.self.inside in
    let fits : c.first_true-start.result < length old.cells.items = omega arith in
    omega (arith, row_end_fits old.width old.height c.first_true-start.result c.self.invariant.valid.least_width (omega (arith, c.self.invariant.valid.size)))

pub invariant_of-self-2 : goal.invariant_of-self-2
invariant_of-self-2 c =
    let old = c.self.inside in
    let new = c.erase_run.new.cells in
    let same : (with_items old.cells new).items ≡ new = with_items_is old.cells new (search rules) in
    let m = rw c.deref_mut.ensures.value at c.erase_run.ensures in
    let skipped = rw c.deref.ensures.value at c.first_true-start.ensures.none in
    let fits : c.first_true-start.result < length old.cells.items = omega arith in
    IsOverflow-run old.width old.height old.count old.first c.first_true-start.result c.run_end-end.result c.erase_run.result old.cells.items new (with_items old.cells new).items c.self.invariant skipped
    (omega (arith, c.self.invariant.valid.size, row_end_fits old.width old.height c.first_true-start.result c.self.invariant.valid.least_width (omega (arith, c.self.invariant.valid.size)))) m same

pub returns-clause-taken : goal.returns-clause-taken
returns-clause-taken c =
    let old = c.self.inside in
    let new = c.erase_run.new.cells in
    let start = c.first_true-start.result in
    let end = c.run_end-end.result in
    let same : (with_items old.cells new).items ≡ new = with_items_is old.cells new (search rules) in
    let m = rw c.deref_mut.ensures.value at c.erase_run.ensures in
    let all = rw c.deref-2.ensures.value at c.run_end-end.ensures.all in
    let fits : start < length old.cells.items = omega arith in
    let here = rw c.deref.ensures.value at (c.first_true-start.ensures.some (omega arith)) in
    let longest = rw c.deref-2.ensures.value at c.run_end-end.ensures.longest in
    let some : start < end = elim (cases_lt start end) [
      | inl h ↦ h
      | inr h ↦
          let same_end : end ≡ start = omega arith in
          let none = longest (omega arith) in
          absurd (false≢true (sym none ∙ ap (λ k. get_or old.cells.items k false) same_end ∙ here))
    ] in
    IsTaken-run c.args.self.now old.width old.height c.args.n start end c.erase_run.result old.cells.items new (with_items old.cells new).items c.run_rect.result c.self.view_is c.self.invariant.valid same some (omega arith) (omega arith) fits all m c.run_rect.ensures
