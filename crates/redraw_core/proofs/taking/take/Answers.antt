use Rattle.std.proofs.Common.{ap, ◌∙◌}
use Rattle.redraw_core.specs.declared.store.Store.{Store}
use Rattle.redraw_core.proofs.TakeLemmas.{IfNone-clean, IsKept-run}
use Rattle.redraw_core.proofs.taking.take.Goals as goal

pub returns-in-None-clause-none : goal.returns-in-None-clause-none
returns-in-None-clause-none c =
    let store = c.args.store.now in
    IfNone-clean c.take_run.result store.kept.items store.map c.in-None.ensures.empty (rw c.pop.ensures.map at c.take_run.ensures.none)

pub returns-in-None-clause-kept : goal.returns-in-None-clause-kept
returns-in-None-clause-kept c =
    let popped = c.pop.new.store in
    let empty = ap (λ (s : Store). s.kept.items) c.in-None.ensures.unchanged ∙ c.in-None.ensures.empty in
    IsKept-run popped.kept.items popped.area popped.map c.take_run.new.self empty c.pop.ensures.valid c.take_run.ensures.valid
