use Rattle.std.proofs.Common.{ℕ, ◌<◌, length, get_or, ap, sym, ◌∙◌, subst, arith}
use Rattle.std.specs.Prelude.{Option, None, IfSome}
use Rattle.painter_core.specs.Stage.{layers_of, slots_of, IsThere}
use Rattle.painter_core.proofs.StageLemmas.{window-slot, child-slot, length-children}
use Rattle.painter_core.proofs.RootLemmas.{windows_there}
use Rattle.painter_core.proofs.slots.in_slot.Goals as goal

pub returns-in-None-clause-found : goal.returns-in-None-clause-found
returns-in-None-clause-found c =
    c.at.ensures.key ∙ sym (window-slot c.args.view.now c.args.slot)
    ∙ sym (ap (λ (u : Option ℕ). get_or ((layers_of c.args.view.now).below u) c.args.slot None) c.in-None.is)

pub returns-in-None-clause-there : goal.returns-in-None-clause-there
returns-in-None-clause-there c = subst (λ (o : Option ℕ). IfSome o (IsThere c.args.view.now)) (sym c.at.ensures.key) (windows_there c.args.view.now c.args.slot c.requires.stage.widgets c.requires.stage.is_view.windows.each)

pub returns-in-Some-clause-found : goal.returns-in-Some-clause-found
returns-in-Some-clause-found c =
    let same = ap (λ (u : Option ℕ). length ((layers_of c.args.view.now).below u)) c.in-Some.is in
    let within : c.args.slot < slots_of c.args.view.now.tree.now c.in-Some.key = omega (arith, c.requires.within, same, length-children c.args.view.now c.in-Some.key) in
    c.child_in.ensures.found ∙ sym (child-slot c.args.view.now c.in-Some.key c.args.slot within)
    ∙ sym (ap (λ (u : Option ℕ). get_or ((layers_of c.args.view.now).below u) c.args.slot None) c.in-Some.is)
