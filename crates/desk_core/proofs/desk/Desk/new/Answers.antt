use Rattle.std.proofs.Common.{false, None, refl, arith}
use Rattle.tree_core.specs.declared.pointer.Grab.TheVariants.{Nothing}
use Rattle.tree_core.specs.declared.pointer.Pointer.{Pointer}
use Rattle.admit_core.specs.Roster.{empty_roster}
use Rattle.desk_commands.specs.Parts.{desk_of, stage_of}
use Rattle.desk_core.proofs.Calls.{IsKept-opening}
use Rattle.desk_core.proofs.desk.Desk.new.Goals as goal

pub invariant_of-result : goal.invariant_of-result
unfolding empty_roster
invariant_of-result c =
    IsKept-opening c.args.shape _ c.new.result c.new-2.result c.new-3.result c.new-4.result c.requires refl (record { grab = tt; focus = tt }) (omega (arith, c.requires.width_least)) (omega (arith, c.requires.height_least)) c.new.ensures c.new-2.ensures.empty c.new-3.ensures.empty c.new-4.ensures.empty c.new-2.ensures.valid c.new-3.ensures.valid c.new-4.ensures.valid

pub returns-clause-valid : goal.returns-clause-valid
returns-clause-valid c = (invariant_of-result c).desk

pub returns-clause-opening : goal.returns-clause-opening
unfolding empty_roster
returns-clause-opening c =
    let nowhere : Pointer = record { x = 0; y = 0; down = false; grab = Nothing; focus = None } in
    let rings = c.new.ensures in
    let widgets = c.new-2.ensures.empty in
    let windows = c.new-3.ensures.empty in
    let roster = c.new-4.ensures.empty in
    λ i. desk_of (stage_of c.args.shape (roster i) (rings i) (widgets i) nowhere) (widgets i) (windows i)
