use Rattle.std.proofs.Common.{arith, lit<}
use Rattle.admit_core.proofs.Rosters.{room_for, IsRoster-last}
use Rattle.admit_core.proofs.roster.Roster.admit.Goals as goal

pub push-requires : goal.push-requires
push-requires c =
    let may = rw (← c.self.view_is) at c.requires in
    rw c.remove_key.ensures (lit< tt, room_for c.args.key c.self.inside.entries.items may c.self.invariant.few)

pub invariant_of-self : goal.invariant_of-self
invariant_of-self c =
    let may = rw (← c.self.view_is) at c.requires in
    let room = room_for c.args.key c.self.inside.entries.items may c.self.invariant.few in
    let within = rw c.as_slice.ensures.value at c.left_of-left.ensures in
    rw (c.push.ensures.items, c.remove_key.ensures) (IsRoster-last _ c.args.key c.args.share c.self.invariant room (omega arith))

pub returns-clause-valid : goal.returns-clause-valid
returns-clause-valid c =
    let may = rw (← c.self.view_is) at c.requires in
    let room = room_for c.args.key c.self.inside.entries.items may c.self.invariant.few in
    let within = rw c.as_slice.ensures.value at c.left_of-left.ensures in
    rw (c.push.ensures.items, c.remove_key.ensures) (IsRoster-last _ c.args.key c.args.share c.self.invariant room (omega arith))
