use Rattle.std.proofs.Common.{rules, w32}
use Rattle.std.proofs.lemmas.Int.{to_z-of_z}
use Rattle.redraw_core.proofs.JoinLemmas.{IsJoined-below, IsJoined-beside}
use Rattle.redraw_core.proofs.pairs.continued.Goals as goal
use mir.Val.{SFits}

pub returns-then-is_below-clause-pixels : goal.returns-then-is_below-clause-pixels
returns-then-is_below-clause-pixels c =
    let x : SFits w32 c.args.first.x = search rules in
    let y : SFits w32 c.args.first.y = search rules in
    simp to_z-of_z (IsJoined-below c.args.first c.args.second (c.is_below.ensures.0 c.if-is_below.true))

pub returns-then-is_beside-clause-pixels : goal.returns-then-is_beside-clause-pixels
returns-then-is_beside-clause-pixels c =
    let x : SFits w32 c.args.first.x = search rules in
    let y : SFits w32 c.args.first.y = search rules in
    simp to_z-of_z (IsJoined-beside c.args.first c.args.second (c.is_beside.ensures.0 c.if-is_beside.true))
