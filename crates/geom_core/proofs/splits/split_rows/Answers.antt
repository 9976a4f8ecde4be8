use Rattle.std.proofs.Common.{◌≡◌, ◌+ℤ◌, pos, to_z, w32, arith, rules}
use Rattle.std.proofs.lemmas.Int.{ints, to_z-of_z}
use Rattle.geom_core.proofs.SplitLemmas.{IsSplit-rows}
use Rattle.geom_core.proofs.splits.split_rows.Goals as goal
use mir.Val.{SFits}

pub returns-clause-split : goal.returns-clause-split
returns-clause-split c =
    let x : SFits w32 c.args.a.x = search rules in
    let y : SFits w32 c.args.a.y = search rules in
    let down = c.requires.in_range.down in
    let steps : to_z w32 c.args.rows ≡ pos c.args.rows = omega (arith, ints, down.size) in
    let end : SFits w32 (c.args.a.y +ℤ pos c.args.rows) = omega (arith, ints, down.greatest, down.least) in
    simp (to_z-of_z, steps) (IsSplit-rows c.args.a c.args.rows c.requires.fits c.requires.in_range)
