use Rattle.std.proofs.Common.{◌≡◌, ◌+ℤ◌, pos, to_z, w32, arith, rules}
use Rattle.std.proofs.lemmas.Int.{ints, to_z-of_z}
use Rattle.geom_core.proofs.SplitLemmas.{IsSplit-columns}
use Rattle.geom_core.proofs.splits.split_columns.Goals as goal
use mir.Val.{SFits}

pub returns-clause-split : goal.returns-clause-split
returns-clause-split c =
    let x : SFits w32 c.args.a.x = search rules in
    let y : SFits w32 c.args.a.y = search rules in
    let across = c.requires.in_range.across in
    let steps : to_z w32 c.args.columns ≡ pos c.args.columns = omega (arith, ints, across.size) in
    let end : SFits w32 (c.args.a.x +ℤ pos c.args.columns) = omega (arith, ints, across.greatest, across.least) in
    simp (to_z-of_z, steps) (IsSplit-columns c.args.a c.args.columns c.requires.fits c.requires.in_range)
