use Rattle.std.proofs.Common.{inl, inr, arith, rules, w32}
use Rattle.std.proofs.lemmas.Int.{to_z-of_z}
use Rattle.geom_core.proofs.RectLemmas.{meet_none, meet_some}
use Rattle.geom_core.proofs.rectangle.meet.Goals as goal
use Rattle.geom_core.proofs.rectangle.meet.Goals.{then-w-eq0-via-then-w-eq0, then-w-eq0-via-else-w-eq0+then-h-eq0}
use mir.Val.{SFits}

pub returns-then-w-eq0-clause-pixels : goal.returns-then-w-eq0-clause-pixels
returns-then-w-eq0-clause-pixels c =
    let ax : SFits w32 c.args.a.x = search rules in
    let ay : SFits w32 c.args.a.y = search rules in
    let bx : SFits w32 c.args.b.x = search rules in
    let by : SFits w32 c.args.b.y = search rules in
    meet_none c.args.a c.args.b _ _ _ _ c.shared-x.result.1 c.shared-y.result.1 (simp to_z-of_z at c.shared-x.ensures.pixels) (simp to_z-of_z at c.shared-y.ensures.pixels)
    (elim c.then-w-eq0.branch [ then-w-eq0-via-then-w-eq0 w ↦ inl (omega arith) | then-w-eq0-via-else-w-eq0+then-h-eq0 w ↦ inr (omega arith) ])

pub returns-clause-pixels : goal.returns-clause-pixels
returns-clause-pixels c =
    let ax : SFits w32 c.args.a.x = search rules in
    let ay : SFits w32 c.args.a.y = search rules in
    let bx : SFits w32 c.args.b.x = search rules in
    let by : SFits w32 c.args.b.y = search rules in
    let f : SFits w32 c.shared-x.result.0 = search rules in
    let g : SFits w32 c.shared-y.result.0 = search rules in
    simp to_z-of_z (meet_some c.args.a c.args.b c.shared-x.result.0 c.shared-y.result.0 c.shared-x.result.1 c.shared-y.result.1 (simp to_z-of_z at c.shared-x.ensures.pixels) (simp to_z-of_z at c.shared-y.ensures.pixels))

pub returns-clause-empty : goal.returns-clause-empty
returns-clause-empty c = λ e. grind arith

pub returns-clause-in_range : goal.returns-clause-in_range
returns-clause-in_range c = λ r.
    let ax : SFits w32 c.args.a.x = search rules in
    let ay : SFits w32 c.args.a.y = search rules in
    let bx : SFits w32 c.args.b.x = search rules in
    let by : SFits w32 c.args.b.y = search rules in
    let f : SFits w32 c.shared-x.result.0 = search rules in
    let g : SFits w32 c.shared-y.result.0 = search rules in
    let near_x = simp to_z-of_z at c.shared-x.ensures.near in
    let near_y = simp to_z-of_z at c.shared-y.ensures.near in
    record { across = simp to_z-of_z (near_x (omega arith) r.across); down = simp to_z-of_z (near_y (omega arith) r.down) }
