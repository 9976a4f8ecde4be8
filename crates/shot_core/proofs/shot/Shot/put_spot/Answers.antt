use Rattle.std.proofs.Common.{◌<◌, length, subst, sym, arith}
use Rattle.shot_core.specs.Shot.{most_numbers}
use Rattle.shot_core.proofs.Bare.{IsShot-new}
use Rattle.shot_core.proofs.Listed.{room, read-bare}
use Rattle.shot_core.proofs.shot.Shot.put_spot.Goals as goal

pub push-requires : goal.push-requires
unfolding most_numbers
push-requires c =
    let inside = c.self.inside in
    let low : c.args.key < length inside.spots.items = subst (λ n. c.args.key < n) (sym c.self.invariant.spots) c.requires.key in
    let bare = read-bare inside.spots.items c.args.key c.index.result.now low c.index.ensures c.if-is_new.ensures in
    (omega arith, subst (λ n. length inside.numbers.items < n) c.self.invariant.spots (room inside.spots.items inside.numbers.items c.args.key low c.self.invariant.listed c.self.invariant.listed_once bare))

pub invariant_of-self : goal.invariant_of-self
invariant_of-self c =
    IsShot-new (record { windows = c.self.inside.windows.items; spots = c.self.inside.spots.items; numbers = c.self.inside.numbers.items }) c.push.new.self.items c.args.key c.args.spot c.index.result.now c.requires.key c.requires.window c.self.invariant c.index.ensures c.if-is_new.ensures c.push.ensures.items

pub returns-then-is_new-clause-valid : goal.returns-then-is_new-clause-valid
returns-then-is_new-clause-valid c =
    IsShot-new (record { windows = c.self.inside.windows.items; spots = c.self.inside.spots.items; numbers = c.self.inside.numbers.items }) c.push.new.self.items c.args.key c.args.spot c.index.result.now c.requires.key c.requires.window c.self.invariant c.index.ensures c.if-is_new.ensures c.push.ensures.items
