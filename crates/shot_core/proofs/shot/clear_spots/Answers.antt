use Rattle.std.proofs.Common.{◌≡◌, ◌<◌, ◌∙◌, sym, subst, nat_eq, true, get_or}
use Rattle.std.specs.List.{list_any}
use Rattle.shot_core.proofs.Listed.{within, among-at}
use Rattle.shot_core.proofs.shot.clear_spots.Goals as goal

pub bounds-spots-number : goal.bounds-spots-number
bounds-spots-number c =
    let numbers = c.args.numbers.now in
    let key = get_or numbers c.loop-number.number-index 0 in
    let among : list_any (nat_eq key) numbers ≡ true = among-at numbers c.loop-number.number-index c.loop-number-test.true in
    subst (λ n. key < n) (sym c.loop-number.invariant.len) (within c.args.spots.now key (sym (c.requires key) ∙ among))
