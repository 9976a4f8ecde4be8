use Rattle.std.proofs.Common.{◌≡◌, nat_eq, drop}
use Rattle.std.specs.List.{list_any}
use Rattle.damage_rules.proofs.areas.holds.Given as goal

abbrev pub invariant-loop-number : goal.invariant-loop-number
invariant-loop-number l = list_any (nat_eq l.key) (drop l.number-index l.numbers) ≡ list_any (nat_eq l.key) l.numbers
