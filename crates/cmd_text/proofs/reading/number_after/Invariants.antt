-- the number of the digits so far, and that it stays small
use Rattle.std.proofs.Common.{◌≡◌, ◌+◌, ◌-◌, ◌*◌, ◌^◌, ◌≤◌, take}
use Rattle.std.specs.List.{fold}
use Rattle.cmd_text.proofs.reading.number_after.Given as goal

abbrev pub invariant-loop-digit : goal.invariant-loop-digit
invariant-loop-digit l = record {
  value : l.number ≡ fold (λ n d. 10 * n + (d - 48)) l.initial.number (take l.digit-index l.digits);
  small : l.number + 29 ≤ 29 * 10 ^ (l.digit-index + 1);
}
