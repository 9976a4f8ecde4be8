-- the options so far are put
use Rattle.std.proofs.Common.{◌≡◌, ◌+◌, ◌*◌, ◌≤◌, ◌++◌, take, length, codes}
use Rattle.std.specs.List.{flat_map}
use Rattle.cmd_print.proofs.printing.put_others.Given as goal

abbrev pub invariant-loop-option : goal.invariant-loop-option
invariant-loop-option g l = record {
  put : l.text.bytes ≡ l.initial.text.bytes ++ flat_map (λ p. codes " " ++ g.T.Printable.form p) (take l.option-index l.others);
  short : length l.text.bytes ≤ length l.initial.text.bytes + 145 * l.option-index;
}
