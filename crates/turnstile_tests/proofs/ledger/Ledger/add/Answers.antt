use Rattle.std.proofs.Common.{rules, arith, ◌≡◌, ◌+◌, ◌∷◌, [], ◌++◌, sym, ap, ◌∙◌}
use Rattle.std.proofs.lemmas.Grind.{common_steps}
use Rattle.turnstile_tests.specs.Lines.{is_legal, sum_after, line}
use Rattle.turnstile_tests.proofs.Sums.{legal_push, sum_push}
use Rattle.turnstile_tests.proofs.ledger.Ledger.add.Goals as goal

pub invariant_of-self-2 : goal.invariant_of-self-2
invariant_of-self-2 c =
    let added : c.push.new.self.items ≡ c.args.self.now.lines.items ++ line c.args.by c.args.amount c.in_ok-sum.sum ∷ [] = first_of (search rules, grind (arith, common_steps)) in
    let sum : c.in_ok-sum.sum ≡ sum_after 0 c.args.self.now.lines.items + c.args.amount = (let s = c.args.self.now.summed in first_of (search rules, grind (arith, common_steps))) in
    record {
      legal = ap (is_legal 0) added ∙ legal_push 0 c.args.self.now.lines.items (line c.args.by c.args.amount c.in_ok-sum.sum) c.args.self.now.legal sum;
      summed = sym (ap (sum_after 0) added ∙ sum_push 0 c.args.self.now.lines.items (line c.args.by c.args.amount c.in_ok-sum.sum));
    }
