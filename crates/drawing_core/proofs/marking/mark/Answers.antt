use Rattle.std.proofs.Common.{subst}
use Rattle.drawing_core.specs.Marking.{Marked, is_given, is_given_of}
use Rattle.drawing_core.proofs.MarkLemmas.{Marked-then}
use Rattle.drawing_core.proofs.GivenLemmas.{given-listed}
use Rattle.drawing_core.proofs.marking.mark.Goals as goal

pub returns : goal.returns
returns c =
    let before = c.args.before.now in
    let after = c.args.after.now in
    let looks = c.args.touched.now.looks.items in
    let first = c.mark_numbers.new.queue in
    Marked-then (is_given_of before after looks before.numbers) (is_given_of before after looks after.numbers) (is_given before after looks) c.args.queue.now first c.mark_numbers-2.new.queue
    (λ x y. given-listed before after looks x y c.numbers.ensures.valid c.numbers-2.ensures.valid)
    (subst (λ numbers. Marked (is_given_of before after looks numbers) c.args.queue.now first) c.numbers.ensures.numbers c.mark_numbers.ensures)
    (subst (λ numbers. Marked (is_given_of before after looks numbers) first c.mark_numbers-2.new.queue) c.numbers-2.ensures.numbers c.mark_numbers-2.ensures)
