use Rattle.std.proofs.Common.{◌∷◌, [], ◌<◌, subst, arith}
use Rattle.drawing_core.specs.Marking.{in_number, is_given_of}
use Rattle.drawing_core.proofs.MarkLemmas.{Marked-nothing, below_most, most_numbers-is}
use Rattle.drawing_core.proofs.FollowLemmas.{Marked-same}
use Rattle.drawing_core.proofs.GivenLemmas.{one_given, none_beyond}
use Rattle.drawing_core.proofs.marking.mark_known.Goals as goal

pub mark_number-requires-clause-key : goal.mark_number-requires-clause-key
mark_number-requires-clause-key c = below_most c.args.key c.if-key-lt-NUMBERS.true

pub returns-then-key-lt-NUMBERS : goal.returns-then-key-lt-NUMBERS
returns-then-key-lt-NUMBERS c =
    let before = c.args.before.now in
    let after = c.args.after.now in
    let looks = c.args.touched.now.looks.items in
    Marked-same (in_number before after looks c.args.key) (is_given_of before after looks (c.args.key ∷ [])) c.args.queue.now c.mark_number.new.queue (λ x y. one_given before after looks x y c.args.key (below_most c.args.key c.if-key-lt-NUMBERS.true)) c.mark_number.ensures

pub returns-else-key-lt-NUMBERS : goal.returns-else-key-lt-NUMBERS
returns-else-key-lt-NUMBERS c =
    let before = c.args.before.now in
    let after = c.args.after.now in
    let looks = c.args.touched.now.looks.items in
    Marked-nothing (is_given_of before after looks (c.args.key ∷ [])) c.args.queue.now (λ x y. none_beyond before after looks x y c.args.key (λ below. omega (arith, c.if-key-lt-NUMBERS.false, subst (λ n. c.args.key < n) most_numbers-is below))) c.requires.valid
