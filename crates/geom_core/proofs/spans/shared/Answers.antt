use Rattle.std.proofs.Common.{inl, inr, arith}
use Rattle.std.proofs.lemmas.Int.{ints}
use Rattle.geom_core.proofs.SpanLemmas.{shared_some, shared_none}
use Rattle.geom_core.proofs.spans.shared.Goals as goal
use Rattle.geom_core.proofs.spans.shared.Goals.{then-from_a-from_b, else-from_a-from_b, then-end_b-end_a, else-end_b-end_a}

pub returns-then-end-from-clause-pixels : goal.returns-then-end-from-clause-pixels
returns-then-end-from-clause-pixels c = λ p.
    shared_none c.args.from_a c.args.from_b _ c.if-end_b-end_a.end c.args.len_a c.args.len_b p
    (elim c.if-from_a-from_b.branch [ then-from_a-from_b w ↦ (omega (arith, ints), omega (arith, ints), inr (omega (arith, ints))) | else-from_a-from_b w ↦ (omega (arith, ints), omega (arith, ints), inl (omega (arith, ints))) ])
    (elim c.if-end_b-end_a.branch [ then-end_b-end_a w ↦ (omega (arith, ints), omega (arith, ints), inr (omega (arith, ints))) | else-end_b-end_a w ↦ (omega (arith, ints), omega (arith, ints), inl (omega (arith, ints))) ])
    (omega (arith, ints))

pub returns-clause-pixels : goal.returns-clause-pixels
returns-clause-pixels c = λ p.
    shared_some c.args.from_a c.args.from_b _ c.if-end_b-end_a.end c.args.len_a c.args.len_b c.len_to.result p
    (elim c.if-from_a-from_b.branch [ then-from_a-from_b w ↦ (omega (arith, ints), omega (arith, ints), inr (omega (arith, ints))) | else-from_a-from_b w ↦ (omega (arith, ints), omega (arith, ints), inl (omega (arith, ints))) ])
    (elim c.if-end_b-end_a.branch [ then-end_b-end_a w ↦ (omega (arith, ints), omega (arith, ints), inr (omega (arith, ints))) | else-end_b-end_a w ↦ (omega (arith, ints), omega (arith, ints), inl (omega (arith, ints))) ])
    (omega (arith, ints))
