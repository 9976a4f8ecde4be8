use Rattle.std.proofs.Common.{arith, sym, ◌∙◌}
use Rattle.std.proofs.lemmas.Bool.{and_parts}
use Rattle.geom_core.specs.Rect.{in_rect}
use Rattle.geom_core.proofs.RectLemmas.{IsEnclosed-from_inside, area_of-same}
use Rattle.geom_core.proofs.PieceLemmas.{outside_bits}
use Rattle.geom_core.proofs.cuts.cut.Goals as goal

pub pieces-requires-clause-inside : goal.pieces-requires-clause-inside
pieces-requires-clause-inside c = λ some.
    IsEnclosed-from_inside c.meet.result c.args.a some (λ x y e. (and_parts (in_rect c.args.a x y) (in_rect c.args.b x y) (sym (c.meet.ensures.pixels x y) ∙ e)).0)

pub returns-clause-pixels : goal.returns-clause-pixels
returns-clause-pixels c = λ x y.
    c.pieces.ensures.pixels x y ∙ outside_bits (in_rect c.args.a x y) (in_rect c.args.b x y) (in_rect c.meet.result x y) (c.meet.ensures.pixels x y)

pub returns-clause-areas : goal.returns-clause-areas
returns-clause-areas c = λ shared same.
    omega (arith, c.pieces.ensures.areas, area_of-same shared c.meet.result (λ x y. same x y ∙ sym (c.meet.ensures.pixels x y)))
