use Rattle.std.proofs.Common.{◌≡◌, [], ◌∷◌, ◌++◌, ap, ◌∙◌}
use Rattle.std.specs.Option.{option_to_list}
use Rattle.turnstile.specs.Passes.{IsPassOf, IsOut, parts_together}
use Rattle.turnstile.proofs.Together.{popped, joined_first, joined_more}
use Rattle.turnstile.proofs.turnstile.Turnstile.join_all.Goals as goal

pub loop-other-init : goal.loop-other-init
loop-other-init g c =
    let was : c.args.passes.items ≡ c.pop.new.self.items ++ c.in-Some.pass ∷ [] = c.pop.ensures.items ∙ ap (λ o. c.pop.new.self.items ++ option_to_list o) c.in-Some.is in
    let own = popped (IsPassOf g.V.Kept.entries c.args.self.now) c.args.passes.items c.pop.new.self.items c.in-Some.pass was c.requires.own in
    let out = popped IsOut c.args.passes.items c.pop.new.self.items c.in-Some.pass was c.requires.outside in
    record { own = own.1; outside = out.1; owns = own.0; outsides = out.0; parts = joined_first c.args.passes.items c.pop.new.self.items c.in-Some.pass was }

pub join_one-requires-clause-own : goal.join_one-requires-clause-own
join_one-requires-clause-own g c =
    let was : c.loop-other.passes.items ≡ c.pop-in-loop-other.new.self.items ++ c.in-Some-pop.other ∷ [] = c.pop-in-loop-other.ensures.items ∙ ap (λ o. c.pop-in-loop-other.new.self.items ++ option_to_list o) c.in-Some-pop.is in
    (c.loop-other.invariant.own, (popped (IsPassOf g.V.Kept.entries c.args.self.now) c.loop-other.passes.items c.pop-in-loop-other.new.self.items c.in-Some-pop.other was c.loop-other.invariant.owns).1)

pub join_one-requires-clause-outside : goal.join_one-requires-clause-outside
join_one-requires-clause-outside g c =
    let was : c.loop-other.passes.items ≡ c.pop-in-loop-other.new.self.items ++ c.in-Some-pop.other ∷ [] = c.pop-in-loop-other.ensures.items ∙ ap (λ o. c.pop-in-loop-other.new.self.items ++ option_to_list o) c.in-Some-pop.is in
    (c.loop-other.invariant.outside, (popped IsOut c.loop-other.passes.items c.pop-in-loop-other.new.self.items c.in-Some-pop.other was c.loop-other.invariant.outsides).1)

pub loop-other-preserved : goal.loop-other-preserved
loop-other-preserved g c =
    let was : c.loop-other.passes.items ≡ c.pop-in-loop-other.new.self.items ++ c.in-Some-pop.other ∷ [] = c.pop-in-loop-other.ensures.items ∙ ap (λ o. c.pop-in-loop-other.new.self.items ++ option_to_list o) c.in-Some-pop.is in record {
      own = c.join_one.ensures.own;
      outside = c.join_one.ensures.outside;
      owns = (popped (IsPassOf g.V.Kept.entries c.args.self.now) c.loop-other.passes.items c.pop-in-loop-other.new.self.items c.in-Some-pop.other was c.loop-other.invariant.owns).0;
      outsides = (popped IsOut c.loop-other.passes.items c.pop-in-loop-other.new.self.items c.in-Some-pop.other was c.loop-other.invariant.outsides).0;
      parts = joined_more (parts_together c.args.passes.items) c.loop-other.all c.join_one.new.all c.in-Some-pop.other c.loop-other.passes.items c.pop-in-loop-other.new.self.items was c.join_one.ensures.parts c.loop-other.invariant.parts;
    }
