use Rattle.std.proofs.Common.{rules, arith, ◌≡◌, List, [], ◌∷◌, ◌++◌, sym, ◌∙◌, refl, subst}
use Rattle.std.proofs.lemmas.Grind.{common_steps}
use Rattle.std.proofs.lemmas.List.Elements.{All-nil, All-same}
use Rattle.turnstile.specs.Making.{IsMaker}
use Rattle.turnstile.specs.Passes.{IsNew, number_of, seen}
use Rattle.turnstile.proofs.Making.{all_pushed, numbers_pushed, numbers_none, maker_is_new}
use Rattle.turnstile.proofs.turnstile.Turnstile.split_all.Goals as goal

pub loop-next-init : goal.loop-next-init
loop-next-init g c = record {
  maker = c.requires.maker;
  same = refl;
  next = (let z = c.requires.first in omega arith);
  new = All-same (IsNew g.V.Kept.entries c.args.self.now (seen c.args.maker)) c.new-passes.result.items [] c.new-passes.ensures.items (All-nil (IsNew g.V.Kept.entries c.args.self.now (seen c.args.maker)));
  numbers = numbers_none number_of c.new-passes.result.items (number_of c.args.maker) c.new-passes.ensures.items c.requires.first;
}

pub split_one-pass-requires-clause-maker : goal.split_one-pass-requires-clause-maker
split_one-pass-requires-clause-maker g c = subst (λ (es : List g.row.V-Entry.Denot). IsMaker g.V.Kept.entries c.args.self.now es c.loop-next.maker) (sym c.loop-next.invariant.same) c.loop-next.invariant.maker

pub split_one-pass-requires-clause-more : goal.split_one-pass-requires-clause-more
split_one-pass-requires-clause-more g c = let n = c.loop-next.invariant.next in let t = c.loop-next-test.true in omega arith

pub loop-next-preserved : goal.loop-next-preserved
loop-next-preserved g c =
    let items : c.push.new.self.items ≡ c.loop-next.passes.items ++ c.split_one-pass.result ∷ [] = first_of (search rules, grind (arith, common_steps)) in record {
      maker = subst (λ (es : List g.row.V-Entry.Denot). IsMaker g.V.Kept.entries c.args.self.now es c.split_one-pass.new.maker) c.loop-next.invariant.same c.split_one-pass.ensures.maker;
      same = c.split_one-pass.ensures.same ∙ c.loop-next.invariant.same;
      next = (let n = c.loop-next.invariant.next in let m = c.split_one-pass.ensures.next in omega arith);
      new = all_pushed (IsNew g.V.Kept.entries c.args.self.now (seen c.args.maker)) c.loop-next.passes.items c.push.new.self.items c.split_one-pass.result items c.loop-next.invariant.new
          (subst (λ (es : List g.row.V-Entry.Denot). IsNew g.V.Kept.entries c.args.self.now es c.split_one-pass.result) c.loop-next.invariant.same c.split_one-pass.ensures.new);
      numbers = numbers_pushed number_of c.loop-next.passes.items c.push.new.self.items c.split_one-pass.result (number_of c.loop-next.maker) (number_of c.split_one-pass.new.maker) items c.loop-next.invariant.numbers c.split_one-pass.ensures.number c.split_one-pass.ensures.next;
    }

pub returns-in-Ok-clause-new : goal.returns-in-Ok-clause-new
returns-in-Ok-clause-new g c =
    let items : c.push-2.new.self.items ≡ c.loop-next.passes.items ++ c.loop-next.maker ∷ [] = first_of (search rules, grind (arith, common_steps)) in
    let n = c.loop-next.invariant.next in let t = c.loop-next-test.false in let s = c.args.self.now.some in
    all_pushed (IsNew g.V.Kept.entries c.args.self.now (seen c.args.maker)) c.loop-next.passes.items c.push-2.new.self.items c.loop-next.maker items c.loop-next.invariant.new
    (maker_is_new g.V.Kept.entries c.args.self.now (seen c.args.maker) c.loop-next.maker c.loop-next.invariant.maker (omega arith))

pub returns-in-Ok-clause-numbers : goal.returns-in-Ok-clause-numbers
returns-in-Ok-clause-numbers g c =
    let items : c.push-2.new.self.items ≡ c.loop-next.passes.items ++ c.loop-next.maker ∷ [] = first_of (search rules, grind (arith, common_steps)) in
    let n = c.loop-next.invariant.next in let t = c.loop-next-test.false in let s = c.args.self.now.some in
    numbers_pushed number_of c.loop-next.passes.items c.push-2.new.self.items c.loop-next.maker (number_of c.loop-next.maker) c.args.self.now.made items c.loop-next.invariant.numbers refl (omega arith)
