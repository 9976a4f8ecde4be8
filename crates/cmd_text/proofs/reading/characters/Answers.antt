-- each turn takes one character, as reading does
use Rattle.std.proofs.Common.{◌≡◌, ℕ, suc, ◌-◌, true, false, ◌==◌, List, length, drop, Result, Ok, sym, ap, ◌∙◌, arith}
use Rattle.std.specs.List.{list_all}
use Rattle.std.proofs.lemmas.Bool.{eqb-false}
use Rattle.kind_core.specs.Bytes.{is_printable}
use Rattle.cmd_text.specs.Reading.{begins_with}
use Rattle.cmd_text.specs.ReadingOptions.{chars_at}
use Rattle.cmd_text.proofs.Characters.{chars_end, chars_step, chars_fail, all_push}
use Rattle.cmd_text.proofs.reading.characters.Goals as goal

pub loop-rest-init : goal.loop-rest-init
loop-rest-init c = record {
  few = omega (arith, ap length c.new-front.ensures);
  prints = ap (list_all is_printable) c.new-front.ensures;
  reads = ap (λ (xs : List ℕ). chars_at (64 - length xs) xs c.args.bytes.now) c.new-front.ensures;
}

pub returns-then-begins : goal.returns-then-begins
returns-then-begins c =
    let e : begins_with (λ b. b == 34) c.loop-rest.rest.now ≡ true = sym c.begins.ensures ∙ c.if-begins.true in
    let k = chars_end (64 - length c.loop-rest.front.items) c.loop-rest.front.items c.loop-rest.rest.now e in
    let t : c.text_of.result ≡ c.loop-rest.front.items = c.text_of.ensures ∙ c.as_slice.ensures.value in
    let pair : List ℕ → List ℕ → Result (List ℕ × List ℕ) ℕ = λ u v. Ok (u, v) in
    sym c.loop-rest.invariant.reads ∙ k ∙ ap (λ (u : List ℕ). pair u (drop 1 c.loop-rest.rest.now)) (sym t) ∙ ap (λ (v : List ℕ). pair c.text_of.result v) (sym c.split_at.ensures.back)

pub returns-in-Err : goal.returns-in-Err
returns-in-Err c =
    let e : begins_with (λ b. b == 34) c.loop-rest.rest.now ≡ false = sym c.begins.ensures ∙ c.if-begins.false in
    let n : length c.loop-rest.front.items ≡ 64 → ⊥ = eqb-false (length c.loop-rest.front.items) 64 (sym c.is_full.ensures.value ∙ c.if-is_full.false) in
    let k : 64 - length c.loop-rest.front.items ≡ suc (63 - length c.loop-rest.front.items) = omega (arith, c.loop-rest.invariant.few) in
    sym c.loop-rest.invariant.reads ∙ chars_fail (64 - length c.loop-rest.front.items) (63 - length c.loop-rest.front.items) c.loop-rest.front.items c.loop-rest.rest.now c.in-Err.left k e c.in-Err.ensures.read

pub loop-rest-preserved : goal.loop-rest-preserved
loop-rest-preserved c =
    let e : begins_with (λ b. b == 34) c.loop-rest.rest.now ≡ false = sym c.begins.ensures ∙ c.if-begins.false in
    let n : length c.loop-rest.front.items ≡ 64 → ⊥ = eqb-false (length c.loop-rest.front.items) 64 (sym c.is_full.ensures.value ∙ c.if-is_full.false) in
    let k : 64 - length c.loop-rest.front.items ≡ suc (63 - length c.loop-rest.front.items) = omega (arith, c.loop-rest.invariant.few) in
    let j : 64 - length c.push.new.self.items ≡ 63 - length c.loop-rest.front.items = omega (arith, c.push.ensures.len) in
    let s = chars_step (64 - length c.loop-rest.front.items) (63 - length c.loop-rest.front.items) c.loop-rest.front.items c.loop-rest.rest.now c.in-Ok.after.now c.in-Ok.byte k e c.in-Ok.ensures.read in
    record {
      few = omega (arith, c.loop-rest.invariant.few, c.push.ensures.len);
      prints = ap (list_all is_printable) c.push.ensures.items ∙ all_push is_printable c.loop-rest.front.items c.in-Ok.byte c.loop-rest.invariant.prints c.in-Ok.ensures.prints;
      reads = ap (λ (n : ℕ). chars_at n c.push.new.self.items c.in-Ok.after.now) j ∙ ap (λ (xs : List ℕ). chars_at (63 - length c.loop-rest.front.items) xs c.in-Ok.after.now) c.push.ensures.items ∙ sym s ∙ c.loop-rest.invariant.reads;
    }
