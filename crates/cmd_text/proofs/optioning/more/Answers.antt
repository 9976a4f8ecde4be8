-- each turn takes one option, as reading does
use Rattle.std.proofs.Common.{◌≡◌, ◌-◌, true, false, length, sym, ◌∙◌}
use Rattle.std.proofs.lemmas.Bool.{eqb-false}
use Rattle.cmd_text.specs.Reading.{skip_at}
use Rattle.cmd_text.specs.ReadingOptions.{option_comes}
use Rattle.cmd_text.proofs.OptionSteps.{more_end, more_pushed, more_unread}
use Rattle.cmd_text.proofs.optioning.more.Goals as goal

pub returns-then-not-another : goal.returns-then-not-another
returns-then-not-another g c =
    let e : option_comes c.loop-rest.rest.now ≡ false = sym c.another.ensures ∙ c.if-not-another.true in
    let s = more_end g.T.Readable.one_at (8 - length c.loop-rest.list) c.loop-rest.list c.loop-rest.rest.now e in
    let a : skip_at c.loop-rest.rest.now ≡ c.skip-after.result.now = sym c.skip-after.ensures in
    sym c.loop-rest.invariant.reads ∙ s ∙ (cc)

pub loop-rest-preserved : goal.loop-rest-preserved
loop-rest-preserved g c =
    let e : option_comes c.loop-rest.rest.now ≡ true = sym c.another.ensures ∙ c.if-not-another.false in
    let n : length c.loop-rest.list ≡ 8 → ⊥ = eqb-false (length c.loop-rest.list) 8 (sym c.is_full.ensures.full ∙ c.if-is_full.false) in
    let k = more_pushed g.T.Readable.one_at c.loop-rest.list c.push_read.new.list c.loop-rest.rest.now c.in-Ok.next.now c.skip-after.result.now _ c.loop-rest.invariant.few n e c.skip-after.ensures c.in-Ok.ensures c.loop-rest.invariant.reads in
    record { few = k.0; reads = k.1 }

pub returns-in-Err : goal.returns-in-Err
returns-in-Err g c =
    let e : option_comes c.loop-rest.rest.now ≡ true = sym c.another.ensures ∙ c.if-not-another.false in
    let n : length c.loop-rest.list ≡ 8 → ⊥ = eqb-false (length c.loop-rest.list) 8 (sym c.is_full.ensures.full ∙ c.if-is_full.false) in
    more_unread g.T.Readable.one_at c.loop-rest.list c.loop-rest.rest.now c.skip-after.result.now c.in-Err.left _ c.loop-rest.invariant.few n e c.skip-after.ensures c.in-Err.ensures c.loop-rest.invariant.reads
