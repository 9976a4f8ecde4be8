use Rattle.std.proofs.Common.{inr}
use Rattle.script_walk.specs.Reading.{bare_item, kept}
use Rattle.script_walk.proofs.Flushing.{item_flushed, item_unflushed, finished_cut}
use Rattle.script_walk.proofs.ending.finish.Goals as goal

pub returns-in-Ok-flush : goal.returns-in-Ok-flush
returns-in-Ok-flush g c =
    inr (c.is_between.ensures.some c.if-is_between.false, item_flushed _ (bare_item (kept c.args.reader.now)) _ _ _ c.args.out.now _ _ _ _ c.requires.written c.in-Ok.ensures c.in-Ok-flush.ensures.ok c.in-Ok-flush.ensures.steady)

pub returns-in-Err-flush : goal.returns-in-Err-flush
returns-in-Err-flush g c =
    (c.is_between.ensures.some c.if-is_between.false, item_unflushed _ (bare_item (kept c.args.reader.now)) _ _ _ c.args.out.now _ _ _ _ c.requires.written c.in-Ok.ensures c.in-Err-flush.ensures.err c.in-Err-flush.ensures.cause c.flush.ensures.later)

pub returns-in-Err : goal.returns-in-Err
returns-in-Err g c =
    rw c.end.ensures (finished_cut _ c.in-Err.cut _ _ _ c.args.out.now _ _ c.requires.written (c.is_between.ensures.some c.if-is_between.false) c.in-Err.ensures)
