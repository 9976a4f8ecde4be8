use Rattle.outside_io.proofs.Gathered.{put_through, put_through_in_part}
use Rattle.outside_io.proofs.outbox.Outbox.put.Goals as goal

pub returns-clause-ok : goal.returns-clause-ok
returns-clause-ok g c = put_through c.write_all.result _ _ _ _ _ _ c.in-Ok.ensures.ok c.in-Ok.ensures.empty c.write_all.ensures.ok

pub returns-clause-err : goal.returns-clause-err
returns-clause-err g c = put_through_in_part c.write_all.result _ _ _ c.args.self.now c.flush.new.self c.args.bytes.now c.in-Ok.ensures.ok c.write_all.ensures.err
