use Rattle.outside_io.specs.Outbox.{output}
use Rattle.dope_run.proofs.Dumps.{screen_without_line, screen_without_bytes, screen_by_writing}
use Rattle.dope_run.proofs.obeying.say_screen.Goals as goal

pub returns-in-Err-clause-err : goal.returns-in-Err-clause-err
returns-in-Err-clause-err g c = screen_without_line c.args.shape _ c.args.screen.now (output (g.K.Sink.held c.args.sink.now) c.args.out.now) (output (g.K.Sink.held c.say.new.sink) c.say.new.out) c.dump_line.ensures c.in-Err.ensures.err

pub returns-in-Err-put-clause-err : goal.returns-in-Err-put-clause-err
returns-in-Err-put-clause-err g c = screen_without_bytes c.args.shape _ c.args.screen.now (output (g.K.Sink.held c.args.sink.now) c.args.out.now) (output (g.K.Sink.held c.say.new.sink) c.say.new.out) (output (g.K.Sink.held c.put.new.sink) c.put.new.self) c.dump_line.ensures c.in-Ok.ensures.ok c.in-Err-put.ensures.err

pub returns-clause-ok : goal.returns-clause-ok
returns-clause-ok g c = (screen_by_writing c.put-2.result c.args.shape _ c.args.screen.now (output (g.K.Sink.held c.args.sink.now) c.args.out.now) (output (g.K.Sink.held c.say.new.sink) c.say.new.out) (output (g.K.Sink.held c.put.new.sink) c.put.new.self) (output (g.K.Sink.held c.put-2.new.sink) c.put-2.new.self) c.dump_line.ensures c.in-Ok.ensures.ok c.in-Ok-put.ensures.ok c.put-2.ensures.ok c.put-2.ensures.err).0

pub returns-clause-err : goal.returns-clause-err
returns-clause-err g c = (screen_by_writing c.put-2.result c.args.shape _ c.args.screen.now (output (g.K.Sink.held c.args.sink.now) c.args.out.now) (output (g.K.Sink.held c.say.new.sink) c.say.new.out) (output (g.K.Sink.held c.put.new.sink) c.put.new.self) (output (g.K.Sink.held c.put-2.new.sink) c.put-2.new.self) c.dump_line.ensures c.in-Ok.ensures.ok c.in-Ok-put.ensures.ok c.put-2.ensures.ok c.put-2.ensures.err).1
