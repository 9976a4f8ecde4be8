use Rattle.std.proofs.Common.{replicate}
use Rattle.machine_model.specs.Events.Event.{Tick}
use Rattle.script_walk.specs.declared.end.End.TheVariants.{Done}
use Rattle.dope_run.specs.Obeying.{Obeyed, at}
use Rattle.dope_run.proofs.obeying.ticks.Given as goal

abbrev pub invariant-loop-i : goal.invariant-loop-i
invariant-loop-i g l = record {
  told : Obeyed Done (replicate l.i Tick)
      (at l.initial.server.state (g.K.Sink.held l.initial.sink) l.initial.out (g.K.Sink.faults l.initial.sink))
      (at l.server.state (g.K.Sink.held l.sink) l.out (g.K.Sink.faults l.sink));
}
