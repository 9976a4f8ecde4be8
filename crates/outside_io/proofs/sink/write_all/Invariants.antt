use Rattle.std.proofs.Common.{◌≡◌, ◌≤◌, ◌-◌, length, take}
use Rattle.std.specs.Io.KnownBytes.{Appends}
use Rattle.outside_io.specs.Telling.{TellsAsBefore}
use Rattle.outside_io.proofs.sink.write_all.Given as goal

abbrev pub invariant-loop-written : goal.invariant-loop-written
invariant-loop-written g l = record {
  within : l.written ≤ length l.bytes;
  appended : Appends (g.K.Sink.held l.initial.sink) (g.K.Sink.held l.sink) (take l.written l.bytes);
  tells : TellsAsBefore (g.K.Sink.held l.initial.sink) (g.K.Sink.held l.sink);
  steady : g.K.Sink.faults l.sink ≡ g.K.Sink.faults l.initial.sink;
  unasked : l.written ≡ 0 → l.sink ≡ l.initial.sink;
}

abbrev pub decreases-loop-written : goal.decreases-loop-written
decreases-loop-written g l = length l.bytes - l.written
