use Rattle.std.proofs.Common.{◌≡◌, ◌-◌, ◌≤◌, [], length}
use Rattle.script_walk.specs.Points.{Going, point}
use Rattle.script_walk.proofs.walking.work.Given as goal

abbrev pub invariant-loop-count : goal.invariant-loop-count
invariant-loop-count g l = record {
  going : Going g.P.Performer.rules
      (point g.P.Performer.rules l.initial.reader (g.P.Performer.state l.initial.performer) (g.K.Sink.held l.initial.sink) [] (g.K.Sink.faults l.initial.sink))
      (point g.P.Performer.rules l.reader (g.P.Performer.state l.performer) (g.K.Sink.held l.sink) [] (g.K.Sink.faults l.sink))
      l.taken (g.S.Source.left l.initial.source) (g.S.Source.left l.source);
  few : l.taken ≤ 67108864;
  buffer : length l.buffer ≡ 4096;
  written : l.out ≡ [];
  read_steady : g.S.Source.faults l.source ≡ g.S.Source.faults l.initial.source;
}

abbrev pub decreases-loop-count : goal.decreases-loop-count
decreases-loop-count g l = 67108865 - l.taken
