-- A link in memory is a source, which it is read from, and a sink, which it is written to. Its bytes left are the
-- source's, its bytes held the sink's, and its faults those of both together.
use Rattle.std.specs.Prelude.{ℕ, ◌+◌}
use Rattle.outside_io.specs.Source.{SourceInMemory}
use Rattle.outside_io.specs.Sink.{SinkInMemory}

pub record LinkInMemory : Type 0 where
  pub source : SourceInMemory
  pub sink : SinkInMemory

abbrev pub faults_of_both : LinkInMemory → ℕ
faults_of_both s = s.source.faults + s.sink.faults
