-- What a clause reads of the adapters: the reader or writer inside, and the count of faults.
use Rattle.std.specs.Prelude.{ℕ}
use Rattle.outside_io.specs.declared.std_in.StdIn.{StdIn}
use Rattle.outside_io.specs.declared.std_out.StdOut.{StdOut}

abbrev pub reader_of : {R : Type 0} → StdIn R → R
reader_of s = s.reader

abbrev pub faults_of_reader : {R : Type 0} → StdIn R → ℕ
faults_of_reader s = s.faults

abbrev pub writer_of : {W : Type 0} → StdOut W → W
writer_of s = s.writer

abbrev pub faults_of_writer : {W : Type 0} → StdOut W → ℕ
faults_of_writer s = s.faults
