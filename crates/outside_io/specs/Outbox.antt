-- Output that is gathered: of the bytes that were put the first are written, and the rest wait in order.
use Rattle.std.specs.Prelude.{◌≡◌, ℕ, List, [], ◌++◌, Option}
use Rattle.std.specs.Io.KnownBytes.{Appends}
use Rattle.outside_io.specs.Sink.{AppendsFront}

-- what a sink holds, where it tells its bytes, and what still waits for it
pub record Output : Type 0 where
  pub held : Option (List ℕ)
  pub waiting : List ℕ

abbrev pub output : Option (List ℕ) → List ℕ → Output
output held waiting = record { held = held; waiting = waiting }

-- nothing waits
abbrev pub flushed : Option (List ℕ) → Output
flushed held = output held []

-- The output has grown by these bytes: what waited and they, in this order, were written up to a place, and
-- wait from there on.
pub record Puts (old new : Output) (bytes : List ℕ) : Type 0 where
  pub written : List ℕ
  pub cut : old.waiting ++ bytes ≡ written ++ new.waiting
  pub appended : Appends old.held new.held written

-- The writing broke off: a front of what waited and of these bytes was written.
abbrev pub PutsFront : Output → Output → List ℕ → Type 0
PutsFront old new bytes = AppendsFront old.held new.held (old.waiting ++ bytes)
