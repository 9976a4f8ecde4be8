-- Inner words of the proofs: the table under a tape. Its one word is the number of entries, modulo 2^64, and its one view
-- has them.
use Rattle.std.specs.Prelude.{◌≡◌, ℕ, ◌%◌, ◌^◌, [], ◌∷◌, ◌++◌, length}
use Rattle.atomic_table.specs.Table.{State, Me}
use Rattle.cmd_words.specs.declared.replies.Reply.TheVariants.{Done}
use Rattle.hall_core.specs.declared.entry.Entry.{Entry}
use Rattle.hall_core.specs.declared.entry.Event.TheVariants.{Tick}
use Rattle.hall_core.specs.declared.entry.Answer.TheVariants.{Reply}
use Rattle.hall_core.specs.declared.tape.Written.{Written}

abbrev pub nothing_written : Written
nothing_written = record { entries = [] }

-- the word is the length of the one view
pub record IsCounted (state : State ℕ Written) : Type 0 where
  pub written : Written
  pub views : state.views ≡ written ∷ []
  pub words : state.words ≡ (length written.entries % 2 ^ 64) ∷ []

-- the step added the entry, and found the number of those before
pub record Appended (entry : Entry) (before : Me ℕ Written) (found : ℕ) (after : Me ℕ Written) : Type 0 where
  pub entries : after.0.entries ≡ before.0.entries ++ entry ∷ []
  pub number : found ≡ length before.0.entries % 2 ^ 64
  pub slots : after.1 ≡ before.1

-- an entry where none is meant
abbrev pub some_entry : Entry
some_entry = record { seat = 0; event = Tick; answer = Reply Done }
