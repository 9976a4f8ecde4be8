-- The book: a server, the journal of all its events, and what is kept of it: a start desk, and the entries from there on.
use Rattle.std.specs.Prelude.{◌≡◌, ◌⊎◌, ℕ, ◌+◌, ◌-◌, ◌%◌, ◌^◌, ◌≤◌, Bool, true, false, ◌||◌, nat_le, nat_lt, List, [], ◌∷◌, ◌++◌, length, Option, slice_get}
use Rattle.std.specs.List.{sum_by}
use Rattle.kind_core.specs.declared.shapes.Shape.{Shape}
use Rattle.desk_model.specs.Desk.{Desk, is_connected}
use Rattle.machine_model.specs.State.{IsState}
use Rattle.machine_model.specs.Step.{Step}
use Rattle.server_core.specs.Serving.{Serving}
use Rattle.journal_model.specs.Journals.{opening_point, replay, IsLegal, Allows}
use Rattle.hall_core.specs.declared.entry.Entry.{Entry}
use Rattle.hall_core.specs.declared.entry.Event.{Event}
use Rattle.hall_core.specs.declared.entry.Event.TheVariants.{Bye}
use Rattle.hall_core.specs.declared.entry.Answer.{Answer}
use Rattle.hall_core.specs.Entries.{event_of, answer_of, entries_of, payload_of}

pub record BookState : Type 0 where
  pub server : Serving
  -- all entries, in order
  pub journal : List Entry
  -- the desk before the kept entries, and how many entries are before them, modulo 2^64
  pub start : Desk
  pub base : ℕ
  -- the last entries
  pub kept : List Entry

abbrev pub shape_of : BookState → Shape
shape_of book = book.server.state.desk.shape

-- What is true of every book. Its journal is legal and allows the server's state, so the server's desk is the replay of the
-- journal. The kept entries are the last ones, and the start desk is the replay of those before them.
pub record Stands (book : BookState) : Type 0 where
  pub valid : IsState book.server.state
  pub legal : IsLegal (shape_of book) (entries_of book.journal)
  pub allowed : Allows (replay (opening_point (shape_of book)) (entries_of book.journal)) book.server.state
  pub folded : List Entry
  pub whole : book.journal ≡ folded ++ book.kept
  pub base : book.base ≡ length folded % 2 ^ 64
  pub start : book.start ≡ (replay (opening_point (shape_of book)) (entries_of folded)).desk

-- the kept entry at this place of the journal; places are taken modulo 2^64
abbrev pub kept_at : BookState → ℕ → Option Entry
kept_at book place = slice_get book.kept ((place + (2 ^ 64 - book.base)) % 2 ^ 64)

-- the bytes that came with these entries
abbrev pub payloads_of : List Entry → ℕ
payloads_of entries = sum_by (λ (entry : Entry). payload_of entry.event) entries

-- Before an event the book must fold where it keeps 4,096 entries or more, or where the bytes that came with the kept entries
-- and with this event pass 67,108,864.
unfoldable pub must_fold : BookState → Event → Bool
must_fold book event = nat_le 4096 (length book.kept) || nat_lt 67108864 (payloads_of book.kept + payload_of event)

-- whether a connected client leaves, which is never refused
abbrev pub is_leaving : BookState → Event → Bool
is_leaving book (Bye client) = is_connected book.server.state.desk client
is_leaving book _ = false

-- The book folded and then kept the entry: the desk of before is the start desk, and nothing older is kept.
pub record Folded (old : BookState) (entry : Entry) (new : BookState) : Type 0 where
  pub start : new.start ≡ old.server.state.desk
  pub base : new.base ≡ length old.journal % 2 ^ 64
  pub kept : new.kept ≡ entry ∷ []

-- The book kept the entry behind the others.
pub record Unfolded (old : BookState) (entry : Entry) (new : BookState) : Type 0 where
  pub start : new.start ≡ old.start
  pub base : new.base ≡ old.base
  pub kept : new.kept ≡ old.kept ++ entry ∷ []

-- It folds exactly where it must; only a connected client that leaves is let go without, where memory was short.
abbrev pub KeptAs : Bool → Bool → BookState → Entry → BookState → Type 0
KeptAs false leaving old entry new = Unfolded old entry new
KeptAs true false old entry new = Folded old entry new
KeptAs true true old entry new = Folded old entry new ⊎ Unfolded old entry new

-- An event was answered: the server made one step of the machine with this answer, and the journal gained just this entry.
pub record Answered (old : BookState) (seat : ℕ) (event : Event) (answer : Answer) (new : BookState) : Type 0 where
  pub step : Step old.server.state (event_of event) (answer_of answer) new.server.state
  pub journal : new.journal ≡ old.journal ++ record { seat = seat; event = event; answer = answer } ∷ []
  pub kept : KeptAs (must_fold old event) (is_leaving old event) old (record { seat = seat; event = event; answer = answer }) new

-- What the program keeps to beside: there is room for the kept entries, with one for each connected client's leaving, and for
-- their bytes.
pub record HasRoom (book : BookState) : Type 0 where
  pub few : length book.kept + length book.server.state.desk.clients ≤ 4112
  pub light : payloads_of book.kept ≤ 67108864

-- There is room for the event's entry without a fold.
abbrev pub HasRoomFor : BookState → Event → Type 0
HasRoomFor book event = (must_fold book event ≡ false) ⊎ (is_leaving book event ≡ true)

-- the book after a fold
abbrev pub folded_of : BookState → BookState
folded_of book = record book { start = book.server.state.desk; base = length book.journal % 2 ^ 64; kept = [] }

-- Inner words of the proofs: how room was made before an event, by whether the book must fold and whether a connected client
-- leaves.
abbrev pub MadeRoom : Bool → Bool → BookState → BookState → Type 0
MadeRoom false leaving old new = new ≡ old
MadeRoom true false old new = new ≡ folded_of old
MadeRoom true true old new = (new ≡ folded_of old) ⊎ (new ≡ old)
