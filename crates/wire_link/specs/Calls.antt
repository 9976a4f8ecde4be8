-- The calls that a service keeps, with what it answered, and those that it refuses for want of memory.
use Rattle.std.specs.Prelude.{◌≡◌, ◌⊎◌, ℕ, ◌+◌, ◌-◌, ◌^◌, ◌≤◌, Bool, true, false, min, List, [], ◌∷◌, ◌++◌, Option, Some, None}
use Rattle.cmd_words.specs.declared.commands.Command.{Command}
use Rattle.cmd_words.specs.declared.inputs.Input.{Input}
use Rattle.cmd_words.specs.declared.inputs.Drew.{Drew}
use Rattle.cmd_words.specs.declared.replies.Reply.{Reply}
use Rattle.cmd_words.specs.declared.replies.Reply.TheVariants.{Number, Refused}
use Rattle.cmd_words.specs.declared.replies.Refusal.{Refusal}
use Rattle.cmd_words.specs.declared.replies.Refusal.TheVariants.{Memory}
use Rattle.std.specs.Prelude.{Result, Ok, Err}

-- what a service is called with
pub data Call : Type 0 where
  -- a client connects
  Hello : Call
  -- the client gives a command, with the bytes that come with it
  Ask : Command → List ℕ → Call
  -- the pointer or the keyboard does something
  Feed : Input → Call
  -- time goes on by one tick
  Tick : Call
  -- the client leaves
  Bye : Call

pub data Answer : Type 0 where
  Replied : Reply → Answer
  Drawn : Drew → Answer

-- a call with its answer
pub record Kept : Type 0 where
  pub call : Call
  pub answer : Answer

abbrev pub kept : Call → Answer → Kept
kept call answer = record { call = call; answer = answer }

-- error 1
abbrev pub error_1 : Answer
error_1 = Replied (Refused Memory)

-- The service keeps the call with its answer; or it answers error 1, keeps nothing, and has refused one call more.
abbrev pub IsAnswered : Call → Answer → List Kept → ℕ → Type 0
IsAnswered call answer calls refused =
    ((calls ≡ kept call answer ∷ []) × (refused ≡ 0)) ⊎ ((answer ≡ error_1) × (calls ≡ []) × (refused ≡ 1))

-- What a service tells of itself: the calls that it has kept, where it tells them, and how many it has refused.
pub record Ledger : Type 0 where
  pub calls : Option (List Kept)
  pub refusals : ℕ

abbrev pub ledger : Option (List Kept) → ℕ → Ledger
ledger calls refusals = record { calls = calls; refusals = refusals }

-- kept calls grow by these, where they are told
abbrev pub Adds : Option (List Kept) → Option (List Kept) → List Kept → Type 0
Adds None new more = Unit {0}
Adds (Some old) None more = ⊥
Adds (Some old) (Some new) more = new ≡ old ++ more

-- These calls were kept, and so many refused: the count of refusals rose by as many at least, or stands at its last
-- value, 18,446,744,073,709,551,615.
pub record Took (old new : Ledger) (calls : List Kept) (refused : ℕ) : Type 0 where
  pub kept : Adds old.calls new.calls calls
  pub rose : min (old.refusals + refused) (2 ^ 64 - 1) ≤ new.refusals

-- The service was called so, and answered this.
pub record Called (old new : Ledger) (call : Call) (answer : Answer) : Type 0 where
  pub calls : List Kept
  pub refused : ℕ
  pub answered : IsAnswered call answer calls refused
  pub took : Took old new calls refused

-- a reply that is a number: with it a `hello` gives the session a client
abbrev pub is_number : Reply → Bool
is_number (Number n) = true
is_number _ = false

-- what a tick is answered
abbrev pub ticked : Result Drew Refusal → Answer
ticked (Ok drew) = Drawn drew
ticked (Err refusal) = Replied (Refused refusal)
