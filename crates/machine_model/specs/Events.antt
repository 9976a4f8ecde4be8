-- What can happen to the machine, and what it can answer.
use Rattle.std.specs.Prelude.{ℕ, List, Option}
use Rattle.cmd_words.specs.declared.commands.Command.{Command}
use Rattle.cmd_words.specs.declared.inputs.Input.{Input}
use Rattle.cmd_words.specs.declared.inputs.Drew.{Drew}
use Rattle.cmd_words.specs.declared.replies.Reply.{Reply}

pub data Event : Type 0 where
  -- the client of this number connects
  Connect : ℕ → Event
  -- a client connects under the least free number
  Hello : Event
  -- the client leaves
  Bye : ℕ → Event
  -- the client gives a command, with the bytes that come with it
  Ask : ℕ → Command → List ℕ → Event
  -- the client gives a line that is no command, with its place
  Misread : ℕ → ℕ → Event
  -- the pointer or the keyboard does something
  Feed : Input → Event
  -- time goes on by one tick
  Tick : Event
  -- how many pixels are dirty
  CountDirty : Event
  -- what the pixel (x, y) shows
  LookAt : ℕ → ℕ → Event
  -- what the whole screen shows
  Dump : Event

pub data Answer : Type 0 where
  Replied : Reply → Answer
  Drawn : Drew → Answer
  Counted : ℕ → Answer
  Seen : Option ℕ → Answer
  Dumped : List ℕ → Answer
