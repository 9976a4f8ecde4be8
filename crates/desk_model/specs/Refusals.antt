-- How a command is answered: by the first refusal that holds, and then the desk stays; else by its effect.
use Rattle.std.specs.Prelude.{Bool, true, false, not, List, [], ◌∷◌, Option, Some, None, if◌then◌else◌, is_none}
use Rattle.kind_core.specs.declared.kinds.Kind.{Kind}
use Rattle.cmd_words.specs.declared.replies.Reply.{Reply}
use Rattle.cmd_words.specs.declared.replies.Reply.TheVariants.{Refused}
use Rattle.cmd_words.specs.declared.replies.Refusal.{Refusal}
use Rattle.cmd_words.specs.declared.replies.Refusal.TheVariants.{Memory, NoSuchName, WrongKind}
use Rattle.widget_model.specs.Rows.{Row}
use Rattle.widget_model.specs.Named.{is_kind_of}
use Rattle.desk_model.specs.Desk.{Desk}

-- a refusal that holds where the test is true
abbrev pub when : Bool → Refusal → Option Refusal
when test refusal = if test then Some refusal else None

-- the first one that holds, from left to right
abbrev pub first_refusal : List (Option Refusal) → Option Refusal
first_refusal [] = None
first_refusal (None ∷ refusals) = first_refusal refusals
first_refusal (Some refusal ∷ refusals) = Some refusal

-- the reply and the desk after it
abbrev pub outcome : Desk → Option Refusal → Reply × Desk → Reply × Desk
outcome desk (Some refusal) effect = (Refused refusal, desk)
outcome desk None effect = effect

-- there is no such row
abbrev pub unless_there : Option Row → Option Refusal
unless_there row = when (is_none row) NoSuchName

-- the row's kind doesn't pass the test
abbrev pub unless_kind : (Kind → Bool) → Option Row → Option Refusal
unless_kind test row = when (not (is_kind_of test row)) WrongKind

-- The reply says that there is no memory.
abbrev pub is_memory : Reply → Bool
is_memory (Refused Memory) = true
is_memory _ = false
