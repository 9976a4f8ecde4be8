-- The texts of replies, and the numbers of errors.
use Rattle.std.specs.Prelude.{ℕ, ℤ, pos, List, [], ◌∷◌, ◌++◌, codes}
use Rattle.std.specs.List.{flat_map}
use Rattle.std.specs.Fmt.{signed_decimal}
use Rattle.cmd_words.specs.declared.replies.Reply.{Reply}
use Rattle.cmd_words.specs.declared.replies.Reply.TheVariants.{Done, Number, Words, Event, NoEvent, Lost, Refused}
use Rattle.cmd_words.specs.declared.replies.Refusal.{Refusal}
use Rattle.cmd_words.specs.declared.replies.Refusal.TheVariants.{Memory, Syntax, NameTaken, NoSuchName, WrongKind, BadValue, Full, HasParent, Cycle, TooDeep, CellTaken, AlreadyOpen, NotOpen, NoMode, Admitted, Budget, NotAdmitted, FrameSize, InUse, NotConnected, NotHere, Connected}
use Rattle.cmd_words.specs.Words.{event_word}
use Rattle.cmd_print.specs.Printed.{quoted}

-- the number of an error
abbrev pub error_number : Refusal → ℕ
error_number Memory = 1
error_number (Syntax place) = 2
error_number NameTaken = 3
error_number NoSuchName = 4
error_number WrongKind = 5
error_number (BadValue least greatest) = 6
error_number (Full limit) = 7
error_number HasParent = 8
error_number Cycle = 9
error_number TooDeep = 10
error_number CellTaken = 11
error_number AlreadyOpen = 12
error_number NotOpen = 13
error_number NoMode = 14
error_number Admitted = 15
error_number (Budget need left) = 16
error_number NotAdmitted = 17
error_number (FrameSize want got) = 18
error_number InUse = 19
error_number NotConnected = 20
error_number NotHere = 21
error_number Connected = 22

-- the further numbers of an error
abbrev pub error_details : Refusal → List ℤ
error_details (Syntax place) = pos place ∷ []
error_details (BadValue least greatest) = least ∷ greatest ∷ []
error_details (Full limit) = pos limit ∷ []
error_details (Budget need left) = pos need ∷ pos left ∷ []
error_details (FrameSize want got) = pos want ∷ pos got ∷ []
error_details _ = []

-- a number after a space
abbrev pub spaced : ℤ → List ℕ
spaced n = codes " " ++ signed_decimal n

-- the text of a reply, without its line feed
abbrev pub reply_text : Reply → List ℕ
reply_text Done = codes "ok"
reply_text (Number n) = codes "ok" ++ spaced n
reply_text (Words t) = codes "ok " ++ quoted t
reply_text (Event tag kind a b) = codes "event " ++ tag ++ codes " " ++ event_word kind ++ spaced a ++ spaced b
reply_text NoEvent = codes "none"
reply_text (Lost n) = codes "lost" ++ spaced (pos n)
reply_text (Refused refusal) = codes "error" ++ spaced (pos (error_number refusal)) ++ flat_map spaced (error_details refusal)
