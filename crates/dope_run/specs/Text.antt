-- What is written for each moment of a run: one line, with its line feed; for a dump a line with the screen's sides,
-- its bytes, and a line feed.
use Rattle.std.specs.Prelude.{ℕ, List, [], ◌++◌, Option, Some, None, codes, decimal}
use Rattle.kind_core.specs.declared.shapes.Shape.{Shape}
use Rattle.cmd_words.specs.declared.inputs.Drew.{Drew}
use Rattle.cmd_words.specs.declared.replies.Reply.{Reply}
use Rattle.cmd_print.specs.Replies.{reply_text}
use Rattle.machine_model.specs.Events.{Event, Answer}
use Rattle.machine_model.specs.Events.Event.{Connect, Bye, Ask, Misread, Tick, CountDirty, LookAt, Dump}
use Rattle.machine_model.specs.Events.Answer.{Replied, Drawn, Counted, Seen, Dumped}
use Rattle.machine_model.specs.Run.{Moment}

-- a reply, behind the number of the client that asked
abbrev pub reply_line : ℕ → Reply → List ℕ
reply_line client reply = decimal client ++ codes " " ++ reply_text reply ++ codes "\n"

abbrev pub drew_line : Drew → List ℕ
drew_line drew = codes "drew " ++ decimal drew.bands ++ codes "+" ++ decimal drew.queue ++ codes " left " ++ decimal drew.left ++ codes "\n"

abbrev pub dirty_line : ℕ → List ℕ
dirty_line count = codes "dirty " ++ decimal count ++ codes "\n"

abbrev pub pixel_line : Option ℕ → List ℕ
pixel_line (Some byte) = codes "pixel " ++ decimal byte ++ codes "\n"
pixel_line None = codes "pixel outside\n"

-- the line before a screen's bytes
abbrev pub dump_line : Shape → List ℕ
dump_line shape = codes "dump " ++ decimal shape.width ++ codes " " ++ decimal shape.height ++ codes "\n"

-- a screen's bytes, with that line before them and a line feed behind them
abbrev pub dump_text : Shape → List ℕ → List ℕ
dump_text shape bytes = dump_line shape ++ bytes ++ codes "\n"

-- the text of an event's answer, where the desk has this shape; an input's has none, and no line of a script asks for a
-- Hello
unfoldable pub answer_text : Event → Answer → Shape → List ℕ
answer_text (Connect client) (Replied reply) shape = reply_line client reply
answer_text (Bye client) (Replied reply) shape = reply_line client reply
answer_text (Ask client command payload) (Replied reply) shape = reply_line client reply
answer_text (Misread client place) (Replied reply) shape = reply_line client reply
answer_text Tick (Drawn drew) shape = drew_line drew
answer_text CountDirty (Counted count) shape = dirty_line count
answer_text (LookAt x y) (Seen byte) shape = pixel_line byte
answer_text Dump (Dumped bytes) shape = dump_text shape bytes
answer_text _ _ shape = []

abbrev pub text_of_moment : Moment → List ℕ
text_of_moment moment = answer_text moment.event moment.answer moment.after.desk.shape
