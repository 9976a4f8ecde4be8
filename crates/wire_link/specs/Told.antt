-- What is written for an answer: its text and a line feed.
use Rattle.std.specs.Prelude.{ℕ, List, ◌++◌, codes, decimal}
use Rattle.cmd_words.specs.declared.inputs.Drew.{Drew}
use Rattle.cmd_words.specs.declared.replies.Reply.{Reply}
use Rattle.cmd_print.specs.Replies.{reply_text}
use Rattle.wire_link.specs.Calls.{Answer}
use Rattle.wire_link.specs.Calls.Answer.{Replied, Drawn}

abbrev pub reply_line : Reply → List ℕ
reply_line reply = reply_text reply ++ codes "\n"

abbrev pub drew_line : Drew → List ℕ
drew_line drew = codes "drew " ++ decimal drew.bands ++ codes "+" ++ decimal drew.queue ++ codes " left " ++ decimal drew.left ++ codes "\n"

abbrev pub answer_line : Answer → List ℕ
answer_line (Replied reply) = reply_line reply
answer_line (Drawn drew) = drew_line drew
