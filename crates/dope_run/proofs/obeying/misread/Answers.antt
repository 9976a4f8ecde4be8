use Rattle.std.proofs.Common.{refl}
use Rattle.cmd_words.specs.declared.replies.Reply.TheVariants.{Refused}
use Rattle.cmd_words.specs.declared.replies.Refusal.TheVariants.{Syntax}
use Rattle.machine_model.specs.Events.Event.{Misread}
use Rattle.machine_model.specs.Events.Answer.{Replied}
use Rattle.dope_run.specs.Text.{answer_text}
use Rattle.dope_run.proofs.Obeyings.{obeyed_by_writing}
use Rattle.dope_run.proofs.obeying.misread.Goals as goal

pub returns : goal.returns
unfolding answer_text
returns g c =
    obeyed_by_writing c.say.result (Misread c.args.client c.args.place) (Replied (Refused (Syntax c.args.place))) _ _ _ (refl, refl) c.reply_line.ensures c.requires.valid c.say.ensures.ok c.say.ensures.err c.say.ensures.later c.say.ensures.cause c.say.ensures.steady
