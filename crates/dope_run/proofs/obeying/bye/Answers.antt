use Rattle.machine_model.specs.Events.Event.{Bye}
use Rattle.machine_model.specs.Events.Answer.{Replied}
use Rattle.dope_run.specs.Text.{answer_text}
use Rattle.dope_run.proofs.Obeyings.{obeyed_by_writing}
use Rattle.dope_run.proofs.obeying.bye.Goals as goal

pub returns : goal.returns
unfolding answer_text
returns g c =
    obeyed_by_writing c.say.result (Bye c.args.client) (Replied c.bye-reply.result) _ _ _ c.bye-reply.ensures.step c.reply_line.ensures c.bye-reply.ensures.valid c.say.ensures.ok c.say.ensures.err c.say.ensures.later c.say.ensures.cause c.say.ensures.steady
