use Rattle.machine_model.specs.Events.Event.{Connect}
use Rattle.machine_model.specs.Events.Answer.{Replied}
use Rattle.dope_run.specs.Text.{answer_text}
use Rattle.dope_run.proofs.Obeyings.{obeyed_by_writing}
use Rattle.dope_run.proofs.obeying.connect.Goals as goal

pub returns : goal.returns
unfolding answer_text
returns g c =
    obeyed_by_writing c.say.result (Connect c.args.client) (Replied c.connect-reply.result) _ _ _ c.connect-reply.ensures.step c.reply_line.ensures c.connect-reply.ensures.valid c.say.ensures.ok c.say.ensures.err c.say.ensures.later c.say.ensures.cause c.say.ensures.steady
