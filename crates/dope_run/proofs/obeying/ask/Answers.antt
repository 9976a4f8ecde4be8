use Rattle.machine_model.specs.Events.Event.{Ask}
use Rattle.machine_model.specs.Events.Answer.{Replied}
use Rattle.dope_run.specs.Text.{answer_text}
use Rattle.dope_run.proofs.Obeyings.{obeyed_by_writing}
use Rattle.dope_run.proofs.obeying.ask.Goals as goal

pub returns : goal.returns
unfolding answer_text
returns g c =
    obeyed_by_writing c.say.result (Ask c.args.client c.args.command.now c.args.payload.now) (Replied c.command-reply.result) _ _ _ c.command-reply.ensures.step c.reply_line.ensures c.command-reply.ensures.valid c.say.ensures.ok c.say.ensures.err c.say.ensures.later c.say.ensures.cause c.say.ensures.steady
