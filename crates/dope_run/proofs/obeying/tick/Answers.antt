use Rattle.machine_model.specs.Events.Event.{Tick}
use Rattle.machine_model.specs.Events.Answer.{Drawn}
use Rattle.dope_run.specs.Text.{answer_text}
use Rattle.dope_run.proofs.Obeyings.{obeyed_by_writing}
use Rattle.dope_run.proofs.obeying.tick.Goals as goal

pub returns : goal.returns
unfolding answer_text
returns g c =
    obeyed_by_writing c.say.result Tick (Drawn c.tick-drew.result) _ _ _ c.tick-drew.ensures.step c.drew_line.ensures c.tick-drew.ensures.valid c.say.ensures.ok c.say.ensures.err c.say.ensures.later c.say.ensures.cause c.say.ensures.steady
