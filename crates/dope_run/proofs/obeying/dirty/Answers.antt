use Rattle.std.proofs.Common.{refl}
use Rattle.machine_model.specs.Events.Event.{CountDirty}
use Rattle.machine_model.specs.Events.Answer.{Counted}
use Rattle.dope_run.specs.Text.{answer_text}
use Rattle.dope_run.proofs.Obeyings.{obeyed_by_writing}
use Rattle.dope_run.proofs.obeying.dirty.Goals as goal

pub returns : goal.returns
unfolding answer_text
returns g c =
    obeyed_by_writing c.say.result CountDirty (Counted c.dirty.result) _ _ _ (refl, c.dirty.ensures.count) c.dirty_line.ensures c.requires.valid c.say.ensures.ok c.say.ensures.err c.say.ensures.later c.say.ensures.cause c.say.ensures.steady
