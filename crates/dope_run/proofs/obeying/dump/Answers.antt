use Rattle.std.proofs.Common.{refl, ap}
use Rattle.machine_model.specs.Events.Event.{Dump}
use Rattle.machine_model.specs.Events.Answer.{Dumped}
use Rattle.dope_run.specs.Text.{answer_text, dump_text}
use Rattle.dope_run.proofs.Obeyings.{obeyed_by_writing}
use Rattle.dope_run.proofs.obeying.dump.Goals as goal

pub returns : goal.returns
unfolding answer_text
returns g c =
    obeyed_by_writing c.say_screen.result Dump (Dumped c.picture.result.now) _ _ _ (refl, c.picture.ensures.screen) (ap (λ shape. dump_text shape c.picture.result.now) c.shape.ensures.shape) c.requires.valid c.say_screen.ensures.ok c.say_screen.ensures.err c.say_screen.ensures.later c.say_screen.ensures.cause c.say_screen.ensures.steady
