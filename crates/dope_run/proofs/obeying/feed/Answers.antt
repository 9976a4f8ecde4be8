use Rattle.std.proofs.Common.{refl}
use Rattle.machine_model.specs.Events.Event.{Feed}
use Rattle.machine_model.specs.Events.Answer.{Replied}
use Rattle.cmd_words.specs.declared.replies.Reply.TheVariants.{Done}
use Rattle.outside_io.proofs.Gathered.{Puts-none}
use Rattle.dope_run.specs.Text.{answer_text}
use Rattle.dope_run.proofs.Obeyings.{obeyed_one}
use Rattle.dope_run.proofs.obeying.feed.Goals as goal

pub returns : goal.returns
unfolding answer_text
returns c = λ held waiting faults. obeyed_one (Feed c.args.input) (Replied Done) _ _ c.feed.ensures.step (Puts-none _) c.feed.ensures.valid refl
