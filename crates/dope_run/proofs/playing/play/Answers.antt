use Rattle.dope_run.proofs.Performings.{ended, not_refused}
use Rattle.dope_run.proofs.playing.play.Goals as goal

pub returns-clause-untouched : goal.returns-clause-untouched
returns-clause-untouched g c = λ refused. absurd (not_refused _ c.walk-end.result c.status.ensures refused)

pub returns-clause-played : goal.returns-clause-played
returns-clause-played g c = λ played. rw c.into_server.ensures (ended c.args.shape _ c.walk-end.result _ _ _ _ _ _ c.in-Ok.ensures.opens c.in-Ok.ensures.valid c.status.ensures c.walk-end.ensures.walked)
