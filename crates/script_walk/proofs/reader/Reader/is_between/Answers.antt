use Rattle.script_walk.proofs.Keeping.{kept-waits-some}
use Rattle.script_walk.proofs.reader.Reader.is_between.Goals as goal

pub returns-then-self-gt0-clause-some : goal.returns-then-self-gt0-clause-some
returns-then-self-gt0-clause-some c = λ is. kept-waits-some c.args.self.now c.if-self-gt0.true
