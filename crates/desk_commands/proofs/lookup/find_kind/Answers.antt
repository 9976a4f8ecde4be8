use Rattle.std.proofs.Common.{Some, sym, ap}
use Rattle.desk_commands.proofs.lookup.find_kind.Goals as goal

pub returns-in-Err-clause-found : goal.returns-in-Err-clause-found
returns-in-Err-clause-found c = λ test rest only. rw c.in-Err.ensures.found.1 (ap Some (sym c.in-Err.ensures.found.0))
