use Rattle.touch_rules.proofs.WatchedLooks.{watched_looks_are_enough}
use Rattle.touch_rules.proofs.laws.watched_looks_are_enough.Goals as goal

pub returns : goal.returns
returns c = watched_looks_are_enough
