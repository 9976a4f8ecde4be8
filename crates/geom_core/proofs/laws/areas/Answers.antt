use Rattle.geom_core.proofs.CountLemmas.{count_in-rect, total_area-whole}
use Rattle.geom_core.proofs.laws.areas.Goals as goal

pub returns-clause-pixels : goal.returns-clause-pixels
returns-clause-pixels c = count_in-rect

pub returns-clause-parts : goal.returns-clause-parts
returns-clause-parts c = total_area-whole
