use Rattle.geom_core.proofs.RectLemmas.{in_rect-empty, in_rect-corner}
use Rattle.geom_core.proofs.laws.empty_rectangles.Goals as goal

pub returns-clause-nothing : goal.returns-clause-nothing
returns-clause-nothing c = in_rect-empty

pub returns-clause-corner : goal.returns-clause-corner
returns-clause-corner c = in_rect-corner
