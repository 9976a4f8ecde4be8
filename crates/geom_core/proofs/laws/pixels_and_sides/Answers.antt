use Rattle.geom_core.proofs.RectLemmas.{rect_from_pixels, IsEnclosed-from_inside, IsInside-from_enclosed}
use Rattle.geom_core.proofs.laws.pixels_and_sides.Goals as goal

pub returns-clause-same : goal.returns-clause-same
returns-clause-same c = rect_from_pixels

pub returns-clause-enclosed : goal.returns-clause-enclosed
returns-clause-enclosed c = IsEnclosed-from_inside

pub returns-clause-inside : goal.returns-clause-inside
returns-clause-inside c = IsInside-from_enclosed
