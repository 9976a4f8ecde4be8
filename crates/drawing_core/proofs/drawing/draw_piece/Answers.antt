use Rattle.drawing_core.proofs.DrawLemmas.{count-clean}
use Rattle.drawing_core.proofs.drawing.draw_piece.Goals as goal

pub returns-in-None-clause-none : goal.returns-in-None-clause-none
returns-in-None-clause-none c none = count-clean c.args.queue.now c.requires.dirt c.in-None.ensures.none
