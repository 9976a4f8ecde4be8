use Rattle.look_core.specs.Seen as seen
use Rattle.look_core.specs.Seen.{Seen}
use Rattle.painter_core.proofs.LookLemmas.{ShowsLook-drawn}
use Rattle.painter_core.proofs.looks.draw_film_row.Goals as goal

pub returns : goal.returns
returns c look is = ShowsLook-drawn look (seen.film c.args.w c.args.h c.args.row.now) c.args.at c.args.out.now c.row_span.new.out c.requires.line c.row_span.auto.out is c.row_span.ensures.whole
