use Rattle.std.proofs.Common.{◌∙◌}
use Rattle.painter_core.specs.Stage.{layers_of}
use Rattle.painter_core.proofs.RowLemmas.{Filled-line}
use Rattle.painter_core.proofs.filling.fill_row.Goals as goal

pub returns : goal.returns
returns c =
    Filled-line c.args.canvas.now c.args.line c.start_of-x.result.0 c.start_of-x.result.1 c.draw_row.new.out ((layers_of c.args.view.now).colour c.args.under)
    c.requires.valid c.requires.on_screen c.start_of-x.ensures.column c.start_of-x.ensures.row c.requires.one_row c.requires.filled
    (c.draw_row.auto.out ∙ c.row_for.ensures.len) c.requires.count_fits c.draw_row.ensures
