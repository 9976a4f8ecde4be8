use Rattle.std.proofs.Common.{◌∙◌, ap}
use Rattle.std.specs.Option.{option_map, option_map_or}
use Rattle.scene_core.proofs.Numbered.{read, cell_read}
use Rattle.scene_core.specs.Children.{row_for}
use Rattle.scene_core.proofs.reading.cell_of.Goals as goal

pub returns : goal.returns
returns c = c.cell_in.ensures ∙ ap (λ cell. option_map_or (λ cell. cell) cell (record { column = 0; row = 0; pad = 0 })) (read (λ row. option_map (λ attached. attached.1) row.attached) c.args.tree.now c.args.id.key _ c.cell.ensures.cell) ∙ cell_read (row_for c.args.tree.now c.args.id.key)
