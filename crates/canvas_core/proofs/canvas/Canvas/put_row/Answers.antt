use Rattle.canvas_core.proofs.Span.{written-with_span, get_or-with_span, place-fits}
use Rattle.canvas_core.proofs.canvas.Canvas.put_row.Goals as goal

pub returns-clause-by_index : goal.returns-clause-by_index
returns-clause-by_index c k =
    let screen = c.args.self.now in
    let fits = place-fits screen c.args.x c.args.y _ c.row_for.ensures.valid c.requires.on_row c.requires.on_screen in
    rw (c.copy_from_slice.ensures.after, written-with_span screen.bytes _ c.args.bytes.now fits) (get_or-with_span screen.bytes _ c.args.bytes.now k 0 fits)
