use Rattle.look_tests.proofs.pixels.pixel.Goals as goal

pub row_span-requires-clause-drawable : goal.row_span-requires-clause-drawable
row_span-requires-clause-drawable g c = c.requires c.args.v
