use Rattle.std.proofs.Common.{◌∙◌, sym, arith}
use Rattle.input_core.proofs.Limits.{real_least, view_most}
use Rattle.input_core.proofs.values.knob_length.Goals as goal

pub scrollbar_knob_length-requires-clause-real : goal.scrollbar_knob_length-requires-clause-real
scrollbar_knob_length-requires-clause-real c =
    omega (arith, c.count-real.ensures, real_least c.args.tree.now c.args.id.key c.requires.widgets c.requires.live (sym c.kind.ensures ∙ c.in-Scrollbar.is))

pub scrollbar_knob_length-requires-clause-view : goal.scrollbar_knob_length-requires-clause-view
scrollbar_knob_length-requires-clause-view c =
    omega (arith, c.count-view.ensures, view_most c.args.tree.now c.args.id.key c.requires.widgets c.requires.live)
