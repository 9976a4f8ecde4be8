use Rattle.std.proofs.Common.{refl, sym, ◌∙◌}
use Rattle.wire_link.proofs.Carryings.{input_found, input_none}
use Rattle.wire_link.proofs.asking.watched.Goals as goal

pub returns-in-Some : goal.returns-in-Some
returns-in-Some c = input_found c.args.line.now c.line_order.result c.in-Some.input c.line_order.ensures.order (sym c.input_in.ensures ∙ c.in-Some.is)

pub returns-in-None : goal.returns-in-None
returns-in-None c = (
  refl,
  record { input = input_none c.args.line.now c.line_order.result c.line_order.ensures.all (sym c.input_in.ensures ∙ c.in-None.is); tick = c.requires.no_tick },
  c.requires.no_bye,
)
