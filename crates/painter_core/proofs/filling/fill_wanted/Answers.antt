use Rattle.std.proofs.Common.{sym, ◌∙◌}
use Rattle.painter_core.specs.Stage.{layers_of}
use Rattle.painter_core.proofs.PaintsLemmas.{Paints-filled, Paints-unwanted}
use Rattle.painter_core.proofs.filling.fill_wanted.Goals as goal

pub returns-then-not-is_wanted : goal.returns-then-not-is_wanted
returns-then-not-is_wanted c = Paints-unwanted (layers_of c.args.view.now) c.args.only c.args.under c.args.piece c.args.canvas.now c.requires.valid (sym c.is_wanted.ensures ∙ c.if-not-is_wanted.true)

pub returns : goal.returns
returns c = Paints-filled (layers_of c.args.view.now) c.args.only c.args.under c.args.piece c.args.canvas.now c.fill.new.canvas c.fill.ensures (sym c.is_wanted.ensures ∙ c.if-not-is_wanted.false)
