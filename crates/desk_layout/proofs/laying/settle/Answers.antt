use Rattle.std.proofs.Common.{◌&&◌, Bool, ap, ◌∙◌}
use Rattle.desk_layout.proofs.Layouts.{settled-none, settled-laid}
use Rattle.desk_layout.proofs.laying.settle.Goals as goal

pub returns-then-not-changed : goal.returns-then-not-changed
returns-then-not-changed c = settled-none c.args.client (c.args.changed && c.args.moves) c.args.tree.now c.requires.valid (ap (λ (b : Bool). b && c.args.moves) c.if-not-changed.true)

pub returns-then-not-moves : goal.returns-then-not-moves
returns-then-not-moves c = settled-none c.args.client (c.args.changed && c.args.moves) c.args.tree.now c.requires.valid (ap (λ (b : Bool). b && c.args.moves) c.if-not-changed.false ∙ c.if-not-moves.true)

pub returns : goal.returns
returns c = settled-laid c.args.client (c.args.changed && c.args.moves) c.args.tree.now c.lay_out.new.tree (ap (λ (b : Bool). b && c.args.moves) c.if-not-changed.false ∙ c.if-not-moves.false) c.lay_out.ensures
