use Rattle.std.proofs.Common.{sym, arith}
use Rattle.tree_core.proofs.Children.{child_id-outside}
use Rattle.tree_core.proofs.hanging.child_number.Goals as goal

pub returns-then-column-lt1 : goal.returns-then-column-lt1
returns-then-column-lt1 c = sym (child_id-outside c.args.store.now c.args.id c.args.column c.args.line c.requires.grove (λ column line. omega (arith, c.then-column-lt1.either)))
