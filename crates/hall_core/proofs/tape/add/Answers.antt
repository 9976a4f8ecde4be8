use Rattle.hall_core.proofs.Taping.{appends}
use Rattle.std.proofs.Common.{arith}
use Rattle.hall_core.proofs.tape.add.Goals as goal

-- src/tape.rt:109:5
pub fetch_add-requires : goal.fetch_add-requires
fetch_add-requires g c = (c.requires.table, omega (arith, c.requires.word), appends g.E.Adds.entry c.args.table.now.shared.table_id.slots c.args.seat.now.id c.args.seat.now.me c.requires.free)
