use Rattle.std.proofs.Common.{◌<◌, ◌+◌, length, arith}
use Rattle.std.proofs.lemmas.Grind.{common_steps}
use Rattle.script_walk.proofs.Keeping.{too_long}
use Rattle.script_walk.proofs.reader.Reader.stretch.Goals as goal

pub returns-in-Err-clause-off : goal.returns-in-Err-clause-off
returns-in-Err-clause-off c =
    let many : 520 < length c.args.self.now.line.items + length c.args.bytes.now = grind (arith, common_steps) in
    λ off. too_long c.args.self.now c.args.bytes.now c.requires.no_wants c.requires.reader.line c.requires.no_feed many
