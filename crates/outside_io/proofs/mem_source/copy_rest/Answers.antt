use Rattle.std.proofs.Common.{arith}
use Rattle.std.proofs.lemmas.List.{take_rest}
use Rattle.outside_io.proofs.Front.{front_and_rest}
use Rattle.outside_io.proofs.mem_source.copy_rest.Goals as goal

pub returns-clause-front : goal.returns-clause-front
returns-clause-front c =
    let bytes = c.args.bytes.now in
    let taken = c.args.taken in
    let count = rw (take_rest bytes taken) at c.copy_front.ensures.count in
    let copied = rw (take_rest bytes taken) at c.copy_front.ensures.copied in
    front_and_rest bytes c.args.buf.now c.copy_front.new.to taken c.copy_front.result (omega (arith, count)) copied
