use Rattle.std.proofs.Common.{◌∙◌, map, string_bytes, sym}
use Rattle.command_line.specs.Rows.{verb_of}
use Rattle.command_line.proofs.Matches.{call_is}
use Rattle.command_line.proofs.Tests.{none_some}
use Rattle.command_line.proofs.reading.matched.Goals as goal

pub returns-in-Some-clause-ok : goal.returns-in-Some-clause-ok
returns-in-Some-clause-ok c = call_is (map verb_of c.args.rows.now) (map string_bytes c.args.words.now) c.in-Ok.matches c.in-Ok.ensures.ok ∙ sym c.in-Some.ensures

pub returns-clause-err : goal.returns-clause-err
returns-clause-err c = λ taken call is. absurd (none_some call (c.in-None.ensures
    ∙ sym (call_is (map verb_of c.args.rows.now) (map string_bytes c.args.words.now) c.in-Ok.matches c.in-Ok.ensures.ok) ∙ is))
