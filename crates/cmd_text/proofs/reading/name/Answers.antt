-- what is cut off is a name
use Rattle.std.proofs.Common.{◌≡◌, ap, ◌∙◌, true, get_or}
use Rattle.kind_core.specs.Bytes.{is_name, is_letter}
use Rattle.cmd_text.proofs.Runs.{name_run}
use Rattle.cmd_text.proofs.reading.name.Goals as goal

pub name_of-requires : goal.name_of-requires
name_of-requires c =
    let letter : is_letter (get_or c.args.bytes.now 0 0) ≡ true = cc in
    ap is_name c.split_at-in-len1-up.ensures.front ∙ name_run c.args.bytes.now c.run-len.result c.in-len1-up.len_at_least letter c.run-len.ensures.length
