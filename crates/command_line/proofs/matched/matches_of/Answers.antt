use Rattle.std.proofs.Common.{◌∙◌, map, string_bytes}
use Rattle.clap.specs.Words.{app_of}
use Rattle.command_line.specs.Rows.{verb_of}
use Rattle.command_line.proofs.Faults.{no_fault, taken_memory}
use Rattle.command_line.proofs.matched.matches_of.Goals as goal

pub returns-in-Ok-try_get_matches_from-clause-faultless : goal.returns-in-Ok-try_get_matches_from-clause-faultless
returns-in-Ok-try_get_matches_from-clause-faultless c =
    no_fault (app_of c.in-Ok.command) (map verb_of c.args.rows.now) (map string_bytes c.args.words.now) c.in-Ok.ensures c.in-Ok-try_get_matches_from.ensures.kinds

pub returns : goal.returns
returns c = record {
  ok = tt;
  faultless = tt;
  err = λ taken. absurd (c.in_default.not-OutOfMemory (c.kind.ensures
      ∙ taken_memory (app_of c.in-Ok.command) (map verb_of c.args.rows.now) (map string_bytes c.args.words.now) c.in-Err-try_get_matches_from.error
      c.in-Ok.ensures c.in-Err-try_get_matches_from.ensures.passes c.in-Err-try_get_matches_from.ensures.kinds taken));
}
