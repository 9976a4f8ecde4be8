use Rattle.std.proofs.Common.{Some, None, map}
use Rattle.clap.specs.Words.{found_of, rows_of}
use Rattle.command_line.specs.Rows.{verb_of}
use Rattle.command_line.proofs.Matches.{few_options, met_call, met_rows}
use Rattle.command_line.proofs.matched.matched_in.Goals as goal

pub numbers_of-requires : goal.numbers_of-requires
numbers_of-requires c = record { few = few_options c.args.rows.now c.in-Some.met.0.now c.in-Some-row_named.row c.in-Some-row_named.ensures c.requires.fit }

pub returns-in-None-numbers_of : goal.returns-in-None-numbers_of
returns-in-None-numbers_of c = met_call (map verb_of c.args.rows.now) c.args.matches.now c.in-Some.met.0.now (found_of c.in-Some.met.1.now) (verb_of c.in-Some-row_named.row) None
    (met_rows c.args.matches.now c.in-Some.met.0.now (rows_of (found_of c.in-Some.met.1.now)) c.in-Some.ensures.name c.in-Some.ensures.rows) c.in-Some-row_named.ensures c.in-None-numbers_of.ensures

pub returns : goal.returns
returns c = met_call (map verb_of c.args.rows.now) c.args.matches.now c.in-Some.met.0.now (found_of c.in-Some.met.1.now) (verb_of c.in-Some-row_named.row) (Some c.in-Some-numbers_of.numbers.items)
    (met_rows c.args.matches.now c.in-Some.met.0.now (rows_of (found_of c.in-Some.met.1.now)) c.in-Some.ensures.name c.in-Some.ensures.rows) c.in-Some-row_named.ensures c.in-Some-numbers_of.ensures
