-- Inner words of the proofs: commands that are being built.
use Rattle.std.specs.Prelude.{[], true}
use Rattle.clap.specs.Words.{App}
use Rattle.command_line.specs.Table.{Verb}
use Rattle.command_line.specs.Program.{top_shape, verb_shape}

abbrev pub verb_app : Verb → App
verb_app v = record { top = verb_shape v; subs = [] }

abbrev pub top_app : App
top_app = record { top = top_shape true; subs = [] }
