-- Inner words of the proofs: what is needed of a table so that its words are read.
use Rattle.std.specs.Prelude.{◌==◌, ◌&&◌, Bool, not, length, nat_le}
use Rattle.std.specs.List.{list_all}
use Rattle.clap.specs.Words.{Text}
use Rattle.clap.specs.Lexer.{has_byte}
use Rattle.command_line.specs.Table.{Verb}

-- the word `--name` stands for an option of this name: it isn't empty, and has no `=`
abbrev pub is_fit_name : Text → Bool
is_fit_name name = not (length name == 0) && not (has_byte 61 name)

-- a command has at most 8 options
abbrev pub is_fit : Verb → Bool
is_fit v = nat_le (length v.options) 8 && list_all (λ o. is_fit_name o.name) v.options
