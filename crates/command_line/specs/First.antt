-- The first word of a command line.
use Rattle.std.specs.Prelude.{Bool, false, List, [], ◌∷◌, bytes_eq}
use Rattle.clap.specs.Words.{Text}

abbrev pub begins_with : Text → List Text → Bool
begins_with name [] = false
begins_with name (word ∷ words) = bytes_eq word name
