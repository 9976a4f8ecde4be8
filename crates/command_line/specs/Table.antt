-- The commands of the program, and the options that each needs. A reader of the words has to believe this table.
use Rattle.std.specs.Prelude.{ℕ, List, [], ◌∷◌, codes, find, bytes_eq, Option}
use Rattle.clap.specs.Words.{Text}

-- An option of a command: `--name` and, as its value, a number from least to greatest.
pub record Ranged : Type 0 where
  pub name : Text
  pub least : ℕ
  pub greatest : ℕ

-- A command with its options, in the order of its plain form.
pub record Verb : Type 0 where
  pub name : Text
  pub options : List Ranged

-- A screen of so many pixels, and of the pixels that a tick may write a part that is spared.
abbrev pub shape_options : List Ranged
shape_options = record { name = codes "width"; least = 16; greatest = 1024 }
    ∷ record { name = codes "height"; least = 16; greatest = 768 }
    ∷ record { name = codes "budget"; least = 1; greatest = 786432 }
    ∷ record { name = codes "spare"; least = 1; greatest = 786432 } ∷ []

abbrev pub gen_options : List Ranged
gen_options = record { name = codes "number"; least = 0; greatest = 1000000 }
    ∷ record { name = codes "rounds"; least = 0; greatest = 2000 } ∷ []

abbrev pub serve_options : List Ranged
serve_options = record { name = codes "port"; least = 1024; greatest = 65535 }
    ∷ record { name = codes "sessions"; least = 1; greatest = 64 } ∷ shape_options

abbrev pub render_options : List Ranged
render_options = record { name = codes "workers"; least = 1; greatest = 16 } ∷ shape_options

abbrev pub dope_verbs : List Verb
dope_verbs = record { name = codes "play"; options = shape_options }
    ∷ record { name = codes "gen"; options = gen_options }
    ∷ record { name = codes "serve"; options = serve_options }
    ∷ record { name = codes "stream"; options = shape_options }
    ∷ record { name = codes "view"; options = [] }
    ∷ record { name = codes "record"; options = shape_options }
    ∷ record { name = codes "check"; options = [] }
    ∷ record { name = codes "render"; options = render_options } ∷ []

-- the first of the commands that has this name
abbrev pub verb_named : List Verb → Text → Option Verb
verb_named verbs name = find (λ v. bytes_eq v.name name) verbs
