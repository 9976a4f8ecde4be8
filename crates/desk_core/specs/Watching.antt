-- Inner words of the proofs: the numbers of the widgets whose looks are kept around an input.
use Rattle.std.specs.Prelude.{ℕ, List, ◌++◌, Option}
use Rattle.std.specs.Option.{option_map}
use Rattle.tree_core.specs.declared.pointer.Pointer.{Pointer}
use Rattle.input_core.specs.declared.effects.Effects.{Effects}
use Rattle.touch_rules.specs.Telling.{numbers_in, held_numbers}

-- the number of the widget whose `value` the input sets
abbrev pub value_number : Effects → Option ℕ
value_number effects = option_map (λ id. id.key) (option_map (λ set. set.0) effects.value)

-- those of the widgets that get a value
abbrev pub given_numbers : Effects → List ℕ
given_numbers effects =
    numbers_in (value_number effects)
    ++ numbers_in (option_map (λ id. id.key) (option_map (λ set. set.0) effects.text))
    ++ numbers_in (option_map (λ id. id.key) (option_map (λ set. set.0) effects.caret))
    ++ numbers_in (option_map (λ id. id.key) (option_map (λ set. set.0) effects.moved))

-- and those of what the pointer holds before the input and after it
abbrev pub effects_numbers : Pointer → Effects → List ℕ
effects_numbers pointer effects = given_numbers effects ++ (held_numbers pointer ++ held_numbers effects.pointer)
