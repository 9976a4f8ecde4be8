-- The printed form of a command: one space on both sides of `=`, after each comma, after `new`, between options
-- and between an option's word and its value, and no other; numbers without leading zeros.
use Rattle.std.specs.Prelude.{ℕ, ℤ, List, [], ◌∷◌, ◌++◌, codes}
use Rattle.std.specs.List.{flat_map}
use Rattle.std.specs.Fmt.{decimal, signed_decimal}
use Rattle.kind_core.specs.declared.kinds.Attr.{Attr}
use Rattle.kind_core.specs.declared.values.Value as value_type
use Rattle.kind_core.specs.declared.values.Value.TheVariants.{Number, Words}
use Rattle.cmd_words.specs.declared.commands.PlaceOption.{PlaceOption}
use Rattle.cmd_words.specs.declared.commands.ConfigOption.{ConfigOption}
use Rattle.cmd_words.specs.declared.commands.Command.{Command}
use Rattle.cmd_words.specs.declared.commands.Command.TheVariants.{New, Set, Get, Place, Lift, ColumnConfig, RowConfig, Link, Unlink, Bind, Unbind, OpenWindow, CloseWindow, TopWindow, Mode, Admit, Leave, SendFrame, DropWidget, Poll}
use Rattle.cmd_words.specs.Words.{kind_word, attr_word, event_word, place_word, config_word}
use Rattle.cmd_words.specs.Productions.{character}

-- a text in quotes
abbrev pub quoted : List ℕ → List ℕ
quoted t = 34 ∷ flat_map character t ++ 34 ∷ []

abbrev pub printed_value : value_type.Value → List ℕ
printed_value (Number n) = signed_decimal n
printed_value (Words t) = quoted t

abbrev pub printed_set : Attr × value_type.Value → List ℕ
printed_set o = codes "-" ++ attr_word o.0 ++ codes " " ++ printed_value o.1

abbrev pub printed_place : PlaceOption × ℤ → List ℕ
printed_place o = codes "-" ++ place_word o.0 ++ codes " " ++ signed_decimal o.1

abbrev pub printed_config : ConfigOption × ℤ → List ℕ
printed_config o = codes "-" ++ config_word o.0 ++ codes " " ++ signed_decimal o.1

-- the options, one space between them
abbrev pub printed_options : {A : Type 0} → (A → List ℕ) → List A → List ℕ
printed_options print [] = []
printed_options print (o ∷ os) = print o ++ flat_map (λ p. codes " " ++ print p) os

unfoldable pub printed : Command → List ℕ
printed (New n k) = n ++ codes " = new " ++ kind_word k ++ codes "()"
printed (Set n os) = n ++ codes ".set(" ++ printed_options printed_set os ++ codes ")"
printed (Get n a) = n ++ codes ".get(" ++ attr_word a ++ codes ")"
printed (Place n c []) = n ++ codes ".place(" ++ c ++ codes ")"
printed (Place n c (o ∷ os)) = n ++ codes ".place(" ++ c ++ codes ", " ++ printed_options printed_place (o ∷ os) ++ codes ")"
printed (Lift n c) = n ++ codes ".lift(" ++ c ++ codes ")"
printed (ColumnConfig n i os) = n ++ codes ".columnconfig(" ++ signed_decimal i ++ codes ", " ++ printed_options printed_config os ++ codes ")"
printed (RowConfig n i os) = n ++ codes ".rowconfig(" ++ signed_decimal i ++ codes ", " ++ printed_options printed_config os ++ codes ")"
printed (Link n v) = n ++ codes ".link(" ++ v ++ codes ")"
printed (Unlink n) = n ++ codes ".unlink()"
printed (Bind n e t) = n ++ codes ".bind(" ++ event_word e ++ codes ", " ++ t ++ codes ")"
printed (Unbind n e) = n ++ codes ".unbind(" ++ event_word e ++ codes ")"
printed (OpenWindow n) = n ++ codes ".open()"
printed (CloseWindow n) = n ++ codes ".close()"
printed (TopWindow n) = n ++ codes ".top()"
printed (Mode n w h) = n ++ codes ".mode(" ++ signed_decimal w ++ codes ", " ++ signed_decimal h ++ codes ")"
printed (Admit n p) = n ++ codes ".admit(" ++ signed_decimal p ++ codes ")"
printed (Leave n) = n ++ codes ".leave()"
printed (SendFrame n s) = n ++ codes ".frame(" ++ decimal s ++ codes ")"
printed (DropWidget n) = n ++ codes ".drop()"
printed Poll = codes "poll()"
