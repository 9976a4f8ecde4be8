-- The grammar of a script's lines: which line asks for what. Words are parted by exactly one space.
use Rattle.std.specs.Prelude.{◌≡◌, ◌⊎◌, ℕ, List, []}
use Rattle.cmd_words.specs.declared.inputs.Input.{Input}
use Rattle.cmd_words.specs.declared.inputs.Input.TheVariants.{Motion, Press, Release, Key}
use Rattle.cmd_words.specs.Language.{Language, ◌▹◌, ◌▸◌, ◌⊕◌, stands_for, word}
use Rattle.cmd_words.specs.Grammar.{command_line}
use Rattle.cmd_text.specs.FrameLine.{anything}
use Rattle.cmd_text.specs.Misread.{IsMisread}
use Rattle.script_lines.specs.declared.order.Order.{Order}
use Rattle.script_lines.specs.declared.order.Order.TheVariants.{Nothing, Connect, Bye, Ask, Misread, Feed, Ticks, Dirty, Pixel, Dump}
use Rattle.script_lines.specs.Numbers.{number_from, client_number}
use Rattle.script_lines.specs.Sayings.{Says}

-- an empty line, or a comment, which begins with `#`
abbrev pub silent : List ℕ → Type 0
silent line = (line ≡ []) ⊎ (word "#" ▹ anything) line tt

-- `tick` is one tick, and `tick <n>` n ticks, 1 to 1,000
abbrev pub ticks : Language ℕ
ticks = (word "tick" ▹ stands_for 1) ⊕ (word "tick " ▹ number_from 1 1000)

-- `<x> <y>`, a pixel, each 0 to 9,999
abbrev pub x_and_y : Language (ℕ × ℕ)
x_and_y = number_from 0 9999 ▸ λ x. word " " ▹ number_from 0 9999 ▸ λ y. stands_for (x, y)

-- `pixel <x> <y>`
abbrev pub pixel : Language (ℕ × ℕ)
pixel = word "pixel " ▹ x_and_y

-- `motion <x> <y>`: the pointer goes there; `press`, `release`: its button goes down, or up; `key <k>`, a key's byte,
-- 0 to 255
abbrev pub input_line : Language Input
input_line line (Motion x y) = (word "motion " ▹ x_and_y) line (x, y)
input_line line Press = word "press" line
input_line line Release = word "release" line
input_line line (Key byte) = (word "key " ▹ number_from 0 255) line byte

-- What a client says is a command, or it is misread; a bad frame line is neither.
unfoldable pub asks : Language Order
asks line Nothing = silent line
asks line (Connect client) = (word "connect " ▹ client_number) line client
asks line (Bye client) = (word "bye " ▹ client_number) line client
asks line (Ask client command) = (said : List ℕ) × Says line client said × command_line said command
asks line (Misread client place) = (said : List ℕ) × Says line client said × IsMisread said place
asks line (Feed input) = input_line line input
asks line (Ticks count) = ticks line count
asks line Dirty = word "dirty" line
asks line (Pixel x y) = pixel line (x, y)
asks line Dump = word "dump" line

-- any other line
abbrev pub IsOff : List ℕ → Type 0
IsOff line = (order : Order) → ¬ asks line order
