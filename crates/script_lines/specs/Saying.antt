-- Inner words of the proofs: what a client asks for by what it says.
use Rattle.std.specs.Prelude.{◌≡◌, ◌⊎◌, ℕ, List}
use Rattle.cmd_words.specs.declared.commands.Command.{Command}
use Rattle.cmd_words.specs.Grammar.{command_line}
use Rattle.cmd_text.specs.Misread.{IsMisread}
use Rattle.script_lines.specs.declared.order.Order.{Order}
use Rattle.script_lines.specs.declared.order.Order.TheVariants.{Ask, Misread}
use Rattle.script_lines.specs.Sayings.{IsSayable}

-- an order that only a client's words give
abbrev pub IsSaying : Order → Type 0
IsSaying (Ask client command) = Unit {0}
IsSaying (Misread client place) = Unit {0}
IsSaying _ = ⊥

-- what this client asks for by saying this: its command, or it is misread
abbrev pub saying : ℕ → List ℕ → Order → Type 0
saying client said order =
    ((command : Command) × (order ≡ Ask client command) × IsSayable said × command_line said command)
    ⊎ ((place : ℕ) × (order ≡ Misread client place) × IsSayable said × IsMisread said place)
