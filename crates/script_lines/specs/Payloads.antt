-- How many raw bytes follow a line of a script.
use Rattle.std.specs.Prelude.{ℕ}
use Rattle.desk_model.specs.Commands.{payload_size}
use Rattle.script_lines.specs.declared.order.Order.{Order}
use Rattle.script_lines.specs.declared.order.Order.TheVariants.{Ask}

-- Behind a client's command follow the bytes that come with it, behind any other line none.
abbrev pub payload_of : Order → ℕ
payload_of (Ask client command) = payload_size command
payload_of _ = 0
