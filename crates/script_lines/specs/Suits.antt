-- What is known of an order that a line asks for.
use Rattle.std.specs.Prelude.{◌≤◌}
use Rattle.desk_model.specs.Commands.{payload_size}
use Rattle.script_lines.specs.declared.order.Order.{Order}
use Rattle.script_lines.specs.declared.order.Order.TheVariants.{Connect, Bye, Ask, Misread, Ticks}
use Rattle.script_lines.specs.Numbers.{IsClient}
use Rattle.script_lines.specs.Sayings.{frame_limit}

-- The client is one that there may be, the ticks are 1 to 1,000, and the bytes that come with a command at most 65,536.
abbrev pub Suits : Order → Type 0
Suits (Connect client) = IsClient client
Suits (Bye client) = IsClient client
Suits (Ask client command) = IsClient client × (payload_size command ≤ frame_limit)
Suits (Misread client place) = IsClient client
Suits (Ticks count) = (1 ≤ count) × (count ≤ 1000)
Suits _ = Unit {0}
