-- What a line of a script asks the machine for.
use Rattle.std.specs.Prelude.{ℕ, List, [], ◌∷◌, replicate}
use Rattle.machine_model.specs.Events.{Event}
use Rattle.script_lines.specs.declared.order.Order.{Order}
use Rattle.script_lines.specs.declared.order.Order.TheVariants.{Nothing, Connect, Bye, Ask, Misread, Feed, Ticks, Dirty, Pixel, Dump}

-- the events of what a line asks for, with the raw bytes that follow the line
abbrev pub events_of_order : Order → List ℕ → List Event
events_of_order Nothing payload = []
events_of_order (Connect client) payload = Event.Connect client ∷ []
events_of_order (Bye client) payload = Event.Bye client ∷ []
events_of_order (Ask client command) payload = Event.Ask client command payload ∷ []
events_of_order (Misread client place) payload = Event.Misread client place ∷ []
events_of_order (Feed input) payload = Event.Feed input ∷ []
events_of_order (Ticks count) payload = replicate count Event.Tick
events_of_order Dirty payload = Event.CountDirty ∷ []
events_of_order (Pixel x y) payload = Event.LookAt x y ∷ []
events_of_order Dump payload = Event.Dump ∷ []
