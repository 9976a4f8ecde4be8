-- The entries of the hall's journal, and what they are to the machine.
use Rattle.std.specs.Prelude.{◌≡◌, ℕ, ◌≤◌, List, map, length}
use Rattle.cmd_words.specs.declared.inputs.Drew.{Drew}
use Rattle.desk_model.specs.Commands.{IsPayload}
use Rattle.machine_model.specs.Events as machine
use Rattle.journal_model.specs.Journals as journals
use Rattle.hall_core.specs.declared.entry.Entry.{Entry}
use Rattle.hall_core.specs.declared.entry.Event.{Event}
use Rattle.hall_core.specs.declared.entry.Event.TheVariants.{Hello, Ask, Bye, Feed, Tick}
use Rattle.hall_core.specs.declared.entry.Answer.{Answer}
use Rattle.hall_core.specs.declared.entry.Answer.TheVariants.{Reply, Drew as DrewSo}

-- the machine's event
abbrev pub event_of : Event → machine.Event
event_of Hello = machine.Event.Hello
event_of (Ask client command payload) = machine.Event.Ask client command payload
event_of (Bye client) = machine.Event.Bye client
event_of (Feed input) = machine.Event.Feed input
event_of Tick = machine.Event.Tick

abbrev pub answer_of : Answer → machine.Answer
answer_of (Reply reply) = machine.Answer.Replied reply
answer_of (DrewSo drew) = machine.Answer.Drawn drew

abbrev pub entry_of : Entry → journals.Entry
entry_of entry = record { event = event_of entry.event; answer = answer_of entry.answer }

-- the journal as the definitions of journals read it: without the seats
abbrev pub entries_of : List Entry → List journals.Entry
entries_of journal = map entry_of journal

abbrev pub IsClientNumber : ℕ → Type 0
IsClientNumber client = (1 ≤ client) × (client ≤ 16)

-- An event may be asked for where its client is 1 to 16 and the bytes may come with the command.
abbrev pub IsAsked : Event → Type 0
IsAsked (Ask client command payload) = IsClientNumber client × IsPayload command payload
IsAsked (Bye client) = IsClientNumber client
IsAsked _ = Unit {0}

-- how many bytes come with the event
abbrev pub payload_of : Event → ℕ
payload_of (Ask client command payload) = length payload
payload_of _ = 0
