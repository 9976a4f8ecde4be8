-- What can be checked of the machine from its answers alone: a journal is a list of events, each with its answer. It is
-- legal where each reply is the desk's and each tick's numbers are possible. How many pixels are dirty isn't told between
-- two ticks, so the journal keeps the least and the most that there can be.
use Rattle.std.specs.Prelude.{◌≡◌, ℕ, ◌+◌, ◌-◌, ◌≤◌, ◌/◌, ◌%◌, min, Bool, true, false, ◌||◌, List, [], ◌∷◌, if◌then◌else◌}
use Rattle.std.specs.List.{count_by, range_with_len}
use Rattle.cmd_words.specs.declared.inputs.Drew.{Drew}
use Rattle.cmd_words.specs.declared.replies.Reply.{Reply}
use Rattle.cmd_words.specs.declared.replies.Reply.TheVariants.{Done}
use Rattle.kind_core.specs.declared.shapes.Shape.{Shape}
use Rattle.scene_model.specs.Shapes.{area}
use Rattle.desk_model.specs.Desk.{Desk, opening_desk}
use Rattle.desk_model.specs.Refusals.{is_memory}
use Rattle.desk_model.specs.Clients.{step_connect, step_hello, step_bye}
use Rattle.desk_model.specs.Commands.{step}
use Rattle.desk_model.specs.Feeding.{step_feed}
use Rattle.desk_model.specs.Beat.{beat, band_count}
use Rattle.machine_model.specs.Reach.{is_reached}
use Rattle.machine_model.specs.State.{State, dirty_count}
use Rattle.machine_model.specs.Events.{Event, Answer}
use Rattle.machine_model.specs.Events.Event.{Connect, Hello, Bye, Ask, Feed, Tick}
use Rattle.machine_model.specs.Events.Answer.{Replied, Drawn}
use Rattle.machine_model.specs.Run.{Moment}

-- an event and its answer
pub record Entry : Type 0 where
  pub event : Event
  pub answer : Answer

-- Where a journal stands: the desk that its entries lead to, and between which numbers the dirty pixels are.
pub record Point : Type 0 where
  pub desk : Desk
  pub least : ℕ
  pub most : ℕ

-- Every journal begins with the desk at opening and nothing dirty.
abbrev pub opening_point : Shape → Point
opening_point shape = record { desk = opening_desk shape; least = 0; most = 0 }

-- whether the change reaches the k-th pixel of the screen, which is the pixel (k mod width, k / width)
abbrev pub is_reached_at : Desk → Desk → ℕ → Bool
is_reached_at before after k = is_reached before after (k % before.shape.width) (k / before.shape.width)

-- the size of a reach: how many pixels of the screen it has
unfoldable pub reach_size : Desk → Desk → ℕ
reach_size before after = count_by (is_reached_at before after) (range_with_len 0 (area before.shape))

-- A change of the desk makes dirty what it reaches, of which any part can have been dirty before.
abbrev pub changed_to : Point → Desk → Point
changed_to point next = record { desk = next; least = point.least; most = point.most + reach_size point.desk next }

-- what the desk does at an event that isn't a tick, under want of memory or not
abbrev pub desk_step : Desk → Event → Bool → Reply × Desk
desk_step desk (Connect client) short = step_connect desk client short
desk_step desk Hello short = step_hello desk short
desk_step desk (Bye client) short = step_bye desk client
desk_step desk (Ask client command payload) short = step desk client command payload short
desk_step desk (Feed input) short = (Done, step_feed desk input)
desk_step desk _ short = (Done, desk)

-- whether an event is one that the desk replies to, a tick apart
abbrev pub is_call : Event → Bool
is_call (Connect client) = true
is_call Hello = true
is_call (Bye client) = true
is_call (Ask client command payload) = true
is_call (Feed input) = true
is_call _ = false

abbrev pub is_tick : Event → Bool
is_tick Tick = true
is_tick _ = false

-- Only calls and ticks stand in a journal: what asks for the screen leaves all as it is.
abbrev pub is_kept : Event → Bool
is_kept event = is_call event || is_tick event

-- the journal of a run: its calls and ticks with their answers
abbrev pub journal_of : List Moment → List Entry
journal_of [] = []
journal_of (moment ∷ moments) =
    if is_kept moment.event then record { event = moment.event; answer = moment.answer } ∷ journal_of moments else journal_of moments

-- A tick first beats the desk. Its bands are those of the beat; it cleans as much as the budget has left beside them, or
-- all; and what was dirty before it is as much as there can be.
pub record IsLegalTick (point : Point) (drew : Drew) : Type 0 where
  pub bands : drew.bands ≡ band_count (beat point.desk)
  pub queue : drew.queue ≡ min (drew.queue + drew.left) (point.desk.shape.budget - drew.bands)
  pub least : point.least ≤ drew.queue + drew.left
  pub most : drew.queue + drew.left ≤ point.most

-- The answer to an event at this point is a legal one: the desk's reply, under want of memory exactly where it says so, or
-- the numbers of a possible tick.
abbrev pub IsLegalAnswer : Point → Event → Answer → Type 0
IsLegalAnswer point event (Replied reply) = (is_call event ≡ true) × (reply ≡ (desk_step point.desk event (is_memory reply)).0)
IsLegalAnswer point event (Drawn drew) = (is_tick event ≡ true) × IsLegalTick point drew
IsLegalAnswer point event _ = ⊥

-- the point after an event that was answered so
abbrev pub answered : Point → Event → Answer → Point
answered point event (Replied reply) = changed_to point (desk_step point.desk event (is_memory reply)).1
answered point event (Drawn drew) = record { desk = beat point.desk; least = drew.left; most = drew.left }
answered point event _ = point

-- the point after the entries, from this one on; its desk is their replay
abbrev pub replay : Point → List Entry → Point
replay point [] = point
replay point (entry ∷ entries) = replay (answered point entry.event entry.answer) entries

-- The entries are legal from this point on: each answer is, at its place.
abbrev pub IsLegalFrom : Point → List Entry → Type 0
IsLegalFrom point [] = Unit {0}
IsLegalFrom point (entry ∷ entries) = IsLegalAnswer point entry.event entry.answer × IsLegalFrom (answered point entry.event entry.answer) entries

-- A legal journal: its entries are legal from the desk at opening on.
abbrev pub IsLegal : Shape → List Entry → Type 0
IsLegal shape entries = IsLegalFrom (opening_point shape) entries

-- The machine's state is one that the journal allows: its desk is the replay, and its dirty pixels are as many as there
-- can be.
pub record Allows (point : Point) (state : State) : Type 0 where
  pub desk : state.desk ≡ point.desk
  pub least : point.least ≤ dirty_count state
  pub most : dirty_count state ≤ point.most
