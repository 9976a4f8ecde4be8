-- One step of the machine: an event takes a state to another, with an answer. Clients are 1 to 16. What is free is
-- which dirty pixels a tick cleans: those that are dirty before it and clean after.
use Rattle.std.specs.Prelude.{◌≡◌, ℕ, ◌+◌, ◌-◌, min, Bool, true, not, ◌&&◌, ◌||◌, if◌then◌else◌, length}
use Rattle.cmd_words.specs.declared.inputs.Drew.{Drew}
use Rattle.cmd_words.specs.declared.replies.Reply.{Reply}
use Rattle.cmd_words.specs.declared.replies.Reply.TheVariants.{Refused, Done}
use Rattle.cmd_words.specs.declared.replies.Refusal.TheVariants.{Syntax}
use Rattle.widget_model.specs.Clients.{is_client}
use Rattle.desk_model.specs.Desk.{Desk}
use Rattle.desk_model.specs.Seen.{colour}
use Rattle.machine_model.specs.Reach.{is_reached}
use Rattle.desk_model.specs.Refusals.{is_memory}
use Rattle.desk_model.specs.Clients.{step_connect, step_hello, step_bye}
use Rattle.desk_model.specs.Commands.{step}
use Rattle.desk_model.specs.Feeding.{step_feed}
use Rattle.desk_model.specs.Beat.{beat, in_band, band_count}
use Rattle.machine_model.specs.State.{State, byte_at, is_dirty, dirty_count, seen_at, EachPixel}
use Rattle.machine_model.specs.Events.{Event, Answer}
use Rattle.machine_model.specs.Events.Event.{Connect, Hello, Bye, Ask, Feed, Misread, Tick, CountDirty, LookAt, Dump}
use Rattle.machine_model.specs.Events.Answer.{Replied, Drawn, Counted, Seen, Dumped}

-- An event that isn't a tick takes the desk to another. The screen stays, and a pixel is dirty after it
-- exactly where it was dirty or the change reaches it.
pub record Changed (old : State) (next : Desk) (new : State) : Type 0 where
  pub desk : new.desk ≡ next
  pub screen : new.screen ≡ old.screen
  pub size : length new.dirt ≡ length old.dirt
  pub dirt : EachPixel next.shape (λ x y. is_dirty new x y ≡ (is_dirty old x y || is_reached old.desk next x y))

-- The desk's step, under want of memory or not, gave this reply and the desk of the new state.
pub record Answered (old : State) (stepped : Bool → Reply × Desk) (reply : Reply) (new : State) : Type 0 where
  pub reply_is : reply ≡ (stepped (is_memory reply)).0
  pub change : Changed old (stepped (is_memory reply)).1 new

-- the tick cleaned the pixel
abbrev pub was_cleaned : State → State → ℕ → ℕ → Bool
was_cleaned old new x y = is_dirty old x y && not (is_dirty new x y)

-- A tick takes the desk to its beat, and writes the pixels of the bands and those that it cleans with their
-- colours, and no other. It cleans as many dirty pixels as the budget has left beside the bands, or all.
pub record Ticked (old : State) (drew : Drew) (new : State) : Type 0 where
  pub desk : new.desk ≡ beat old.desk
  pub screen_size : length new.screen ≡ length old.screen
  pub dirt_size : length new.dirt ≡ length old.dirt
  pub screen : EachPixel old.desk.shape (λ x y. byte_at new x y ≡ (if was_cleaned old new x y || in_band new.desk x y then colour new.desk x y else byte_at old x y))
  pub dirt : EachPixel old.desk.shape (λ x y. is_dirty new x y ≡ true → is_dirty old x y ≡ true)
  pub bands : drew.bands ≡ band_count new.desk
  pub queue : drew.queue ≡ min (dirty_count old) (old.desk.shape.budget - drew.bands)
  pub left : drew.left ≡ dirty_count new
  pub cleaned : dirty_count new + drew.queue ≡ dirty_count old

-- From `old` the machine may answer so to the event and go on to `new`.
abbrev pub Step : State → Event → Answer → State → Type 0
Step old (Connect client) (Replied reply) new = (is_client client ≡ true) × Answered old (λ short. step_connect old.desk client short) reply new
Step old Hello (Replied reply) new = Answered old (λ short. step_hello old.desk short) reply new
Step old (Bye client) (Replied reply) new = Answered old (λ short. step_bye old.desk client) reply new
Step old (Ask client command payload) (Replied reply) new = Answered old (λ short. step old.desk client command payload short) reply new
Step old (Misread client place) (Replied reply) new = (new ≡ old) × (reply ≡ Refused (Syntax place))
Step old (Feed input) (Replied reply) new = (reply ≡ Done) × Changed old (step_feed old.desk input) new
Step old Tick (Drawn drew) new = Ticked old drew new
Step old CountDirty (Counted n) new = (new ≡ old) × (n ≡ dirty_count old)
Step old (LookAt x y) (Seen byte) new = (new ≡ old) × (byte ≡ seen_at old x y)
Step old Dump (Dumped bytes) new = (new ≡ old) × (bytes ≡ old.screen)
Step old _ _ new = ⊥

-- whether an event can come
abbrev pub CanCome : Event → Type 0
CanCome (Connect client) = is_client client ≡ true
CanCome _ = Unit {0}
