-- A step from a valid state leads to a valid state and keeps the shape, whatever the event and the answer.
use Rattle.std.proofs.Common.{◌≡◌, ◌≢◌, ℕ, ◌<◌, Bool, true, false, not, ◌&&◌, ◌||◌, cond, List, [], ◌∷◌, length, Option, Some, None, is_none, refl, sym, ap, ◌∙◌, subst, arith}
use Rattle.std.proofs.lemmas.Bool.{or_parts, true≢false}
use Rattle.cmd_words.specs.declared.inputs.Drew.{Drew}
use Rattle.cmd_words.specs.declared.commands.Command.{Command}
use Rattle.cmd_words.specs.declared.inputs.Input.{Input}
use Rattle.cmd_words.specs.declared.replies.Reply.{Reply}
use Rattle.cmd_words.specs.declared.replies.Refusal.{Refusal}
use Rattle.cmd_words.specs.declared.replies.Refusal.TheVariants.{Full, Memory}
use Rattle.kind_core.specs.declared.shapes.Shape.{Shape}
use Rattle.scene_model.specs.Shapes.{area}
use Rattle.desk_model.specs.Desk.{Desk}
use Rattle.desk_model.specs.DeskFacts.{IsDesk}
use Rattle.desk_model.specs.Seen.{colour}
use Rattle.machine_model.specs.Reach.{is_reached}
use Rattle.desk_model.specs.Refusals.{is_memory, when, first_refusal, outcome}
use Rattle.desk_model.specs.Clients.{step_connect, step_hello, step_bye, free_client, hello_effect}
use Rattle.desk_model.specs.Commands.{step}
use Rattle.desk_model.specs.Feeding.{carried_out, effects_on, step_feed}
use Rattle.desk_model.specs.Beat.{in_band}
use Rattle.machine_model.specs.State.{State, IsState, byte_at, is_dirty}
use Rattle.machine_model.specs.Events.{Event, Answer}
use Rattle.machine_model.specs.Events.Event.{Connect, Hello, Bye, Ask, Feed, Misread, Tick, CountDirty, LookAt, Dump}
use Rattle.machine_model.specs.Events.Answer.{Replied, Drawn, Counted, Seen, Dumped}
use Rattle.machine_model.specs.Step.{Step, Changed, Answered, Ticked}
use Rattle.machine_model.proofs.Reach.{colour-outside_reach}
use Rattle.desk_model.proofs.Desks.{IsDesk-connect, IsDesk-hello, IsDesk-bye, IsDesk-command}
use Rattle.desk_model.proofs.KeptInputs.{inputs_keep}
use Rattle.desk_model.proofs.OwnPart.{command_ends, connect_ends, bye_ends, shape-let_go, shape-ends}
use Rattle.machine_model.proofs.Beat.{shape-beat, IsDesk-beat, colour-beat}

pub IsState-same : (old new : State) → new ≡ old → IsState old → IsState new
IsState-same old new e is = subst IsState (sym e) is

-- a change to any valid desk of the same shape
pub IsState-changed : (old : State) (next : Desk) (new : State) → IsState old → IsDesk next → next.shape ≡ old.desk.shape → Changed old next new → IsState new
IsState-changed old next new is fine same ch =
    let shape : new.desk.shape ≡ old.desk.shape = ap (λ (d : Desk). d.shape) ch.desk ∙ same in
    let width : new.desk.shape.width ≡ old.desk.shape.width = ap (λ (s : Shape). s.width) shape in
    let width_next : new.desk.shape.width ≡ next.shape.width = ap (λ (d : Desk). d.shape.width) ch.desk in
    let height : new.desk.shape.height ≡ old.desk.shape.height = ap (λ (s : Shape). s.height) shape in
    let height_next : new.desk.shape.height ≡ next.shape.height = ap (λ (d : Desk). d.shape.height) ch.desk in
    record {
      desk = subst IsDesk (sym ch.desk) fine;
      screen = ap length ch.screen ∙ is.screen ∙ sym (ap area shape);
      dirt = ch.size ∙ is.dirt ∙ sym (ap area shape);
      current = λ x y hx hy clean.
          let parts = or_parts (is_dirty old x y) (is_reached old.desk next x y) (sym (ch.dirt x y (omega arith) (omega arith)) ∙ clean) in
          let byte : byte_at new x y ≡ byte_at old x y = cc in
          byte ∙ is.current x y (omega arith) (omega arith) parts.0 ∙ colour-outside_reach old.desk next is.desk fine (sym same) x y parts.1 ∙ sym (ap (λ (d : Desk). colour d x y) ch.desk);
    }

-- the byte of a pixel that is clean after a tick
drawn_byte : (was is band : Bool) (now drawn before : ℕ) → is ≡ false → now ≡ cond ((was && not is) || band) drawn before → (was ≡ false → band ≡ false → before ≡ drawn) → now ≡ drawn
drawn_byte was true band now drawn before clean e kept = absurd (true≢false clean)
drawn_byte true false band now drawn before clean e kept = e
drawn_byte false false true now drawn before clean e kept = e
drawn_byte false false false now drawn before clean e kept = e ∙ kept refl refl

pub IsState-ticked : (old : State) (drew : Drew) (new : State) → IsState old → Ticked old drew new → IsState new
IsState-ticked old drew new is t =
    let shape : new.desk.shape ≡ old.desk.shape = ap (λ (d : Desk). d.shape) t.desk ∙ shape-beat old.desk in
    let width : new.desk.shape.width ≡ old.desk.shape.width = ap (λ (s : Shape). s.width) shape in
    let height : new.desk.shape.height ≡ old.desk.shape.height = ap (λ (s : Shape). s.height) shape in
    record {
      desk = subst IsDesk (sym t.desk) (IsDesk-beat old.desk is.desk);
      screen = t.screen_size ∙ is.screen ∙ sym (ap area shape);
      dirt = t.dirt_size ∙ is.dirt ∙ sym (ap area shape);
      current = λ x y hx hy clean.
          let hx_old : x < old.desk.shape.width = omega arith in
          let hy_old : y < old.desk.shape.height = omega arith in
          drawn_byte (is_dirty old x y) (is_dirty new x y) (in_band new.desk x y) (byte_at new x y) (colour new.desk x y) (byte_at old x y) clean (t.screen x y hx_old hy_old)
          (λ was_clean no_band. is.current x y hx_old hy_old was_clean ∙ colour-beat old.desk is.desk x y (sym (ap (λ (d : Desk). in_band d x y) t.desk) ∙ no_band) ∙ sym (ap (λ (d : Desk). colour d x y) t.desk));
    }

-- a reply and a step to a valid desk of the same shape
IsState-answered : (old : State) (stepped : Bool → Reply × Desk) (reply : Reply) (new : State) → ((short : Bool) → IsDesk (stepped short).1) → ((short : Bool) → (stepped short).1.shape ≡ old.desk.shape) → IsState old → Answered old stepped reply new → IsState new
IsState-answered old stepped reply new fine same is s =
    IsState-changed old (stepped (is_memory reply)).1 new is (fine (is_memory reply)) (same (is_memory reply)) s.change

shape-answered : (old : State) (stepped : Bool → Reply × Desk) (reply : Reply) (new : State) → ((short : Bool) → (stepped short).1.shape ≡ old.desk.shape) → Answered old stepped reply new → new.desk.shape ≡ old.desk.shape
shape-answered old stepped reply new same s = ap (λ (d : Desk). d.shape) s.change.desk ∙ same (is_memory reply)

pub shape-step_connect : (desk : Desk) (client : ℕ) (short : Bool) → (step_connect desk client short).1.shape ≡ desk.shape
shape-step_connect desk client short = shape-ends client desk _ (connect_ends desk client short)

shape-outcome : (desk : Desk) (refusal : Option Refusal) (effect : Reply × Desk) → effect.1.shape ≡ desk.shape → (outcome desk refusal effect).1.shape ≡ desk.shape
shape-outcome desk None effect same = same
shape-outcome desk (Some refusal) effect same = refl

pub shape-step_hello : (desk : Desk) (short : Bool) → (step_hello desk short).1.shape ≡ desk.shape
unfolding step_hello
shape-step_hello desk short =
    shape-let_go _ ∙ shape-outcome desk (first_refusal (when (is_none (free_client desk.clients)) (Full 16) ∷ when short Memory ∷ [])) (hello_effect desk (free_client desk.clients)) (by (free_client desk.clients))
  where
    by : (free : Option ℕ) → (hello_effect desk free).1.shape ≡ desk.shape
    by None = refl
    by (Some client) = refl

pub shape-step_bye : (desk : Desk) (client : ℕ) → (step_bye desk client).1.shape ≡ desk.shape
shape-step_bye desk client = shape-ends client desk _ (bye_ends desk client)

pub shape-step_command : (desk : Desk) (client : ℕ) (command : Command) (payload : List ℕ) (short : Bool) → (step desk client command payload short).1.shape ≡ desk.shape
shape-step_command desk client command payload short = shape-ends client desk _ (command_ends desk client command payload short)

pub shape-step_feed : (desk : Desk) (input : Input) → (step_feed desk input).shape ≡ desk.shape
unfolding step_feed carried_out
shape-step_feed desk input = shape-let_go (carried_out (effects_on desk input) desk)

-- what holds of a state holds after each step
pub IsState-step : (old : State) (event : Event) (answer : Answer) (new : State) → IsState old → Step old event answer new → IsState new
IsState-step old (Connect client) (Replied reply) new is s =
    IsState-answered old (λ short. step_connect old.desk client short) reply new (λ short. IsDesk-connect old.desk client short s.0 is.desk) (shape-step_connect old.desk client) is s.1
IsState-step old Hello (Replied reply) new is s =
    IsState-answered old (λ short. step_hello old.desk short) reply new (λ short. IsDesk-hello old.desk short is.desk) (shape-step_hello old.desk) is s
IsState-step old (Bye client) (Replied reply) new is s =
    IsState-answered old (λ short. step_bye old.desk client) reply new (λ short. IsDesk-bye old.desk client is.desk) (λ short. shape-step_bye old.desk client) is s
IsState-step old (Ask client command payload) (Replied reply) new is s =
    IsState-answered old (λ short. step old.desk client command payload short) reply new (λ short. IsDesk-command old.desk client command payload short is.desk) (shape-step_command old.desk client command payload) is s
IsState-step old (Feed input) (Replied reply) new is s =
    IsState-changed old (step_feed old.desk input) new is (inputs_keep old.desk input is.desk) (shape-step_feed old.desk input) s.1
IsState-step old (Misread client place) (Replied reply) new is s = IsState-same old new s.0 is
IsState-step old Tick (Drawn drew) new is s = IsState-ticked old drew new is s
IsState-step old CountDirty (Counted n) new is s = IsState-same old new s.0 is
IsState-step old (LookAt x y) (Seen byte) new is s = IsState-same old new s.0 is
IsState-step old Dump (Dumped bytes) new is s = IsState-same old new s.0 is
IsState-step old _ _ new is s = elim s [ ]

pub shape-step : (old : State) (event : Event) (answer : Answer) (new : State) → Step old event answer new → new.desk.shape ≡ old.desk.shape
shape-step old (Connect client) (Replied reply) new s =
    shape-answered old (λ short. step_connect old.desk client short) reply new (shape-step_connect old.desk client) s.1
shape-step old Hello (Replied reply) new s = shape-answered old (λ short. step_hello old.desk short) reply new (shape-step_hello old.desk) s
shape-step old (Bye client) (Replied reply) new s =
    shape-answered old (λ short. step_bye old.desk client) reply new (λ short. shape-step_bye old.desk client) s
shape-step old (Ask client command payload) (Replied reply) new s =
    shape-answered old (λ short. step old.desk client command payload short) reply new (shape-step_command old.desk client command payload) s
shape-step old (Feed input) (Replied reply) new s = ap (λ (d : Desk). d.shape) s.1.desk ∙ shape-step_feed old.desk input
shape-step old (Misread client place) (Replied reply) new s = ap (λ (q : State). q.desk.shape) s.0
shape-step old Tick (Drawn drew) new s = ap (λ (d : Desk). d.shape) s.desk ∙ shape-beat old.desk
shape-step old CountDirty (Counted n) new s = ap (λ (q : State). q.desk.shape) s.0
shape-step old (LookAt x y) (Seen byte) new s = ap (λ (q : State). q.desk.shape) s.0
shape-step old Dump (Dumped bytes) new s = ap (λ (q : State). q.desk.shape) s.0
shape-step old _ _ new s = elim s [ ]

-- an event that isn't a tick leaves the screen
pub screen-step : (old : State) (event : Event) (answer : Answer) (new : State) → Step old event answer new → event ≢ Tick → new.screen ≡ old.screen
screen-step old (Connect client) (Replied reply) new s other = s.1.change.screen
screen-step old Hello (Replied reply) new s other = s.change.screen
screen-step old (Bye client) (Replied reply) new s other = s.change.screen
screen-step old (Ask client command payload) (Replied reply) new s other = s.change.screen
screen-step old (Feed input) (Replied reply) new s other = s.1.screen
screen-step old (Misread client place) (Replied reply) new s other = ap (λ (q : State). q.screen) s.0
screen-step old Tick answer new s other = absurd (other refl)
screen-step old CountDirty (Counted n) new s other = ap (λ (q : State). q.screen) s.0
screen-step old (LookAt x y) (Seen byte) new s other = ap (λ (q : State). q.screen) s.0
screen-step old Dump (Dumped bytes) new s other = ap (λ (q : State). q.screen) s.0
screen-step old _ _ new s other = elim s [ ]
