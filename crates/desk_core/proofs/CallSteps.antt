-- Each call of the desk gives the step of its event, with that step's ending.
use Rattle.std.proofs.Common.{◌≡◌, ℕ, Bool, true, false, List, Some, None, refl, sym, ap, ap₂, ◌∙◌, subst}
use Rattle.std.specs.Prelude.{pos, IfSome}
use Rattle.cmd_words.specs.declared.commands.Command.{Command}
use Rattle.cmd_words.specs.declared.replies.Reply.{Reply}
use Rattle.cmd_words.specs.declared.replies.Reply.TheVariants.{Done, Number, Refused}
use Rattle.cmd_words.specs.declared.replies.Refusal.{Refusal}
use Rattle.cmd_words.specs.declared.replies.Refusal.TheVariants.{Memory, Full, NotConnected, Connected}
use Rattle.cmd_words.specs.declared.commands.Command.TheVariants.{Poll}
use Rattle.bind_core.specs.Polling.{poll_answer, after_poll}
use Rattle.desk_commands.specs.Effects.{is_poll}
use Rattle.desk_model.specs.Polling.{ring_of, with_ring, poll_reply, step_poll}
use Rattle.desk_model.specs.Desk.{Desk, Ring, is_connected}
use Rattle.desk_model.specs.DeskFacts.{IsDesk}
use Rattle.desk_model.specs.LetGo.{let_go, event_end}
use Rattle.desk_model.specs.OwnPart.{LeavesOthers}
use Rattle.desk_model.proofs.OwnPart.{commands_leave_others, connects_leave_others, hellos_leave_others, byes_leave_others}
use Rattle.desk_model.specs.Clients.{step_connect, step_hello, step_bye, with_client, without_client, free_client}
use Rattle.desk_model.specs.Commands.{row_of, step}

-- a client comes: nothing is let go that wasn't
held-with_client : (client : ℕ) (desk : Desk) → let_go desk ≡ desk → let_go (with_client client desk) ≡ with_client client desk
unfolding let_go
held-with_client client desk held = ap (with_client client) held

-- a refused event
refused-end : (desk : Desk) (refusal : Refusal) → let_go desk ≡ desk → event_end (Refused refusal, desk) ≡ (Refused refusal, desk)
refused-end desk refusal held = ap (λ (d : Desk). (Refused refusal, d)) held

pub connect-connected : (desk : Desk) (client : ℕ) (short : Bool) → let_go desk ≡ desk → is_connected desk client ≡ true → (Refused Connected, desk) ≡ step_connect desk client short
unfolding step_connect
connect-connected desk client short held there = rw there (sym (refused-end desk Connected held))

pub connect-joined : (desk : Desk) (client : ℕ) → let_go desk ≡ desk → is_connected desk client ≡ false → (Done, with_client client desk) ≡ step_connect desk client false
unfolding step_connect
connect-joined desk client held new = rw new (ap (λ (d : Desk). (Done, d)) (sym (held-with_client client desk held)))

pub connect-short : (desk : Desk) (client : ℕ) → let_go desk ≡ desk → is_connected desk client ≡ false → (Refused Memory, desk) ≡ step_connect desk client true
unfolding step_connect
connect-short desk client held new = rw new (sym (refused-end desk Memory held))

pub connect-others : (old new : Desk) (client : ℕ) (short : Bool) (reply : Reply) → IsDesk old → (reply, new) ≡ step_connect old client short → LeavesOthers client old new
connect-others old new client short reply kept is =
    subst (λ (d : Desk). LeavesOthers client old d) (sym (ap (λ (done : Reply × Desk). done.1) is)) (connects_leave_others old client short kept)

pub hello-full : (desk : Desk) (short : Bool) → let_go desk ≡ desk → free_client desk.clients ≡ None → (Refused (Full 16), desk) ≡ step_hello desk short
unfolding step_hello
hello-full desk short held full = rw full (sym (refused-end desk (Full 16) held))

pub hello-joined : (desk : Desk) (client : ℕ) → let_go desk ≡ desk → free_client desk.clients ≡ Some client → (Number (pos client), with_client client desk) ≡ step_hello desk false
unfolding step_hello
hello-joined desk client held free = rw free (ap (λ (d : Desk). (Number (pos client), d)) (sym (held-with_client client desk held)))

pub hello-short : (desk : Desk) (client : ℕ) → let_go desk ≡ desk → free_client desk.clients ≡ Some client → (Refused Memory, desk) ≡ step_hello desk true
unfolding step_hello
hello-short desk client held free = rw free (sym (refused-end desk Memory held))

pub hello-others : (old new : Desk) (short : Bool) (reply : Reply) → IsDesk old → (reply, new) ≡ step_hello old short → IfSome (free_client old.clients) (λ client. LeavesOthers client old new)
hello-others old new short reply kept is =
    let P : Desk → Type 0 = λ d. IfSome (free_client old.clients) (λ client. LeavesOthers client old d) in
    subst P (sym (ap (λ (done : Reply × Desk). done.1) is)) (hellos_leave_others old short kept)

pub bye-absent : (desk : Desk) (client : ℕ) → let_go desk ≡ desk → is_connected desk client ≡ false → (Refused NotConnected, desk) ≡ step_bye desk client
unfolding step_bye
bye-absent desk client held gone = rw gone (sym (refused-end desk NotConnected held))

pub bye-others : (old new : Desk) (client : ℕ) (reply : Reply) → IsDesk old → (reply, new) ≡ step_bye old client → LeavesOthers client old new
bye-others old new client reply kept is = subst (λ (d : Desk). LeavesOthers client old d) (sym (ap (λ (done : Reply × Desk). done.1) is)) (byes_leave_others old client kept)

pub bye-gone : (desk : Desk) (client : ℕ) → is_connected desk client ≡ true → (Done, let_go (without_client client desk)) ≡ step_bye desk client
unfolding step_bye
bye-gone desk client there = rw there refl

pub step-absent : (desk : Desk) (client : ℕ) (command : Command) (payload : List ℕ) (short : Bool) → let_go desk ≡ desk → is_connected desk client ≡ false → (Refused NotConnected, desk) ≡ step desk client command payload short
unfolding step
step-absent desk client command payload short held gone = rw gone (sym (refused-end desk NotConnected held))

pub step-others : (old new : Desk) (client : ℕ) (command : Command) (payload : List ℕ) (short : Bool) (reply : Reply) → IsDesk old → (reply, new) ≡ step old client command payload short → LeavesOthers client old new
step-others old new client command payload short reply kept is =
    subst (λ (d : Desk). LeavesOthers client old d) (sym (ap (λ (done : Reply × Desk). done.1) is)) (commands_leave_others old client command payload short kept)

-- what the row did, and then the pointer let go
pub step-obeyed : (desk : Desk) (client : ℕ) (command : Command) (payload : List ℕ) (short : Bool) (reply : Reply) (mid next : Desk) → is_connected desk client ≡ true → (reply, mid) ≡ row_of command payload desk client short → next ≡ let_go mid → (reply, next) ≡ step desk client command payload short
unfolding step
step-obeyed desk client command payload short reply mid next there did end = rw there (ap (λ (d : Desk). (reply, d)) end ∙ ap event_end did)

-- the pointer's hold has nothing to do with the rings
held-with_rings : (rings : List Ring) (desk : Desk) → let_go desk ≡ desk → let_go (record desk { rings = rings }) ≡ record desk { rings = rings }
unfolding let_go
held-with_rings rings desk held = ap (λ (d : Desk). record d { rings = rings }) held

poll-row : (command : Command) (payload : List ℕ) (desk : Desk) (client : ℕ) (short : Bool) → is_poll command ≡ true → (poll_reply (poll_answer (ring_of desk.rings client)), record desk { rings = with_ring client after_poll desk.rings }) ≡ row_of command payload desk client short
unfolding step_poll
poll-row Poll payload desk client short asks = refl
poll-row _ payload desk client short asks = absurd (cc)

-- `poll`, and what it leaves of the rings
pub polled-step : (old new : Desk) (client : ℕ) (command : Command) (payload : List ℕ) (short : Bool) (reply : Reply) → let_go old ≡ old → is_connected old client ≡ true → is_poll command ≡ true → reply ≡ poll_reply (poll_answer (ring_of old.rings client)) → new ≡ record old { rings = with_ring client after_poll old.rings } → (reply, new) ≡ step old client command payload short
polled-step old new client command payload short reply held there asks told same =
    let polled : Desk = record old { rings = with_ring client after_poll old.rings } in
    ap₂ (λ (r : Reply) (d : Desk). (r, d)) told same
    ∙ step-obeyed old client command payload short (poll_reply (poll_answer (ring_of old.rings client))) polled polled there (poll-row command payload old client short asks) (sym (held-with_rings polled.rings old held))
