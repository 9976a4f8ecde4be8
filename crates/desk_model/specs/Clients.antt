-- How clients come and go.
use Rattle.std.specs.Prelude.{ℕ, zero, suc, ◌+◌, pos, Bool, not, nat_eq, is_none, List, [], ◌∷◌, ◌++◌, Option, Some, None, if◌then◌else◌}
use Rattle.std.specs.List.{filter}
use Rattle.cmd_words.specs.declared.replies.Reply.{Reply}
use Rattle.cmd_words.specs.declared.replies.Reply.TheVariants.{Done, Number, NoEvent}
use Rattle.cmd_words.specs.declared.replies.Refusal.TheVariants.{Memory, Full, NotConnected, Connected}
use Rattle.bind_core.specs.Ring.{new_ring}
use Rattle.widget_model.specs.Named.{rows_of_others}
use Rattle.widget_model.specs.Clients.{is_joined}
use Rattle.desk_model.specs.Desk.{Desk, is_connected}
use Rattle.desk_model.specs.Refusals.{when, first_refusal, outcome}
use Rattle.desk_model.specs.LetGo.{event_end}

-- the desk with one more client, of which no event is kept
abbrev pub with_client : ℕ → Desk → Desk
with_client client desk =
    record desk {
      clients = desk.clients ++ client ∷ [];
      rings = desk.rings ++ record { client = client; events = new_ring } ∷ [];
    }

-- `connect`. `short`: there is no memory for it.
unfoldable pub step_connect : Desk → ℕ → Bool → Reply × Desk
step_connect desk client short =
    event_end (outcome desk (first_refusal (when (is_connected desk client) Connected ∷ when short Memory ∷ [])) (Done, with_client client desk))

-- the least of the `many` numbers from `from` on that isn't connected
abbrev pub free_from : ℕ → ℕ → List ℕ → Option ℕ
free_from zero from clients = None
free_from (suc many) from clients = if is_joined clients from then free_from many (from + 1) clients else Some from

-- the least number of a client, 1 to 16, that isn't connected
unfoldable pub free_client : List ℕ → Option ℕ
free_client clients = free_from 16 1 clients

-- `hello` connects the least free number and answers it.
abbrev pub hello_effect : Desk → Option ℕ → Reply × Desk
hello_effect desk None = (NoEvent, desk)
hello_effect desk (Some client) = (Number (pos client), with_client client desk)

unfoldable pub step_hello : Desk → Bool → Reply × Desk
step_hello desk short =
    event_end (outcome desk (first_refusal (when (is_none (free_client desk.clients)) (Full 16) ∷ when short Memory ∷ [])) (hello_effect desk (free_client desk.clients)))

-- A client leaves with its windows, widgets, admissions and events.
abbrev pub without_client : ℕ → Desk → Desk
without_client client desk =
    record desk {
      clients = filter (λ other. not (nat_eq client other)) desk.clients;
      rows = rows_of_others client desk.rows;
      windows = filter (λ window. not (nat_eq client window.0)) desk.windows;
      roster = filter (λ admission. not (nat_eq client admission.client)) desk.roster;
      rings = filter (λ ring. not (nat_eq client ring.client)) desk.rings;
    }

-- `bye`
unfoldable pub step_bye : Desk → ℕ → Reply × Desk
step_bye desk client = event_end (outcome desk (when (not (is_connected desk client)) NotConnected) (Done, without_client client desk))
