-- What holds of the desk at every moment holds at opening, and each step keeps it: a client's coming and going, and
-- each of its commands.
use Rattle.std.proofs.Common.{◌≡◌, ℕ, Bool, true, not, is_none, List, [], ◌∷◌, Option, Some, None, refl, arith}
use Rattle.std.proofs.lemmas.Bool.{not-false}
use Rattle.std.proofs.lemmas.List.Elements.{All-nil}
use Rattle.cmd_words.specs.declared.commands.Command.{Command}
use Rattle.cmd_words.specs.declared.commands.Command.TheVariants.{New, Set, Get, Place, Lift, ColumnConfig, RowConfig, Link, Unlink, Bind, Unbind, OpenWindow, CloseWindow, TopWindow, Mode, Admit, Leave, SendFrame, DropWidget, Poll}
use Rattle.cmd_words.specs.declared.replies.Reply.TheVariants.{Done}
use Rattle.cmd_words.specs.declared.replies.Refusal.{Refusal}
use Rattle.cmd_words.specs.declared.replies.Refusal.TheVariants.{Memory, Full, NotConnected, Connected}
use Rattle.kind_core.specs.declared.shapes.Shape.{Shape}
use Rattle.bind_core.specs.Ring.{IsRing}
use Rattle.scene_model.specs.Shapes.{IsShape}
use Rattle.widget_model.specs.Clients.{is_client}
use Rattle.widget_model.specs.Fitting.{IsFitFilm}
use Rattle.desk_model.specs.Desk.{Desk, Ring, opening_desk, is_connected}
use Rattle.desk_model.specs.Refusals.{when, first_refusal, outcome}
use Rattle.desk_model.specs.LetGo.{let_go}
use Rattle.desk_model.specs.Clients.{with_client, without_client, free_client, hello_effect, step_connect, step_hello, step_bye}
use Rattle.scene_model.specs.declared.axis.Axis.TheVariants.{Across, Down}
use Rattle.desk_model.specs.Commands.{row_of, step}
use Rattle.desk_model.specs.DeskFacts.{IsDesk}
use Rattle.desk_model.proofs.Sound.{IsSound, IsSound-desk, IsDesk-sound, IsDesk-let_go, IsSound-outcome}
use Rattle.desk_model.proofs.Refusals.{passed, when-none}
use Rattle.desk_model.proofs.Clients.{IsSound-with_client, free_client-is_client}
use Rattle.desk_model.proofs.KeptOut.{IsSound-without_client}
use Rattle.desk_model.proofs.KeptWidgets.{IsSound-new, IsSound-set, IsSound-get, IsSound-drop}
use Rattle.desk_model.proofs.KeptPlacement.{IsSound-place, IsSound-lift}
use Rattle.desk_model.proofs.KeptTracks.{IsSound-track}
use Rattle.desk_model.proofs.KeptLinks.{IsSound-link, IsSound-unlink, IsSound-bind}
use Rattle.desk_model.proofs.KeptWindows.{IsSound-open, IsSound-close, IsSound-top}
use Rattle.desk_model.proofs.KeptScreens.{IsSound-mode, IsSound-admit, IsSound-leave, IsSound-frame}
use Rattle.desk_model.proofs.KeptPoll.{IsSound-poll}

IsSound-opening : (shape : Shape) → IsShape shape → IsSound (opening_desk shape)
IsSound-opening shape is =
    record {
      shape = is;
      clients = refl;
      connected_once = tt;
      rows = record {
        owners = refl;
        names = tt;
        most = λ client. omega arith;
        most_alike = λ client kind. omega arith;
        planted = record { hang = refl; own_cells = tt; low = refl };
        linked = refl;
        fitting = refl;
        films = All-nil IsFitFilm;
      };
      by_kind = refl;
      roster = record { shares = refl; once = tt; all = refl; within = omega arith };
      rings = record { each = refl; valid = All-nil (λ (ring : Ring). IsRing ring.events) };
      windows = record { there = refl; once = tt };
    }

pub IsDesk-opening : (shape : Shape) → IsShape shape → IsDesk (opening_desk shape)
unfolding let_go
IsDesk-opening shape is = IsDesk-sound (opening_desk shape) (IsSound-opening shape is) lets_go
  where
    lets_go : let_go (opening_desk shape) ≡ opening_desk shape
    lets_go = refl

pub IsDesk-connect : (desk : Desk) (client : ℕ) (short : Bool) → is_client client ≡ true → IsDesk desk → IsDesk (step_connect desk client short).1
unfolding step_connect
IsDesk-connect desk client short range kept =
    IsDesk-let_go (outcome desk (first_refusal refusals) (Done, with_client client desk)).1
    (IsSound-outcome desk (first_refusal refusals) (Done, with_client client desk) (IsSound-desk desk kept)
    (λ none. IsSound-with_client desk client (IsSound-desk desk kept) range (when-none (is_connected desk client) Connected (passed (when (is_connected desk client) Connected) (when short Memory ∷ []) none).0)))
  where
    refusals : List (Option Refusal)
    refusals = when (is_connected desk client) Connected ∷ when short Memory ∷ []

pub IsDesk-hello : (desk : Desk) (short : Bool) → IsDesk desk → IsDesk (step_hello desk short).1
unfolding step_hello
IsDesk-hello desk short kept =
    IsDesk-let_go (outcome desk (first_refusal refusals) (hello_effect desk (free_client desk.clients))).1
    (IsSound-outcome desk (first_refusal refusals) (hello_effect desk (free_client desk.clients)) (IsSound-desk desk kept) (λ none. by (free_client desk.clients) refl))
  where
    refusals : List (Option Refusal)
    refusals = when (is_none (free_client desk.clients)) (Full 16) ∷ when short Memory ∷ []

    by : (o : Option ℕ) → free_client desk.clients ≡ o → IsSound (hello_effect desk o).1
    by None found = IsSound-desk desk kept
    by (Some client) found =
        let free = free_client-is_client desk.clients client found in
        IsSound-with_client desk client (IsSound-desk desk kept) free.0 free.1

pub IsDesk-bye : (desk : Desk) (client : ℕ) → IsDesk desk → IsDesk (step_bye desk client).1
unfolding step_bye
IsDesk-bye desk client kept =
    IsDesk-let_go (outcome desk refusal (Done, without_client client desk)).1
    (IsSound-outcome desk refusal (Done, without_client client desk) (IsSound-desk desk kept) (λ none. IsSound-without_client desk client (IsSound-desk desk kept)))
  where
    refusal : Option Refusal
    refusal = when (not (is_connected desk client)) NotConnected

-- each row leaves a sound desk where the client is connected
IsSound-row : (desk : Desk) (client : ℕ) (command : Command) (payload : List ℕ) (short : Bool) → IsSound desk → is_connected desk client ≡ true → IsSound (row_of command payload desk client short).1
IsSound-row desk client (New name kind) payload short sound joined = IsSound-new desk client name kind short sound joined
IsSound-row desk client (Set name options) payload short sound joined = IsSound-set desk client name options sound
IsSound-row desk client (Get name attr) payload short sound joined = IsSound-get desk client name attr sound
IsSound-row desk client (Place parent child options) payload short sound joined = IsSound-place desk client parent child options sound
IsSound-row desk client (Lift parent child) payload short sound joined = IsSound-lift desk client parent child sound
IsSound-row desk client (ColumnConfig name index options) payload short sound joined = IsSound-track Across desk client name index options sound
IsSound-row desk client (RowConfig name index options) payload short sound joined = IsSound-track Down desk client name index options sound
IsSound-row desk client (Link name variable) payload short sound joined = IsSound-link desk client name variable sound
IsSound-row desk client (Unlink name) payload short sound joined = IsSound-unlink desk client name sound
IsSound-row desk client (Bind name event tag) payload short sound joined = IsSound-bind desk client name event (Some tag) sound
IsSound-row desk client (Unbind name event) payload short sound joined = IsSound-bind desk client name event None sound
IsSound-row desk client (OpenWindow name) payload short sound joined = IsSound-open desk client name sound
IsSound-row desk client (CloseWindow name) payload short sound joined = IsSound-close desk client name sound
IsSound-row desk client (TopWindow name) payload short sound joined = IsSound-top desk client name sound
IsSound-row desk client (Mode name w h) payload short sound joined = IsSound-mode desk client name w h short sound
IsSound-row desk client (Admit name period) payload short sound joined = IsSound-admit desk client name period sound
IsSound-row desk client (Leave name) payload short sound joined = IsSound-leave desk client name sound
IsSound-row desk client (SendFrame name size) payload short sound joined = IsSound-frame desk client name payload sound
IsSound-row desk client (DropWidget name) payload short sound joined = IsSound-drop desk client name sound
IsSound-row desk client Poll payload short sound joined = IsSound-poll desk client sound

pub IsDesk-command : (desk : Desk) (client : ℕ) (command : Command) (payload : List ℕ) (short : Bool) → IsDesk desk → IsDesk (step desk client command payload short).1
unfolding step
IsDesk-command desk client command payload short kept =
    IsDesk-let_go (outcome desk refusal (row_of command payload desk client short)).1
    (IsSound-outcome desk refusal (row_of command payload desk client short) (IsSound-desk desk kept)
    (λ none. IsSound-row desk client command payload short (IsSound-desk desk kept) (not-false (is_connected desk client) (when-none (not (is_connected desk client)) NotConnected none))))
  where
    refusal : Option Refusal
    refusal = when (not (is_connected desk client)) NotConnected
