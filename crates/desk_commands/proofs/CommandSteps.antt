-- A command's step is that of its row.
use Rattle.std.proofs.Common.{◌≡◌, ℕ, List, refl, sym, ap, ◌∙◌}
use Rattle.cmd_words.specs.declared.commands.Command.{Command}
use Rattle.cmd_words.specs.declared.replies.Reply.{Reply}
use Rattle.admit_core.specs.Roster.{RosterState}
use Rattle.widget_model.specs.Widgets.{Widgets, nodes}
use Rattle.widget_model.specs.Forest.{IsWidgets}
use Rattle.desk_model.specs.Desk.{Desk, Admission}
use Rattle.desk_model.specs.Commands.{row_of}
use Rattle.desk_model.specs.Refusals.{is_memory}
use Rattle.desk_commands.specs.Parts.{admissions_at, with_roster, desk_of, AreParts, ListsAdmitted}
use Rattle.desk_commands.specs.Effects.{Did, DidListed, DidAll, DidWhole}
use Rattle.desk_commands.proofs.Wholes.{did_all, listed_whole}
use Rattle.desk_commands.proofs.Rosters.{admissions-kept, entries-live}

-- what a command is known to have done
abbrev pub RowDid : ℕ → List ℕ → Command → Widgets → Widgets → List ℕ → List ℕ → RosterState → RosterState → Reply → Type 0
RowDid client payload command old new keys keys' roster roster' reply = DidWhole (λ desk. row_of command payload desk client (is_memory reply)) old new keys keys' roster roster' reply

-- a command that leaves the roster
pub row_did : (client : ℕ) (payload : List ℕ) (command is : Command) (step : Desk → Reply × Desk) (old new : Widgets) (keys keys' : List ℕ) (roster : RosterState) (reply : Reply) → command ≡ is → ((desk : Desk) → step desk ≡ row_of is payload desk client (is_memory reply)) → DidAll step old new keys keys' reply → ListsAdmitted old.entries roster → RowDid client payload command old new keys keys' roster roster reply
row_did client payload command is step old new keys keys' roster reply named same did lists =
    record {
      answer = λ stage limit.
          let now = with_roster (admissions_at (nodes old.entries) roster.entries) stage in
          ap (λ (admissions : List Admission). (reply, desk_of (with_roster admissions stage) new keys')) (admissions-kept old.entries new.entries did.admitted roster.entries lists.admitted)
          ∙ did.answer now
          ∙ same (desk_of now old keys)
          ∙ ap (λ (c : Command). row_of c payload (desk_of now old keys) client (is_memory reply)) (sym named);
      clients = did.clients;
      kept = did.kept;
      limit = refl;
      listed = record { valid = lists.valid; live = entries-live old.entries new.entries did.admitted roster.entries lists.admitted };
      names = λ stage id key named inside. did.names stage id key named inside;
      numbers = did.numbers;
      places = did.places;
    }

pub obeyed : (client : ℕ) (payload : List ℕ) (command is : Command) (step : Desk → Reply × Desk) (old new : Widgets) (keys : List ℕ) (roster : RosterState) (reply : Reply) → command ≡ is → ((desk : Desk) → step desk ≡ row_of is payload desk client (is_memory reply)) → Did step old new reply → AreParts old.clients old keys → IsWidgets new → ListsAdmitted old.entries roster → RowDid client payload command old new keys keys roster roster reply
obeyed client payload command is step old new keys roster reply named same did parts valid lists =
    row_did client payload command is step old new keys keys roster reply named same (did_all step old new keys reply did parts valid) lists

-- a command that may change the roster
pub obeyed_roster : (client : ℕ) (payload : List ℕ) (command is : Command) (step : Desk → Reply × Desk) (old new : Widgets) (keys : List ℕ) (roster roster' : RosterState) (reply : Reply) → command ≡ is → ((desk : Desk) → step desk ≡ row_of is payload desk client (is_memory reply)) → DidListed step old new roster roster' reply → AreParts old.clients old keys → IsWidgets new → RowDid client payload command old new keys keys roster roster' reply
obeyed_roster client payload command is step old new keys roster roster' reply named same did parts valid =
    let whole = listed_whole step old new keys roster roster' reply did parts valid in
    record {
      answer = λ stage limit.
          let now = desk_of (with_roster (admissions_at (nodes old.entries) roster.entries) stage) old keys in
          whole.answer stage limit ∙ same now ∙ ap (λ (c : Command). row_of c payload now client (is_memory reply)) (sym named);
      clients = whole.clients;
      kept = whole.kept;
      limit = whole.limit;
      listed = whole.listed;
      names = λ stage id key named inside. whole.names stage id key named inside;
      numbers = whole.numbers;
      places = whole.places;
    }
