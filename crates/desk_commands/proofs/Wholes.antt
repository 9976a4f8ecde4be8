-- What a command did to the widgets is what it did to all parts of the desk, where it leaves the open windows.
use Rattle.std.proofs.Common.{ℕ, List, Option, refl, ap, ap₂, ◌∙◌}
use Rattle.geom_core.specs.declared.rectangle.Rect.{Rect}
use Rattle.cmd_words.specs.declared.replies.Reply.{Reply}
use Rattle.widget_model.specs.KeptPlaces.{place_in}
use Rattle.widget_model.specs.Widgets.{Widgets, nodes, rows_of}
use Rattle.widget_model.specs.Forest.{IsWidgets}
use Rattle.desk_model.specs.Desk.{Desk}
use Rattle.admit_core.specs.Roster.{RosterState}
use Rattle.desk_commands.specs.Parts.{desk_of, admissions_at, AreParts}
use Rattle.desk_commands.specs.Effects.{Did, DidListed, DidAll, DidWhole}
use Rattle.desk_commands.proofs.Effects.{titles_kept, windows_kept}
use Rattle.desk_layout.proofs.KeyNumbers.{key_at-kept, numbers-more}
use Rattle.desk_commands.proofs.Rosters.{admitted-node}

pub did_all : (step : Desk → Reply × Desk) (old new : Widgets) (keys : List ℕ) (reply : Reply) → Did step old new reply → AreParts old.clients old keys → IsWidgets new → DidAll step old new keys keys reply
did_all step old new keys reply did parts valid =
    let titles = titles_kept (nodes old.entries) (nodes new.entries) keys did.kept parts.windows in
    record {
      answer = λ stage.
          ap₂ (λ (clients : List ℕ) (windows : List (ℕ × List ℕ)). (reply, record (desk_of stage old keys) { clients = clients; rows = rows_of new; windows = windows })) did.clients titles
          ∙ did.answer (desk_of stage old keys);
      clients = did.clients;
      kept = record { clients = refl; tree = valid; stack = parts.stack; windows = windows_kept (nodes old.entries) (nodes new.entries) keys did.kept parts.windows };
      names = λ stage id key named inside. key_at-kept old.entries new.entries id key (did.kept id) named;
      admitted = λ entry there. did.kept entry.0 (admitted-node old.entries entry there);
      numbers = numbers-more old.entries new.entries valid.rows.names did.kept;
      places = λ id row there. ap (λ (places : List (Option Rect)). place_in places id) did.places;
    }

-- the same where the roster changes too
pub listed_whole : (step : Desk → Reply × Desk) (old new : Widgets) (keys : List ℕ) (roster roster' : RosterState) (reply : Reply) → DidListed step old new roster roster' reply → AreParts old.clients old keys → IsWidgets new → DidWhole step old new keys keys roster roster' reply
listed_whole step old new keys roster roster' reply did parts valid =
    let titles = titles_kept (nodes old.entries) (nodes new.entries) keys did.kept parts.windows in
    record {
      answer = λ stage limit.
          ap₂ (λ (clients : List ℕ) (windows : List (ℕ × List ℕ)). (reply, record (desk_of stage old keys) { clients = clients; rows = rows_of new; windows = windows; roster = admissions_at (nodes new.entries) roster'.entries })) did.clients titles
          ∙ did.answer (desk_of stage old keys) limit;
      clients = did.clients;
      kept = record { clients = refl; tree = valid; stack = parts.stack; windows = windows_kept (nodes old.entries) (nodes new.entries) keys did.kept parts.windows };
      limit = did.limit;
      listed = did.listed;
      names = λ stage id key named inside. key_at-kept old.entries new.entries id key (did.kept id) named;
      numbers = numbers-more old.entries new.entries valid.rows.names did.kept;
      places = λ id row there. ap (λ (places : List (Option Rect)). place_in places id) did.places;
    }
