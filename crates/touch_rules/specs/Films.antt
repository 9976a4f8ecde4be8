-- Which VScreen a command shows anew. What is seen of a film is its size and its shown bytes; its other pictures and
-- where it stands in its period are not.
use Rattle.std.specs.Prelude.{ℕ, ◌≡◌, ◌*◌, Bool, true, false, not, ◌&&◌, nat_eq, nat_lt, length, replicate, List, Option, Some, None, unsigned_abs, if◌then◌else◌}
use Rattle.std.specs.Option.{option_map_or, option_and_then}
use Rattle.std.specs.Str.{bytes_eq}
use Rattle.vscreen_core.specs.FilmState.{FilmState, pixels_in}
use Rattle.cmd_words.specs.declared.commands.Command.{Command}
use Rattle.cmd_words.specs.declared.commands.Command.TheVariants.{Mode, Leave, SendFrame}
use Rattle.cmd_words.specs.declared.replies.Reply.{Reply}
use Rattle.cmd_words.specs.declared.replies.Reply.TheVariants.{Refused}
use Rattle.widget_model.specs.Rows.{Row}
use Rattle.widget_model.specs.Named.{row_named}
use Rattle.desk_model.specs.Desk.{Desk}
use Rattle.desk_model.specs.Screens.{is_screen, film_named}
use Rattle.desk_model.specs.Commands.{step}

-- whether two films look alike; where there is none, only none looks so
abbrev pub looks_alike : Option FilmState → Option FilmState → Bool
looks_alike None None = true
looks_alike (Some one) (Some two) = nat_eq one.width two.width && (nat_eq one.height two.height && bytes_eq one.shown two.shown)
looks_alike _ _ = false

-- the film that the widget shows: a widget of another kind than VScreen shows none
abbrev pub shown_film : Row → Option FilmState
shown_film row = if is_screen row.kind then row.film else None

-- `mode`: a blank film of that size looks different from the one before
abbrev pub blank_differs : ℕ → ℕ → Option FilmState → Bool
blank_differs width height None = true
blank_differs width height (Some film) =
    not (nat_eq film.width width && (nat_eq film.height height && bytes_eq film.shown (replicate (width * height) 0)))

-- `leave`: the newest frame differs from what is shown
abbrev pub newest_differs : FilmState → Bool
newest_differs film = not (bytes_eq film.shown film.newest)

-- `frame`: the film isn't admitted, and a frame of its size differs from what is shown
abbrev pub frame_differs : List ℕ → FilmState → Bool
frame_differs frame film =
    not (nat_lt 0 film.period) && (nat_eq (length frame) (pixels_in film) && not (bytes_eq film.shown frame))

-- the VScreen that a command names, of those commands that may show one anew
abbrev pub screen_named : Command → Option (List ℕ)
screen_named (Mode name w h) = Some name
screen_named (Leave name) = Some name
screen_named (SendFrame name size) = Some name
screen_named _ = None

-- whether the film looks different after the command, where it is done
abbrev pub film_differs : Command → List ℕ → Option FilmState → Bool
film_differs (Mode name w h) payload film = blank_differs (unsigned_abs w) (unsigned_abs h) film
film_differs (Leave name) payload film = option_map_or newest_differs film false
film_differs (SendFrame name size) payload film = option_map_or (frame_differs payload) film false
film_differs _ payload film = false

-- The name of the VScreen that the client's command shows anew where it is done; none where it shows none anew.
abbrev pub shown_anew : List Row → ℕ → Command → List ℕ → Option (List ℕ)
shown_anew rows client command payload =
    option_and_then (λ name. if film_differs command payload (film_named rows client name) then Some name else None) (screen_named command)

-- Of the widgets that are there before and after, exactly the client's one of that name shows a film that looks different.
pub record ShowsAnew (client : ℕ) (anew : Option (List ℕ)) (old new : List Row) : Type 0 where
  pub each : (owner : ℕ) (name : List ℕ) (before after : Row) → row_named old owner name ≡ Some before → row_named new owner name ≡ Some after
      → not (looks_alike (shown_film before) (shown_film after)) ≡ (nat_eq client owner && option_map_or (λ one. bytes_eq one name) anew false)

-- A refused command shows none anew.
abbrev pub unless_refused : {X : Type 0} → Reply → Option X → Option X
unless_refused (Refused refusal) anew = None
unless_refused _ anew = anew

abbrev pub CommandsShowAnew : Type 0
CommandsShowAnew =
    (desk : Desk) (client : ℕ) (command : Command) (payload : List ℕ) (short : Bool) →
    let done = step desk client command payload short in
    ShowsAnew client (unless_refused done.0 (shown_anew desk.rows client command payload)) desk.rows done.1.rows
