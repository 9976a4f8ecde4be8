-- What holds of the periods of an admitted VScreen: each pixel of its film is drawn once in a period, from the frame that
-- was the newest when the period began. A VScreen goes by its key.
use Rattle.std.specs.Prelude.{◌≡◌, ℕ, ◌<◌, pos, ◌-ℤ◌, Bool, true, false, List, [], ◌∷◌, ◌++◌, Option, Some, unsigned_abs, nat_lt, ◌≤◌, if◌then◌else◌, flat_map, count_by}
use Rattle.std.specs.List.{All}
use Rattle.std.specs.Option.{option_map_or}
use Rattle.cmd_words.specs.declared.commands.Command.TheVariants.{Admit}
use Rattle.cmd_words.specs.declared.replies.Reply.TheVariants.{Done}
use Rattle.vscreen_core.specs.declared.band.Band.{Band}
use Rattle.vscreen_core.specs.Band.{has_pixel}
use Rattle.vscreen_core.specs.Changes.{band_drawn}
use Rattle.vscreen_core.specs.FilmState.{FilmState, pixels_in}
use Rattle.vscreen_core.specs.Picture.{pixel_number, pixel_of}
use Rattle.widget_model.specs.Keys.{same_key}
use Rattle.scene_model.specs.Showing.{place_of}
use Rattle.scene_model.specs.Bands.{shows_band}
use Rattle.desk_model.specs.Screens.{film_named}
use Rattle.desk_model.specs.Seen.{scene_of}
use Rattle.machine_model.specs.State.{State, EachPixel, byte_at}
use Rattle.machine_model.specs.Events.{Event, Answer}
use Rattle.machine_model.specs.Events.Event.{Ask, Tick}
use Rattle.machine_model.specs.Events.Answer.{Replied}
use Rattle.machine_model.specs.Run.{Moment, state_after}

-- the film of the VScreen
abbrev pub film_in : State → ℕ × List ℕ → Option FilmState
film_in state key = film_named state.desk.rows key.0 key.1

abbrev pub is_admitted_in : State → ℕ × List ℕ → Bool
is_admitted_in state key = option_map_or (λ film. nat_lt 0 film.period) (film_in state key) false

-- whether the event, so answered, admits the VScreen, for the first time or anew
abbrev pub admits : ℕ × List ℕ → Event → Answer → Bool
admits key (Ask client (Admit name period) payload) (Replied Done) = same_key key (client, name)
admits key _ _ = false

-- Through the moments the VScreen stays admitted, and isn't admitted anew.
abbrev pub StaysAdmitted : ℕ × List ℕ → List Moment → Type 0
StaysAdmitted key moments =
    All (λ (moment : Moment). (is_admitted_in moment.after key ≡ true) × (admits key moment.event moment.answer ≡ false)) moments

abbrev pub is_tick : Event → Bool
is_tick Tick = true
is_tick _ = false

-- how many ticks there are
abbrev pub ticks_in : List Moment → ℕ
ticks_in moments = count_by (λ moment. is_tick moment.event) moments

-- The moments are in a period of the VScreen, from its first tick on: the film stood at phase 0 before that tick, and no
-- more ticks came than the period has.
pub record IsInPeriod (key : ℕ × List ℕ) (film : FilmState) (from : State) (first : Moment) (moments : List Moment) : Type 0 where
  pub there : film_in from key ≡ Some film
  pub admitted : 0 < film.period
  pub starts : film.phase ≡ 0
  pub first_tick : first.event ≡ Tick
  pub stays : StaysAdmitted key (first ∷ moments)
  pub within : ticks_in (first ∷ moments) ≤ film.period

-- the bands that the ticks drew of the VScreen's film, in order
abbrev pub band_of_moment : ℕ × List ℕ → Moment → List Band
band_of_moment key moment =
    if is_tick moment.event then option_map_or (λ film. band_drawn film ∷ []) (film_in moment.after key) [] else []

abbrev pub bands_of : ℕ × List ℕ → List Moment → List Band
bands_of key moments = flat_map (band_of_moment key) moments

-- In a whole period each pixel of the film, by its number, is in the band of exactly one tick.
abbrev pub EachPixelOnce : ℕ × List ℕ → FilmState → List Moment → Type 0
EachPixelOnce key film period =
    ticks_in period ≡ film.period → (number : ℕ) → number < pixels_in film → count_by (λ band. has_pixel band number) (bands_of key period) ≡ 1

-- the number of the film's pixel that lies at the pixel (x, y) of the screen, where it is one of the film's
abbrev pub number_at : State → ℕ × List ℕ → FilmState → ℕ → ℕ → ℕ
number_at state key film x y =
    let place = place_of (scene_of state.desk) key in pixel_number film.width (unsigned_abs (pos x -ℤ place.x)) (unsigned_abs (pos y -ℤ place.y))

-- Each pixel of the screen on which the VScreen is on top, at a pixel of its film that is in the band just drawn, shows
-- that pixel of the frame.
abbrev pub ShowsFrame : ℕ × List ℕ → FilmState → State → Type 0
ShowsFrame key film state =
    EachPixel state.desk.shape (λ x y. option_map_or (λ now. shows_band (scene_of state.desk) key (band_drawn now) (pos x) (pos y)) (film_in state key) false ≡ true
    → byte_at state x y ≡ pixel_of film.newest (number_at state key film x y))

-- So it is right after each tick of the period; the frame is the one that was the newest before the period's first tick.
abbrev pub ShowsOneFrame : ℕ × List ℕ → FilmState → List Moment → Type 0
ShowsOneFrame key film period =
    (earlier later : List Moment) (tick : Moment) → period ≡ earlier ++ tick ∷ later → tick.event ≡ Tick → ShowsFrame key film tick.after

pub record DrawsPeriod (key : ℕ × List ℕ) (film : FilmState) (period : List Moment) : Type 0 where
  pub once : EachPixelOnce key film period
  pub shown : ShowsOneFrame key film period

-- wherever in a run the moments are in a period of a VScreen, whatever else happens in it
abbrev pub DrawsEachPeriod : State → List Moment → Type 0
DrawsEachPeriod from moments =
    (key : ℕ × List ℕ) (film : FilmState) (before period later : List Moment) (first : Moment)
    → moments ≡ before ++ (first ∷ period) ++ later → IsInPeriod key film (state_after from before) first period → DrawsPeriod key film (first ∷ period)
