-- Inner words of the proofs: the VScreens that commands find, and their films.
use Rattle.std.specs.Prelude.{ℕ, ℤ, pos, ◌≡◌, ◌≤◌, Bool, false, not, ◌&&◌, ◌||◌, nat_eq, nat_lt, length, List, Some, None, Result, Ok, Err, unsigned_abs}
use Rattle.std.specs.Option.{option_map, option_map_or}
use Rattle.std.specs.Str.{bytes_eq}
use Rattle.kind_core.specs.declared.kinds.Kind.TheVariants.{VScreen}
use Rattle.cmd_words.specs.declared.replies.Refusal.{Refusal}
use Rattle.cmd_words.specs.declared.replies.Refusal.TheVariants.{Memory}
use Rattle.vscreen_core.specs.FilmState.{FilmState, pixels_in}
use Rattle.widget_model.specs.Rows.{Row}
use Rattle.widget_model.specs.Widgets.{Widgets, rows_of, row_at}
use Rattle.tree_core.specs.declared.id.Id.{Id}
use Rattle.desk_model.specs.Desk.{Desk}
use Rattle.desk_model.specs.Refusals.{when}
use Rattle.desk_model.specs.PlaceOptions.{unless_within}
use Rattle.desk_model.specs.Screens.{mode_refusal, admit_refusal, frame_refusal, share_wanted}
use Rattle.desk_commands.specs.Effects.{with_rows}
use Rattle.desk_commands.specs.Lookup.{IsFound}
use Rattle.desk_commands.specs.declared.admission.Wanted.{Wanted}
use Rattle.desk_commands.specs.declared.screens.Framed.{Framed}

-- whether two films are the same: in size, period and phase, and in their pictures
abbrev pub same_size : FilmState → FilmState → Bool
same_size one other = nat_eq one.width other.width && nat_eq one.height other.height

abbrev pub same_time : FilmState → FilmState → Bool
same_time one other = nat_eq one.period other.period && nat_eq one.phase other.phase

abbrev pub same_pictures : FilmState → FilmState → Bool
same_pictures one other = bytes_eq one.newest other.newest && (bytes_eq one.current other.current && bytes_eq one.shown other.shown)

abbrev pub same_film : FilmState → FilmState → Bool
same_film one other = same_size one other && (same_time one other && same_pictures one other)

-- whether the film changes where it is admitted with that period
abbrev pub begins : FilmState → ℕ → Bool
begins film period = not (nat_eq film.period period) || not (nat_eq film.phase 0)

-- whether the film has the frame already
abbrev pub keeps_film : FilmState → List ℕ → Bool
keeps_film film frame = bytes_eq film.newest frame && (nat_lt 0 film.period || bytes_eq film.shown frame)

-- the number is that of a VScreen with a film
pub record HasFilm (widgets : Widgets) (key : ℕ) : Type 0 where
  pub row : Row
  pub film : FilmState
  pub there : row_at widgets.entries key ≡ Some row
  pub kind : row.kind ≡ VScreen
  pub has : row.film ≡ Some film

-- whether it has that film
abbrev pub HasFilmOf : Widgets → ℕ → FilmState → Bool → Type 0
HasFilmOf widgets key film result = option_map (λ row. option_map_or (λ own. same_film own film) row.film false) (row_at widgets.entries key) ≡ Some result

-- The VScreen of that number may have a film of that size, where there is memory for it.
pub record IsModed (widgets : Widgets) (client : ℕ) (name : List ℕ) (w h : ℤ) (key : ℕ) : Type 0 where
  pub found : IsFound widgets client name key VScreen
  pub allowed : (desk : Desk) (short : Bool) → mode_refusal (with_rows (rows_of widgets) desk) client name w h short ≡ when short Memory
  pub wide : (1 ≤ unsigned_abs w) × (unsigned_abs w ≤ 256)
  pub high : (1 ≤ unsigned_abs h) × (unsigned_abs h ≤ 256)

abbrev pub AnswersMode : Widgets → ℕ → List ℕ → ℤ → ℤ → Result Id Refusal → Type 0
AnswersMode widgets client name w h (Ok id) = IsModed widgets client name w h id.key
AnswersMode widgets client name w h (Err refusal) = (desk : Desk) (short : Bool) → mode_refusal (with_rows (rows_of widgets) desk) client name w h short ≡ Some refusal

-- The VScreen of that number takes the frame.
pub record IsFramed (widgets : Widgets) (client : ℕ) (name frame : List ℕ) (key : ℕ) (changed : Bool) : Type 0 where
  pub found : IsFound widgets client name key VScreen
  pub film : FilmState
  pub has : found.row.film ≡ Some film
  pub size : length frame ≡ pixels_in film
  pub tells : changed ≡ not (keeps_film film frame)

abbrev pub AnswersFrame : Widgets → ℕ → List ℕ → List ℕ → Result Framed Refusal → Type 0
AnswersFrame widgets client name frame (Ok framed) = IsFramed widgets client name frame framed.id.key framed.changed
AnswersFrame widgets client name frame (Err refusal) = (desk : Desk) → frame_refusal (with_rows (rows_of widgets) desk) client name frame ≡ Some refusal

-- The VScreen of that number may be admitted, where its share fits.
pub record IsWanted (widgets : Widgets) (client : ℕ) (name : List ℕ) (period : ℤ) (key share : ℕ) (changed : Bool) : Type 0 where
  pub found : IsFound widgets client name key VScreen
  pub film : FilmState
  pub has : found.row.film ≡ Some film
  pub within : unless_within (pos 1) (pos 64) period ≡ None
  pub share_is : share ≡ share_wanted film period
  pub tells : changed ≡ begins film (unsigned_abs period)

abbrev pub AnswersWanted : Widgets → ℕ → List ℕ → ℤ → Result Wanted Refusal → Type 0
AnswersWanted widgets client name period (Ok wanted) = IsWanted widgets client name period wanted.id.key wanted.share wanted.changed
AnswersWanted widgets client name period (Err refusal) = (desk : Desk) → admit_refusal (with_rows (rows_of widgets) desk) client name period ≡ Some refusal
