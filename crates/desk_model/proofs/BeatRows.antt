-- What a beat makes of a row: its film is beaten where it is admitted, and all else stays. So the rows of a beat move
-- nothing, and go by the same names.
use Rattle.std.proofs.Common.{◌≡◌, ℕ, ℤ, ◌+◌, ◌*◌, Bool, true, false, cond, nat_lt, List, length, map, Option, Some, None, refl, ap, ap₂, ◌∙◌}
use Rattle.std.proofs.lemmas.Bool.{ltb-true}
use Rattle.std.specs.Option.{option_map, option_map_or, option_and_then}
use Rattle.kind_core.specs.declared.kinds.Kind.{Kind}
use Rattle.kind_core.specs.declared.kinds.Kind.TheVariants.{Window, Grid, Frame, Button, Label, Entry, Scale, Scrollbar, Variable, VScreen}
use Rattle.kind_core.specs.declared.kinds.Attr.TheVariants.{Text, Value, Y}
use Rattle.kind_core.specs.Effective.{label_text, frame_offset}
use Rattle.vscreen_core.specs.FilmState.{FilmState, IsFilm}
use Rattle.vscreen_core.specs.Changes.{beaten}
use Rattle.vscreen_core.proofs.Films.{IsFilm-beaten}
use Rattle.vscreen_core.proofs.Periods.{beaten_keeps}
use Rattle.widget_model.specs.Rows.{Row, with_film}
use Rattle.widget_model.specs.Named.{row_named}
use Rattle.widget_model.specs.Trees.{is_admitted}
use Rattle.widget_model.proofs.Hanging.{LeavesNames, row_named-map}
use Rattle.widget_model.proofs.Leaves.{LeavesNode}
use Rattle.scene_model.specs.declared.axis.Axis.{Axis}
use Rattle.scene_model.specs.declared.axis.Axis.TheVariants.{Across, Down}
use Rattle.scene_model.specs.Values.{text_of, number_of, linked_value, offset_of}
use Rattle.scene_model.specs.Tracks.{rules_of}
use Rattle.scene_model.specs.Least.{own_size}
use Rattle.scene_model.specs.Placing.{window_span}
use Rattle.scene_model.specs.Still.{MovesNothing}
use Rattle.desk_model.specs.Screens.{film_named, with_film_changed}
use Rattle.desk_model.specs.Beat.{row_beaten}

-- the film after a beat: one that isn't admitted stays
abbrev pub film_beaten : FilmState → FilmState
film_beaten film = cond (nat_lt 0 film.period) (beaten film) film

pub record FilmKeeps (film next : FilmState) : Type 0 where
  pub width : next.width ≡ film.width
  pub height : next.height ≡ film.height
  pub period : next.period ≡ film.period
  pub newest : next.newest ≡ film.newest

newest-beaten : (film : FilmState) → (beaten film).newest ≡ film.newest
unfolding beaten
newest-beaten film = refl

pub film_beaten-keeps : (film : FilmState) → FilmKeeps film (film_beaten film)
film_beaten-keeps film = by (nat_lt 0 film.period)
  where
    by : (b : Bool) → FilmKeeps film (cond b (beaten film) film)
    by true = let keeps = beaten_keeps film in record { width = keeps.width; height = keeps.height; period = keeps.period; newest = newest-beaten film }
    by false = record { width = refl; height = refl; period = refl; newest = refl }

pub IsFilm-film_beaten : (film : FilmState) → IsFilm film → IsFilm (film_beaten film)
IsFilm-film_beaten film is = by (nat_lt 0 film.period) refl
  where
    by : (b : Bool) → nat_lt 0 film.period ≡ b → IsFilm (cond b (beaten film) film)
    by true some = IsFilm-beaten film is (ltb-true 0 film.period some)
    by false none = is

-- a row's beat is its film's
pub row_beaten-is : (row : Row) → row_beaten row ≡ with_film_changed film_beaten row
row_beaten-is row = by row.film refl
  where
    admitted : (film : FilmState) (b : Bool) → row.film ≡ Some film → cond b (with_film (Some (beaten film)) row) row ≡ with_film (Some (cond b (beaten film) film)) row
    admitted film true is = refl
    admitted film false is = ap (λ (o : Option FilmState). with_film o row) is

    by : (o : Option FilmState) → row.film ≡ o → cond (option_map_or (λ (film : FilmState). nat_lt 0 film.period) o false) (with_film (option_map beaten o) row) row ≡ with_film (option_map film_beaten o) row
    by None is = ap (λ (o : Option FilmState). with_film o row) is
    by (Some film) is = admitted film (nat_lt 0 film.period) is

-- what stays of the row
pub client-beaten : (row : Row) → (row_beaten row).client ≡ row.client
client-beaten row = ap (λ (r : Row). r.client) (row_beaten-is row)

pub name-beaten : (row : Row) → (row_beaten row).name ≡ row.name
name-beaten row = ap (λ (r : Row). r.name) (row_beaten-is row)

pub kind-beaten : (row : Row) → (row_beaten row).kind ≡ row.kind
kind-beaten row = ap (λ (r : Row). r.kind) (row_beaten-is row)

pub attached-beaten : (row : Row) → (row_beaten row).attached ≡ row.attached
attached-beaten row = ap (λ (r : Row). r.attached) (row_beaten-is row)

pub values-beaten : (row : Row) → (row_beaten row).values ≡ row.values
values-beaten row = ap (λ (r : Row). r.values) (row_beaten-is row)

pub bindings-beaten : (row : Row) → (row_beaten row).bindings ≡ row.bindings
bindings-beaten row = ap (λ (r : Row). r.bindings) (row_beaten-is row)

pub link-beaten : (row : Row) → (row_beaten row).link ≡ row.link
link-beaten row = ap (λ (r : Row). r.link) (row_beaten-is row)

pub film-beaten : (row : Row) → (row_beaten row).film ≡ option_map film_beaten row.film
film-beaten row = ap (λ (r : Row). r.film) (row_beaten-is row)

pub LeavesNode-beaten : LeavesNode row_beaten
LeavesNode-beaten = record { client = client-beaten; name = name-beaten; kind = kind-beaten }

pub LeavesNames-beaten : LeavesNames row_beaten
LeavesNames-beaten = record { client = client-beaten; name = name-beaten }

-- whether it is admitted
pub is_admitted-beaten : (row : Row) → is_admitted (row_beaten row) ≡ is_admitted row
is_admitted-beaten row = ap (λ (r : Row). is_admitted r) (row_beaten-is row) ∙ by row.film
  where
    by : (o : Option FilmState) → option_map_or (λ (film : FilmState). nat_lt 0 film.period) (option_map film_beaten o) false ≡ option_map_or (λ (film : FilmState). nat_lt 0 film.period) o false
    by None = refl
    by (Some film) = ap (λ (period : ℕ). nat_lt 0 period) (film_beaten-keeps film).period

-- the named row, and its film
pub row_named-beaten : (rows : List Row) (client : ℕ) (name : List ℕ) → row_named (map row_beaten rows) client name ≡ option_map row_beaten (row_named rows client name)
row_named-beaten rows client name = row_named-map rows row_beaten client name LeavesNames-beaten

pub film_named-beaten : (rows : List Row) (client : ℕ) (name : List ℕ) → film_named (map row_beaten rows) client name ≡ option_map film_beaten (film_named rows client name)
film_named-beaten rows client name =
    ap (option_and_then (λ (row : Row). row.film)) (row_named-beaten rows client name) ∙ by (row_named rows client name)
  where
    by : (o : Option Row) → option_and_then (λ (row : Row). row.film) (option_map row_beaten o) ≡ option_map film_beaten (option_and_then (λ (row : Row). row.film) o)
    by None = refl
    by (Some row) = film-beaten row

-- the value of the Variable to which the row is linked
pub linked_value-beaten : (rows : List Row) (row : Row) → linked_value (map row_beaten rows) row ≡ linked_value rows row
unfolding linked_value
linked_value-beaten rows row = by row.link
  where
    value : (o : Option Row) → option_map (number_of Value) (option_map row_beaten o) ≡ option_map (number_of Value) o
    value None = refl
    value (Some other) = ap (λ (r : Row). Some (number_of Value r)) (row_beaten-is other)

    by : (o : Option (List ℕ)) → option_map (number_of Value) (option_and_then (row_named (map row_beaten rows) row.client) o) ≡ option_map (number_of Value) (option_and_then (row_named rows row.client) o)
    by None = refl
    by (Some name) = ap (option_map (number_of Value)) (row_named-beaten rows row.client name) ∙ value (row_named rows row.client name)

-- what layout asks of the row
abbrev size_of : ℕ → ℕ → ℕ × ℕ
size_of width height = (width, height)

abbrev film_size : Option FilmState → ℕ × ℕ
film_size film = option_map_or (λ (film : FilmState). size_of film.width film.height) film (size_of 16 16)

own_size-film : (rows : List Row) (row : Row) (kind : Kind) → own_size kind (map row_beaten rows) (with_film_changed film_beaten row) ≡ own_size kind rows row
unfolding linked_value
own_size-film rows row Window = refl
own_size-film rows row Grid = refl
own_size-film rows row Frame = refl
own_size-film rows row Button = refl
own_size-film rows row Label = ap (λ (value : Option ℤ). size_of (6 * length (label_text (text_of Text row) value) + 4) 12) (linked_value-beaten rows row)
own_size-film rows row Entry = refl
own_size-film rows row Scale = refl
own_size-film rows row Scrollbar = refl
own_size-film rows row Variable = refl
own_size-film rows row VScreen = by row.film
  where
    by : (o : Option FilmState) → film_size (option_map film_beaten o) ≡ film_size o
    by None = refl
    by (Some film) = let keeps = film_beaten-keeps film in ap₂ size_of keeps.width keeps.height

offset-film : (axis : Axis) (rows : List Row) (row : Row) → offset_of axis (map row_beaten rows) (with_film_changed film_beaten row) ≡ offset_of axis rows row
unfolding linked_value
offset-film Across rows row = refl
offset-film Down rows row = ap (λ (value : Option ℤ). frame_offset value (number_of Y row)) (linked_value-beaten rows row)

rules-film : (axis : Axis) (row : Row) → rules_of axis (with_film_changed film_beaten row) ≡ rules_of axis row
rules-film axis row = refl

pub MovesNothing-beaten : (rows : List Row) → MovesNothing row_beaten rows
MovesNothing-beaten rows =
    record {
      client = client-beaten;
      name = name-beaten;
      kind = kind-beaten;
      attached = attached-beaten;
      asks = λ i row there. record {
        size = ap (λ (r : Row). own_size row.kind (map row_beaten rows) r) (row_beaten-is row) ∙ own_size-film rows row row.kind;
        rules = λ axis. ap (λ (r : Row). rules_of axis r) (row_beaten-is row) ∙ rules-film axis row;
        offset = λ axis frame. ap (λ (r : Row). offset_of axis (map row_beaten rows) r) (row_beaten-is row) ∙ offset-film axis rows row;
        span = λ axis. ap (λ (r : Row). window_span axis r) (row_beaten-is row);
      };
    }
