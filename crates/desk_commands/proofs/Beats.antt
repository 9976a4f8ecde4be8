-- A beat of a desk's parts, VScreen by VScreen: what each step leaves, and the bands that are handed out.
use Rattle.std.proofs.Common.{◌≡◌, ◌≢◌, ℕ, ◌+◌, ◌≤◌, Bool, true, false, cond, nat_eq, nat_lt, is_some, List, [], ◌∷◌, ◌++◌, length, map, take, slice_get, AllPairs, Option, Some, None, refl, sym, ap, ap₂, ◌∙◌, arith}
use Rattle.std.specs.Prelude.{All, IsSome}
use Rattle.std.specs.List.{list_all}
use Rattle.std.specs.Option.{option_map, option_map_or}
use Rattle.std.proofs.lemmas.Bool.{true≢false, ne_eqb, ltb-true}
use Rattle.std.proofs.lemmas.List.{take_more, take_all, length_push, map-append}
use Rattle.std.proofs.lemmas.List.Elements.{All-nil, All-cons}
use Rattle.std.proofs.lemmas.Option.{slice_get_within, get_or_from_slice_get}
use Rattle.admit_core.specs.Roster.{RosterState}
use Rattle.vscreen_core.specs.declared.band.Band.{Band}
use Rattle.vscreen_core.specs.FilmState.{FilmState}
use Rattle.vscreen_core.specs.Changes.{beaten, band_now}
use Rattle.vscreen_core.proofs.Periods.{beaten_keeps}
use Rattle.widget_model.specs.Rows.{Row}
use Rattle.widget_model.specs.Nodes.{Node, node_at, id_named}
use Rattle.widget_model.specs.Keys.{key_of}
use Rattle.widget_model.specs.Trees.{is_admitted}
use Rattle.widget_model.specs.Fitting.{IsFitFilm}
use Rattle.widget_model.specs.Widgets.{Widgets, IsLive, nodes, rows_of, row_at, with_row, key_at, edited}
use Rattle.widget_model.specs.Forest.{IsWidgets}
use Rattle.widget_model.proofs.Hanging.{all_at, all_from}
use Rattle.widget_model.proofs.Naming.{id_named-row, rows-with_row}
use Rattle.row_store.proofs.UnderNumbers.{row_at-with_row}
use Rattle.tree_core.specs.declared.id.Id.{Id}
use Rattle.tree_core.proofs.ForestLemmas.{nodes-with_row}
use Rattle.tree_core.proofs.Listed.{All-at, numbered_place, row_named-row}
use Rattle.scene_core.proofs.LeastSteps.{apart}
use Rattle.desk_model.specs.Desk.{Admission}
use Rattle.desk_model.specs.Screens.{film_named, with_film_changed}
use Rattle.desk_model.specs.Beat.{row_beaten, band_next, bands_next, beat}
use Rattle.desk_model.proofs.Rosters.{film_in}
use Rattle.desk_model.proofs.BeatSteps.{beaten_one, beaten_along, beaten_along-all}
use Rattle.desk_layout.proofs.KeyNumbers.{key_at-node}
use Rattle.desk_commands.specs.Parts.{Stage, title_at, windows_at, admission_at, admissions_at, names_admitted}
use Rattle.desk_commands.specs.Beating.{listed_desk, ListsEach, HasPeriod, named_band, bands_named, keyed_band, bands_keyed}
use Rattle.desk_commands.proofs.Admissions.{admissions-push, film-screen}
use Rattle.desk_commands.proofs.Effects.{found-live}
use Rattle.desk_commands.proofs.WindowSteps.{found-title}

-- the band that the beat of an admission draws, with its VScreen's key
abbrev pub drawn_by : List Row → Admission → (ℕ × List ℕ) × Band
drawn_by rows admission = ((admission.client, admission.name), band_next rows admission)

-- What is so after so many of the roster's films were beaten.
pub record BeatenTo (old now : Widgets) (entries : List (ℕ × ℕ)) (count : ℕ) (bands : List (Id × Band)) : Type 0 where
  pub rows : rows_of now ≡ beaten_along (rows_of old) (admissions_at (nodes old.entries) (take count entries))
  pub same : nodes now.entries ≡ nodes old.entries
  pub later : (i : ℕ) (entry : ℕ × ℕ) → count ≤ i → slice_get entries i ≡ Some entry → row_at now.entries entry.0 ≡ row_at old.entries entry.0
  pub drawn : bands_named old.entries bands ≡ bands_keyed (map (drawn_by (rows_of old)) (admissions_at (nodes old.entries) (take count entries)))
  pub long : length bands ≡ count
  pub admitted : list_all (names_admitted now.entries) entries ≡ true
  pub clients : now.clients ≡ old.clients
  pub places : now.places ≡ old.places
  pub valid : IsWidgets now

pub beaten_none : (old : Widgets) (entries : List (ℕ × ℕ)) → IsWidgets old → list_all (names_admitted old.entries) entries ≡ true → BeatenTo old old entries 0 []
beaten_none old entries valid admitted = record { rows = refl; same = refl; later = λ i entry low there. refl; drawn = refl; long = refl; admitted = admitted; clients = refl; places = refl; valid = valid }

-- one more of the first ones
take-one : {X : Type 0} (xs : List X) (i : ℕ) (x : X) → slice_get xs i ≡ Some x → take (i + 1) xs ≡ take i xs ++ x ∷ []
take-one xs i x there = take_more xs i x (slice_get_within xs i x there) ∙ ap (λ y. take i xs ++ y ∷ []) (get_or_from_slice_get xs i x x there)

beaten_along-push : (roster : List Admission) (rows : List Row) (admission : Admission) → beaten_along rows (roster ++ admission ∷ []) ≡ beaten_one (beaten_along rows roster) admission
beaten_along-push [] rows admission = refl
beaten_along-push (first ∷ roster) rows admission = beaten_along-push roster (beaten_one rows first) admission

-- the row of an admitted number, and its film
pub admitted-row : (es : List (ℕ × Row)) (entry : ℕ × ℕ) → names_admitted es entry ≡ true → (row : Row) × (row_at es entry.0 ≡ Some row) × (is_admitted row ≡ true)
admitted-row es entry admitted = by (row_at es entry.0) refl admitted
  where
    by : (o : Option Row) → row_at es entry.0 ≡ o → option_map_or is_admitted o false ≡ true → (row : Row) × (row_at es entry.0 ≡ Some row) × (is_admitted row ≡ true)
    by None p h = absurd (true≢false (sym h))
    by (Some row) p h = (row, p, h)

pub has_period : (w : Widgets) (entry : ℕ × ℕ) → IsWidgets w → names_admitted w.entries entry ≡ true → HasPeriod w entry.0
has_period w entry valid admitted = by found.0.film refl found.2
  where
    found : (row : Row) × (row_at w.entries entry.0 ≡ Some row) × (is_admitted row ≡ true)
    found = admitted-row w.entries entry admitted

    fit : IsFitFilm found.0
    fit = let place = numbered_place w.entries entry.0 found.0 found.1 in All-at IsFitFilm (rows_of w) place.0 found.0 valid.rows.films place.1

    by : (o : Option FilmState) → found.0.film ≡ o → option_map_or (λ (film : FilmState). nat_lt 0 film.period) o false ≡ true → HasPeriod w entry.0
    by None p h = absurd (true≢false (sym h))
    by (Some film) p h =
        record { own = record { row = found.0; film = film; there = found.1; kind = film-screen found.0 fit found.2; has = p }; some = omega (arith, ltb-true 0 film.period h) }

-- a VScreen whose film was beaten is admitted still
is_admitted-one : (row : Row) → is_admitted (with_film_changed beaten row) ≡ is_admitted row
is_admitted-one row = by row.film
  where
    by : (o : Option FilmState) → option_map_or (λ (film : FilmState). nat_lt 0 film.period) (option_map beaten o) false ≡ option_map_or (λ (film : FilmState). nat_lt 0 film.period) o false
    by None = refl
    by (Some film) = ap (λ (period : ℕ). nat_lt 0 period) (beaten_keeps film).period

names_admitted-one : (es : List (ℕ × Row)) (id : ℕ) (entry : ℕ × ℕ) → names_admitted (with_row id (with_film_changed beaten) es) entry ≡ names_admitted es entry
names_admitted-one es id entry = ap (λ (o : Option Row). option_map_or is_admitted o false) (row_at-with_row es id (with_film_changed beaten) entry.0) ∙ by (nat_eq id entry.0) (row_at es entry.0)
  where
    by : (b : Bool) (o : Option Row) → option_map_or is_admitted (option_map (λ (row : Row). cond b (with_film_changed beaten row) row) o) false ≡ option_map_or is_admitted o false
    by b None = refl
    by true (Some row) = is_admitted-one row
    by false (Some row) = refl

other_row : (change : Row → Row) (b : Bool) (o : Option Row) → b ≡ false → option_map (λ (row : Row). cond b (change row) row) o ≡ o
other_row change true o h = absurd (true≢false h)
other_row change false None h = refl
other_row change false (Some row) h = refl

drawn-film : (o : Option FilmState) (band : Band) → option_map band_now o ≡ Some band → band ≡ option_map_or band_now o (record { from = 0; to = 0 })
drawn-film None band h = absurd (cc)
drawn-film (Some film) band h = let same : band_now film ≡ band = cc in sym same

-- one VScreen more
module _ (old now new : Widgets) (entries : List (ℕ × ℕ)) (i : ℕ) (entry : ℕ × ℕ) (id : Id) (band : Band) (bands : List (Id × Band))
    (sound : IsWidgets old) (own : AllPairs (λ (first second : ℕ × ℕ). first.0 ≢ second.0) entries) (all : list_all (names_admitted old.entries) entries ≡ true)
    (done : BeatenTo old now entries i bands) (there : slice_get entries i ≡ Some entry) (number : id.key ≡ entry.0)
    (left : new ≡ edited entry.0 (with_film_changed beaten) now) (draws : option_map (λ (row : Row). option_map band_now row.film) (row_at now.entries entry.0) ≡ Some (Some band)) (valid : IsWidgets new) where
  abbrev found : (row : Row) × (row_at old.entries entry.0 ≡ Some row) × (is_admitted row ≡ true)
  found = admitted-row old.entries entry (all_at (names_admitted old.entries) entries i entry all there)

  abbrev here_row : Row
  here_row = found.0

  here : row_at now.entries entry.0 ≡ Some here_row
  here = done.later i entry (omega arith) there ∙ found.1

  abbrev admission : Admission
  admission = admission_at (nodes old.entries) entry

  title : title_at (nodes old.entries) entry.0 ≡ (here_row.client, here_row.name)
  title = found-title old here_row.client here_row.name entry.0 here_row.kind (found-live old entry.0 here_row sound found.1)

  client_is : admission.client ≡ here_row.client
  client_is = ap (λ (t : ℕ × List ℕ). t.0) title

  name_is : admission.name ≡ here_row.name
  name_is = ap (λ (t : ℕ × List ℕ). t.1) title

  more : admissions_at (nodes old.entries) (take (i + 1) entries) ≡ admissions_at (nodes old.entries) (take i entries) ++ admission ∷ []
  more = ap (admissions_at (nodes old.entries)) (take-one entries i entry there) ∙ admissions-push (nodes old.entries) (take i entries) entry

  id_here : id_named (nodes now.entries) admission.client admission.name ≡ Some entry.0
  id_here = ap₂ (id_named (nodes now.entries)) client_is name_is ∙ id_named-row now.entries entry.0 here_row done.valid.rows.names here

  rows-one : rows_of new ≡ beaten_along (rows_of old) (admissions_at (nodes old.entries) (take (i + 1) entries))
  rows-one =
      ap (λ (w : Widgets). rows_of w) left
      ∙ rows-with_row now.entries admission.client admission.name entry.0 (with_film_changed beaten) done.valid.numbered.own_numbers done.valid.rows.names id_here
      ∙ ap (λ (rows : List Row). beaten_one rows admission) done.rows
      ∙ sym (beaten_along-push (admissions_at (nodes old.entries) (take i entries)) (rows_of old) admission)
      ∙ ap (beaten_along (rows_of old)) (sym more)

  differs : (j : ℕ) (other : ℕ × ℕ) → i + 1 ≤ j → slice_get entries j ≡ Some other → nat_eq entry.0 other.0 ≡ false
  differs j other low at =
      ne_eqb entry.0 other.0
      (λ same.
      own i j entry (omega (arith, low)) (slice_get_within entries j other at)
      (ap (λ (e : ℕ × ℕ). e.0) (get_or_from_slice_get entries i entry entry there) ∙ same ∙ sym (ap (λ (e : ℕ × ℕ). e.0) (get_or_from_slice_get entries j other entry at))))

  later-one : (j : ℕ) (other : ℕ × ℕ) → i + 1 ≤ j → slice_get entries j ≡ Some other → row_at new.entries other.0 ≡ row_at old.entries other.0
  later-one j other low at =
      ap (λ (w : Widgets). row_at w.entries other.0) left
      ∙ row_at-with_row now.entries entry.0 (with_film_changed beaten) other.0
      ∙ other_row (with_film_changed beaten) (nat_eq entry.0 other.0) (row_at now.entries other.0) (differs j other low at)
      ∙ done.later j other (omega (arith, low)) at

  key_is : key_at old.entries id.key ≡ Some (admission.client, admission.name)
  key_is =
      ap (key_at old.entries) number
      ∙ ap (option_map key_of) found.1
      ∙ ap₂ (λ (client : ℕ) (name : List ℕ). let key : ℕ × List ℕ = (client, name) in Some key) (sym client_is) (sym name_is)

  film_is : film_named (rows_of old) admission.client admission.name ≡ here_row.film
  film_is = ap₂ (film_named (rows_of old)) client_is name_is ∙ ap film_in (row_named-row old.entries entry.0 here_row sound.numbered.own_numbers sound.rows.names found.1)

  band_is : band ≡ band_next (rows_of old) admission
  band_is =
      let read : Some (option_map band_now here_row.film) ≡ Some (Some band) = ap (option_map (λ (r : Row). option_map band_now r.film)) (sym here) ∙ draws in
      let film : option_map band_now here_row.film ≡ Some band = cc in
      drawn-film here_row.film band film ∙ ap (λ (o : Option FilmState). option_map_or band_now o (record { from = 0; to = 0 })) (sym film_is)

  drawn-one : bands_named old.entries (bands ++ (id, band) ∷ []) ≡ bands_keyed (map (drawn_by (rows_of old)) (admissions_at (nodes old.entries) (take (i + 1) entries)))
  drawn-one =
      let before = admissions_at (nodes old.entries) (take i entries) in
      let last : named_band old.entries (id, band) ≡ keyed_band (drawn_by (rows_of old) admission) = ap₂ (λ (key : Option (ℕ × List ℕ)) (b : Band). (key, b)) key_is band_is in
      map-append (named_band old.entries) bands ((id, band) ∷ [])
      ∙ ap₂ (λ (xs : List (Option (ℕ × List ℕ) × Band)) (x : Option (ℕ × List ℕ) × Band). xs ++ x ∷ []) done.drawn last
      ∙ sym (map-append keyed_band (map (drawn_by (rows_of old)) before) (drawn_by (rows_of old) admission ∷ []))
      ∙ ap (map keyed_band) (sym (map-append (drawn_by (rows_of old)) before (admission ∷ [])))
      ∙ ap (λ (admissions : List Admission). bands_keyed (map (drawn_by (rows_of old)) admissions)) (sym more)

  admitted-one : list_all (names_admitted new.entries) entries ≡ true
  admitted-one =
      all_from (names_admitted new.entries) entries
      (λ j other at.
      ap (λ (w : Widgets). names_admitted w.entries other) left ∙ names_admitted-one now.entries entry.0 other ∙ all_at (names_admitted now.entries) entries j other done.admitted at)

  pub beaten_one_more : BeatenTo old new entries (i + 1) (bands ++ (id, band) ∷ [])
  beaten_one_more = record {
    rows = rows-one;
    same = ap (λ (w : Widgets). nodes w.entries) left ∙ nodes-with_row now.entries entry.0 (with_film_changed beaten) (λ r. refl) ∙ done.same;
    later = later-one;
    drawn = drawn-one;
    long = length_push bands (id, band) ∙ ap (λ (n : ℕ). n + 1) done.long;
    admitted = admitted-one;
    clients = ap (λ (w : Widgets). w.clients) left ∙ done.clients;
    places = ap (λ (w : Widgets). w.places) left ∙ done.places;
    valid = valid;
  }

-- bands with keys are those of live widgets
named-live : (w : Widgets) (items : List (Id × Band)) (drawn : List ((ℕ × List ℕ) × Band)) → bands_named w.entries items ≡ bands_keyed drawn → All (λ (entry : Id × Band). IsLive w entry.0.key) items
named-live w [] drawn h = All-nil (λ (entry : Id × Band). IsLive w entry.0.key)
named-live w (item ∷ items) [] h = absurd (cc)
named-live w (item ∷ items) (one ∷ drawn) h =
    let head : named_band w.entries item ≡ keyed_band one = cc in
    let rest : bands_named w.entries items ≡ bands_keyed drawn = cc in
    All-cons (λ (entry : Id × Band). IsLive w entry.0.key) item items (by (row_at w.entries item.0.key) (ap (λ (drawn : Option (ℕ × List ℕ) × Band). is_some drawn.0) head)) (named-live w items drawn rest)
  where
    by : (o : Option Row) → is_some (option_map key_of o) ≡ true → IsSome o
    by None h = absurd (true≢false (sym h))
    by (Some row) h = refl

-- What is so in the end.
module _ (old new : Widgets) (roster : RosterState) (count : ℕ) (bands : List (Id × Band)) (sound : IsWidgets old) (each : ListsEach old roster) (whole : length roster.entries ≤ count) (done : BeatenTo old new roster.entries count bands) where
  taken : take count roster.entries ≡ roster.entries
  taken = take_all count roster.entries whole

  rows_beaten : rows_of new ≡ map row_beaten (rows_of old)
  rows_beaten =
      done.rows
      ∙ ap (λ (entries : List (ℕ × ℕ)). beaten_along (rows_of old) (admissions_at (nodes old.entries) entries)) taken
      ∙ beaten_along-all roster.limit (rows_of old) (admissions_at (nodes old.entries) roster.entries) (apart old sound) each

  pub desk_beaten : (stage : Stage) (keys : List ℕ) → listed_desk stage new roster keys ≡ beat (listed_desk stage old roster keys)
  unfolding beat
  desk_beaten stage keys = λ i. record {
    shape = stage.shape;
    clients = done.clients i;
    rows = rows_beaten i;
    windows = windows_at (done.same i) keys;
    pointer = stage.pointer;
    roster = admissions_at (done.same i) roster.entries;
    rings = stage.rings;
  }

  key_same : (id : ℕ) → key_at new.entries id ≡ key_at old.entries id
  key_same id = key_at-node new.entries id ∙ ap (λ (ns : List (ℕ × Node)). option_map (λ (node : Node). (node.client, node.name)) (node_at ns id)) done.same ∙ sym (key_at-node old.entries id)

  named_same : (items : List (Id × Band)) → bands_named new.entries items ≡ bands_named old.entries items
  named_same [] = refl
  named_same (item ∷ items) = ap₂ (λ (key : Option (ℕ × List ℕ)) (rest : List (Option (ℕ × List ℕ) × Band)). (key, item.1) ∷ rest) (key_same item.0.key) (named_same items)

  pub bands_drawn : (stage : Stage) (keys : List ℕ) → bands_named new.entries bands ≡ bands_keyed (bands_next (listed_desk stage old roster keys))
  unfolding bands_next
  bands_drawn stage keys =
      named_same bands ∙ done.drawn ∙ ap (λ (entries : List (ℕ × ℕ)). bands_keyed (map (drawn_by (rows_of old)) (admissions_at (nodes old.entries) entries))) taken

  pub bands_live : All (λ (entry : Id × Band). IsLive new entry.0.key) bands
  bands_live = named-live new bands (map (drawn_by (rows_of old)) (admissions_at (nodes old.entries) (take count roster.entries))) (named_same bands ∙ done.drawn)

-- numbers are those of the nodes
numbers-nodes : (es : List (ℕ × Row)) → map (λ (e : ℕ × Row). e.0) es ≡ map (λ (e : ℕ × Node). e.0) (nodes es)
numbers-nodes [] = refl
numbers-nodes (e ∷ es) = ap (λ (rest : List ℕ). e.0 ∷ rest) (numbers-nodes es)

pub numbers-kept : (es fs : List (ℕ × Row)) → nodes fs ≡ nodes es → map (λ (e : ℕ × Row). e.0) fs ≡ map (λ (e : ℕ × Row). e.0) es
numbers-kept es fs same = numbers-nodes fs ∙ ap (map (λ (e : ℕ × Node). e.0)) same ∙ sym (numbers-nodes es)
