-- Which pixels the bands of the roster's VScreens show after a beat: those that lie in a band.
use Rattle.std.proofs.Common.{◌≡◌, ℕ, ◌*◌, ◌/◌, ◌%◌, ℤ, pos, Bool, true, false, cond, not, ◌&&◌, ◌||◌, nat_lt, nat_eq, List, [], ◌∷◌, map, Option, Some, None, refl, sym, ap, ◌∙◌, subst, arith}
use Rattle.std.specs.List.{list_any, list_all, All, find, count_by, range_with_len}
use Rattle.std.specs.Option.{option_map, option_map_or, option_and_then}
use Rattle.std.specs.Str.{bytes_eq}
use Rattle.std.specs.Prelude.{IfSome}
use Rattle.std.specs.Cmp.{nat_eq_equiv}
use Rattle.std.specs.Cmp.Lexicographic.{nat_list_eq_equiv}
use Rattle.std.proofs.Math.Bool.{and-false}
use Rattle.std.proofs.lemmas.Bool.{true≢false, false≢true, and_parts, or_parts, eqb-true, ltb-true, false_from_ne_true}
use Rattle.std.proofs.Math.Nat.{mul_comm}
use Rattle.std.proofs.lemmas.List.Sums.{sum_by-cons}
use Rattle.std.proofs.lemmas.Slice.Eq.{bytes_eq-Decides}
use Rattle.geom_core.specs.Count.{count_in, screen_of, true_count, marks_on}
use Rattle.geom_core.proofs.ScreenLemmas.{true_count-marks_on}
use Rattle.vscreen_core.specs.declared.band.Band.{Band}
use Rattle.vscreen_core.specs.FilmState.{FilmState, IsFilm}
use Rattle.vscreen_core.specs.Band.{share_of}
use Rattle.vscreen_core.specs.Changes.{beaten, band_now, band_drawn}
use Rattle.vscreen_core.proofs.Periods.{band_was_drawn}
use Rattle.tree_core.specs.declared.id.Id.{Id}
use Rattle.tree_core.proofs.Listed.{All-at}
use Rattle.widget_model.specs.Rows.{Row}
use Rattle.widget_model.specs.Keys.{same_key, row_of}
use Rattle.widget_model.specs.Named.{row_named, has_name}
use Rattle.widget_model.specs.Trees.{is_admitted}
use Rattle.widget_model.specs.Widgets.{key_at}
use Rattle.widget_model.specs.Fitting.{IsFitFilm}
use Rattle.widget_model.proofs.Hanging.{find-element, all_at}
use Rattle.widget_model.proofs.Naming.{row_named-parts}
use Rattle.scene_model.specs.Scene.{Scene}
use Rattle.scene_model.specs.Showing.{place_of, top_of}
use Rattle.scene_model.specs.Bands.{lying_at, is_top, film_in_band, shows_band}
use Rattle.scene_model.specs.Bands as bands
use Rattle.desk_model.specs.Desk.{Desk, Admission, is_admission}
use Rattle.desk_model.specs.DeskFacts.{IsDesk, has_its_share, is_listed, AreAdmittedOnce}
use Rattle.desk_model.specs.Screens.{film_named}
use Rattle.desk_model.specs.Seen.{scene_of}
use Rattle.desk_model.specs.Beat.{beat, band_next, bands_next, in_band_of, in_band, band_count}
use Rattle.desk_model.proofs.BeatRows.{film_beaten, film_beaten-keeps, film_named-beaten}
use Rattle.machine_model.proofs.DamageKeys.{same_key-is, same_key-from}
use Rattle.scene_core.specs.declared.view.View.{View}
use Rattle.scene_core.specs.View as views
use Rattle.drawing_core.specs.Banding.{shows_a_band, AreOfOneEach}

list_any-map : {X Y : Type 0} (test : Y → Bool) (f : X → Y) (xs : List X) → list_any test (map f xs) ≡ list_any (λ x. test (f x)) xs
list_any-map test f [] = refl
list_any-map test f (x ∷ xs) = ap (λ b. test (f x) || b) (list_any-map test f xs)

count_by-map : {X : Type 0} (f : X → Bool) (xs : List X) → true_count (map f xs) ≡ count_by f xs
count_by-map f [] = refl
count_by-map f (x ∷ xs) =
    omega (arith, sum_by-cons (λ (b : Bool). cond b 1 0) (f x) (map f xs), sum_by-cons (λ x. cond (f x) 1 0) x xs, count_by-map f xs)

-- the key of an admitted VScreen
abbrev key_in : Admission → ℕ × List ℕ
key_in admission = (admission.client, admission.name)

-- a film in a band, by the film that the key names
film_test : (test : FilmState → Bool) (o : Option Row) → option_map_or (λ (row : Row). option_map_or test row.film false) o false ≡ option_map_or test (option_and_then (λ (row : Row). row.film) o) false
film_test test None = refl
film_test test (Some row) = refl

abbrev lies_in : Scene → ℕ × List ℕ → Band → ℤ → ℤ → FilmState → Bool
lies_in scene key band x y film = bands.in_band (lying_at (place_of scene key) film.width film.height) band x y

film_in-named : (scene : Scene) (key : ℕ × List ℕ) (band : Band) (x y : ℤ) → film_in_band scene key band x y ≡ option_map_or (lies_in scene key band x y) (film_named scene.rows key.0 key.1) false
film_in-named scene key band x y = film_test (lies_in scene key band x y) (row_of scene.rows key)

-- a film that is admitted after a beat was admitted before it, and a beat keeps it admitted
admitted-beaten : (film : FilmState) → nat_lt 0 (film_beaten film).period ≡ nat_lt 0 film.period
admitted-beaten film = ap (λ n. nat_lt 0 n) (film_beaten-keeps film).period

-- the named film is a whole one
named_film : (rows : List Row) (client : ℕ) (name : List ℕ) (film : FilmState) → All IsFitFilm rows → film_named rows client name ≡ Some film → IsFilm film
named_film rows client name film fit named = by (row_named rows client name) refl named
  where
    whole : (o : Option FilmState) (kind : FilmState → Type 0) → o ≡ Some film → IfSome o (λ (f : FilmState). kind f × IsFilm f) → IsFilm film
    whole None kind is has = absurd (cc)
    whole (Some other) kind is has = subst IsFilm (let same : other ≡ film = cc in same) has.1

    by : (o : Option Row) → row_named rows client name ≡ o → option_and_then (λ (row : Row). row.film) o ≡ Some film → IsFilm film
    by None found is = absurd (cc)
    by (Some row) found is =
        let at = find-element (has_name client name) rows row found in
        whole row.film _ is (All-at IsFitFilm rows at.0 row fit at.1)

-- whether the pixel is one of an admitted film that lies there, in the band that it drew last
abbrev drawn_in : Scene → ℕ × List ℕ → ℤ → ℤ → FilmState → Bool
drawn_in scene key x y film = nat_lt 0 film.period && bands.in_band (lying_at (place_of scene key) film.width film.height) (band_drawn film) x y

-- of an admitted film it is the band that the beat draws
beaten_lies : (scene : Scene) (key : ℕ × List ℕ) (x y : ℤ) (film : FilmState) → nat_lt 0 film.period ≡ true → IsFilm film → lies_in scene key (band_now film) x y (film_beaten film) ≡ drawn_in scene key x y (film_beaten film)
beaten_lies scene key x y film admitted whole =
    let is : film_beaten film ≡ beaten film = ap {B = FilmState} (λ (b : Bool). cond b (beaten film) film) admitted in
    let still : nat_lt 0 (film_beaten film).period ≡ true = admitted-beaten film ∙ admitted in
    let band : band_drawn (film_beaten film) ≡ band_now film = ap band_drawn is ∙ band_was_drawn film whole (ltb-true 0 film.period admitted) in
    let place = lying_at (place_of scene key) (film_beaten film).width (film_beaten film).height in
    sym (ap (λ (b : Band). bands.in_band place b x y) band) ∙ sym (ap (λ t. t && bands.in_band place (band_drawn (film_beaten film)) x y) still)

-- the band that the roster's VScreen draws, where it lies
drawn_here : (desk : Desk) (admission : Admission) (x y : ℤ) → IsDesk desk → has_its_share desk.rows admission ≡ true → film_in_band (scene_of (beat desk)) (key_in admission) (band_next desk.rows admission) x y ≡ in_band_of (beat desk) (key_in admission) x y
unfolding beat
drawn_here desk admission x y is share =
    let key = key_in admission in
    let scene = scene_of (beat desk) in
    let named = film_named-beaten desk.rows key.0 key.1 in
    film_in-named scene key (band_next desk.rows admission) x y
    ∙ ap (λ (o : Option FilmState). option_map_or (lies_in scene key (band_next desk.rows admission) x y) o false) named
    ∙ by (film_named desk.rows key.0 key.1) refl share
    ∙ sym (ap (λ (o : Option FilmState). option_map_or (drawn_in scene key x y) o false) named)
  where
    by : (o : Option FilmState) → film_named desk.rows admission.client admission.name ≡ o → option_map_or (λ (film : FilmState). nat_lt 0 film.period && nat_eq admission.share (share_of film.width film.height film.period)) o false ≡ true
        → option_map_or (lies_in (scene_of (beat desk)) (key_in admission) (option_map_or band_now o (record { from = 0; to = 0 })) x y) (option_map film_beaten o) false ≡ option_map_or (drawn_in (scene_of (beat desk)) (key_in admission) x y) (option_map film_beaten o) false
    by None named has = refl
    by (Some film) named has =
        beaten_lies (scene_of (beat desk)) (key_in admission) x y film (and_parts (nat_lt 0 film.period) _ has).0 (named_film desk.rows admission.client admission.name film is.rows.films named)

-- an admission is of the VScreen with this key, said in two ways
admission-key : (client : ℕ) (name : List ℕ) (admission : Admission) → is_admission client name admission ≡ same_key (key_in admission) (client, name)
admission-key client name admission = λ i. nat_eq_equiv.symm client admission.client i && nat_list_eq_equiv.symm name admission.name i

any_key : (roster : List Admission) (key : ℕ × List ℕ) → list_any (is_admission key.0 key.1) roster ≡ list_any (λ (admission : Admission). same_key (key_in admission) key) roster
any_key roster key = λ i. list_any (λ (admission : Admission). admission-key key.0 key.1 admission i) roster

-- an admitted film has an admission
is_in_roster : (desk : Desk) (key : ℕ × List ℕ) (film : FilmState) → IsDesk desk → film_named desk.rows key.0 key.1 ≡ Some film → nat_lt 0 film.period ≡ true → list_any (λ (admission : Admission). same_key (key_in admission) key) desk.roster ≡ true
is_in_roster desk key film is named admitted = by (row_named desk.rows key.0 key.1) refl named
  where
    listed : (row : Row) (a b : Bool) → a ≡ true → (not a || b) ≡ true → b ≡ true
    listed row true b on h = h
    listed row false b on h = absurd (false≢true on)

    by : (o : Option Row) → row_named desk.rows key.0 key.1 ≡ o → option_and_then (λ (row : Row). row.film) o ≡ Some film → list_any (λ (admission : Admission). same_key (key_in admission) key) desk.roster ≡ true
    by None found has = absurd (cc)
    by (Some row) found has =
        let at = find-element (has_name key.0 key.1) desk.rows row found in
        let whole : is_admitted row ≡ true = ap (λ (o : Option FilmState). option_map_or (λ (film : FilmState). nat_lt 0 film.period) o false) has ∙ admitted in
        let there = listed row (is_admitted row) (list_any (is_admission row.client row.name) desk.roster) whole (all_at (is_listed desk.roster) desk.rows at.0 row is.roster.all at.1) in
        let names = row_named-parts desk.rows key.0 key.1 row found in
        sym (any_key desk.roster key) ∙ sym (λ i. list_any (is_admission (names.0 i) (names.1 i)) desk.roster) ∙ there

-- where a pixel is in a band of the VScreen, it has an admission
in_roster : (desk : Desk) (key : ℕ × List ℕ) (x y : ℤ) → IsDesk desk → in_band_of (beat desk) key x y ≡ true → list_any (λ (admission : Admission). same_key (key_in admission) key) desk.roster ≡ true
unfolding beat
in_roster desk key x y is shown =
    by (film_named desk.rows key.0 key.1) refl (sym (ap (λ (o : Option FilmState). option_map_or (drawn_in (scene_of (beat desk)) key x y) o false) (film_named-beaten desk.rows key.0 key.1)) ∙ shown)
  where
    by : (o : Option FilmState) → film_named desk.rows key.0 key.1 ≡ o → option_map_or (drawn_in (scene_of (beat desk)) key x y) (option_map film_beaten o) false ≡ true → list_any (λ (admission : Admission). same_key (key_in admission) key) desk.roster ≡ true
    by None named drawn = absurd (false≢true drawn)
    by (Some film) named drawn = is_in_roster desk key film is named (sym (admitted-beaten film) ∙ (and_parts (nat_lt 0 (film_beaten film).period) _ drawn).0)

either_one : (p q b some : Bool) (rest : Bool) → (p ≡ true → q ≡ b) → rest ≡ (some && b) → ((p && q) || rest) ≡ ((p || some) && b)
either_one true q true some rest h e = ap (λ t. t || rest) (h refl)
either_one true q false some rest h e = ap (λ t. t || rest) (h refl) ∙ e ∙ and-false some
either_one false q b some rest h e = e

any_of_one : {X : Type 0} (p q holds : X → Bool) (b : Bool) (xs : List X) → list_all holds xs ≡ true → ((x : X) → holds x ≡ true → p x ≡ true → q x ≡ b) → list_any (λ x. p x && q x) xs ≡ (list_any p xs && b)
any_of_one p q holds b [] all h = refl
any_of_one p q holds b (x ∷ xs) all h =
    let parts = and_parts (holds x) (list_all holds xs) all in
    either_one (p x) (q x) b (list_any p xs) (list_any (λ x. p x && q x) xs) (h x parts.0) (any_of_one p q holds b xs parts.1 h)

implied : (a b : Bool) → (b ≡ true → a ≡ true) → (a && b) ≡ b
implied true b h = refl
implied false true h = absurd (false≢true (h refl))
implied false false h = refl

-- a band that is handed out with a number, and one with a key
abbrev pub named_band : List (ℕ × Row) → Id × Band → Option (ℕ × List ℕ) × Band
named_band entries entry = (key_at entries entry.0.key, entry.1)

abbrev pub keyed_band : (ℕ × List ℕ) × Band → Option (ℕ × List ℕ) × Band
keyed_band drawn = (Some drawn.0, drawn.1)

-- the numbers and bands are those of the bands that the next beat draws
abbrev pub IsHanded : List (ℕ × Row) → List (Id × Band) → Desk → Type 0
IsHanded entries items desk = map (named_band entries) items ≡ map keyed_band (bands_next desk)

-- the same of equal numbered rows and of equal lists
pub handed_same : (entries entries' : List (ℕ × Row)) (items items' : List (Id × Band)) (desk : Desk) → entries' ≡ entries → items' ≡ items → IsHanded entries items desk → IsHanded entries' items' desk
handed_same entries entries' items items' desk rows bands handed = (λ i. map (named_band (rows i)) (bands i)) ∙ handed

-- whether the screen shows the band that the roster's VScreen draws
abbrev pub shows_of : Desk → Scene → ℤ → ℤ → Admission → Bool
shows_of desk scene x y admission = shows_band scene (key_in admission) (band_next desk.rows admission) x y

-- after a beat the roster's VScreens show their bands just where a band is
pub in_band-roster : (desk : Desk) (x y : ℕ) → IsDesk desk → list_any (shows_of desk (scene_of (beat desk)) (pos x) (pos y)) desk.roster ≡ in_band (beat desk) x y
unfolding shows_band in_band
in_band-roster desk x y is = by (top_of (scene_of (beat desk)) (pos x) (pos y))
  where
    same_there : (top : ℕ × List ℕ) (admission : Admission) → has_its_share desk.rows admission ≡ true → same_key (key_in admission) top ≡ true → film_in_band (scene_of (beat desk)) (key_in admission) (band_next desk.rows admission) (pos x) (pos y) ≡ in_band_of (beat desk) top (pos x) (pos y)
    same_there top admission share same =
        drawn_here desk admission (pos x) (pos y) is share ∙ ap (λ (key : ℕ × List ℕ). in_band_of (beat desk) key (pos x) (pos y)) (same_key-is (key_in admission) top same)

    by : (top : Option (ℕ × List ℕ)) → list_any (λ (admission : Admission). option_map_or (same_key (key_in admission)) top false && film_in_band (scene_of (beat desk)) (key_in admission) (band_next desk.rows admission) (pos x) (pos y)) desk.roster ≡ option_map_or (λ (key : ℕ × List ℕ). in_band_of (beat desk) key (pos x) (pos y)) top false
    by None = any_of_one (λ (admission : Admission). false) (λ (admission : Admission). film_in_band (scene_of (beat desk)) (key_in admission) (band_next desk.rows admission) (pos x) (pos y)) (has_its_share desk.rows) false desk.roster is.roster.shares (λ admission share off. absurd (false≢true off)) ∙ and-false (list_any (λ (admission : Admission). false) desk.roster)
    by (Some top) =
        any_of_one (λ (admission : Admission). same_key (key_in admission) top) (λ (admission : Admission). film_in_band (scene_of (beat desk)) (key_in admission) (band_next desk.rows admission) (pos x) (pos y)) (has_its_share desk.rows) (in_band_of (beat desk) top (pos x) (pos y)) desk.roster is.roster.shares (same_there top)
        ∙ implied (list_any (λ (admission : Admission). same_key (key_in admission) top) desk.roster) (in_band_of (beat desk) top (pos x) (pos y)) (in_roster desk top (pos x) (pos y) is)

-- the bands that were handed out are those of the roster's VScreens
pub bands-shown : (desk : Desk) (view : View) (items : List (Id × Band)) (x y : ℤ) → IsHanded view.tree.now.entries items desk
    → shows_a_band view items x y ≡ list_any (shows_of desk (views.scene_of view) x y) desk.roster
unfolding bands_next
bands-shown desk view items x y same =
    let scene = views.scene_of view in
    let test : Option (ℕ × List ℕ) × Band → Bool = λ drawn. option_map_or (λ (key : ℕ × List ℕ). shows_band scene key drawn.1 x y) drawn.0 false in
    sym (list_any-map test (named_band view.tree.now.entries) items)
    ∙ ap (list_any test) same
    ∙ list_any-map test keyed_band (bands_next desk)
    ∙ list_any-map (λ (drawn : (ℕ × List ℕ) × Band). shows_band scene drawn.0 drawn.1 x y) (λ (admission : Admission). (key_in admission, band_next desk.rows admission)) desk.roster

-- so are they shown by a view of the desk after the beat
pub shown_is_banded : (desk next : Desk) (view : View) (items : List (Id × Band)) → IsDesk desk → next ≡ beat desk → views.scene_of view ≡ scene_of next → IsHanded view.tree.now.entries items desk
    → (x y : ℕ) → shows_a_band view items (pos x) (pos y) ≡ in_band next x y
shown_is_banded desk next view items is beats shown handed x y =
    bands-shown desk view items (pos x) (pos y) handed
    ∙ ap (λ (s : Scene). list_any (shows_of desk s (pos x) (pos y)) desk.roster) (shown ∙ ap scene_of beats)
    ∙ in_band-roster desk x y is
    ∙ ap (λ (d : Desk). in_band d x y) (sym beats)

-- so many pixels lie in a band as show one
pub bands-counted : (desk : Desk) (view : View) (items : List (Id × Band)) → ((x y : ℕ) → shows_a_band view items (pos x) (pos y) ≡ in_band desk x y) → view.width ≡ desk.shape.width → view.height ≡ desk.shape.height → count_in (shows_a_band view items) (screen_of view.width view.height) ≡ band_count desk
unfolding band_count
bands-counted desk view items same width height =
    let w = desk.shape.width in
    let h = desk.shape.height in
    sym (true_count-marks_on (shows_a_band view items) view.width view.height)
    ∙ ap (λ n. true_count (marks_on (shows_a_band view items) n view.height)) width
    ∙ ap (λ n. true_count (marks_on (shows_a_band view items) w n)) height
    ∙ count_by-map (λ k. shows_a_band view items (pos (k % w)) (pos (k / w))) (range_with_len 0 (h * w))
    ∙ ap (λ n. count_by (λ k. shows_a_band view items (pos (k % w)) (pos (k / w))) (range_with_len 0 n)) (mul_comm h w)
    ∙ (λ i. count_by (λ k. same (k % w) (k / w) i) (range_with_len 0 (w * h)))

-- an admission's band
abbrev admitted_band : (Admission → Band) → Admission → (ℕ × List ℕ) × Band
admitted_band band admission = (key_in admission, band admission)

-- the number of a key that isn't admitted isn't among them
not_handed : (entries : List (ℕ × Row)) (band : Admission → Band) (key : ℕ × List ℕ) (id : ℕ) (items : List (Id × Band)) (roster : List Admission) → key_at entries id ≡ Some key → map (named_band entries) items ≡ map keyed_band (map (admitted_band band) roster)
    → list_any (is_admission key.0 key.1) roster ≡ false → list_any (λ (other : Id × Band). nat_eq id other.0.key) items ≡ false
not_handed entries band key id [] roster at same none = refl
not_handed entries band key id (entry ∷ items) [] at same none = absurd (cc)
not_handed entries band key id (entry ∷ items) (admission ∷ roster) at same none =
    let heads : named_band entries entry ≡ keyed_band (admitted_band band admission) = cc in
    let tails : map (named_band entries) items ≡ map keyed_band (map (admitted_band band) roster) = cc in
    let others = or_parts (is_admission key.0 key.1 admission) (list_any (is_admission key.0 key.1) roster) none in
    let here : nat_eq id entry.0.key ≡ false = false_from_ne_true (nat_eq id entry.0.key) (λ equal.
    let one : Some key ≡ Some (key_in admission) = sym at ∙ ap (key_at entries) (eqb-true id entry.0.key equal) ∙ ap (λ (b : Option (ℕ × List ℕ) × Band). b.0) heads in
    let keys : key_in admission ≡ key = cc in
    true≢false (sym (same_key-from (key_in admission) key keys) ∙ sym (admission-key key.0 key.1 admission) ∙ others.0)) in
    ap (λ t. t || list_any (λ (other : Id × Band). nat_eq id other.0.key) items) here ∙ not_handed entries band key id items roster at tails others.1

handed : (entries : List (ℕ × Row)) (band : Admission → Band) (items : List (Id × Band)) (roster : List Admission) → map (named_band entries) items ≡ map keyed_band (map (admitted_band band) roster) → AreAdmittedOnce roster → AreOfOneEach items
handed entries band [] roster same once = tt
handed entries band (entry ∷ items) [] same once = absurd (cc)
handed entries band (entry ∷ items) (admission ∷ roster) same once =
    let heads : named_band entries entry ≡ keyed_band (admitted_band band admission) = cc in
    let tails : map (named_band entries) items ≡ map keyed_band (map (admitted_band band) roster) = cc in (
      not_handed entries band (key_in admission) entry.0.key items roster (ap (λ (b : Option (ℕ × List ℕ) × Band). b.0) heads) tails once.0,
      handed entries band items roster tails once.1,
    )

-- no VScreen is handed out twice
pub handed_once : (entries : List (ℕ × Row)) (desk : Desk) (items : List (Id × Band)) → IsHanded entries items desk → AreAdmittedOnce desk.roster → AreOfOneEach items
unfolding bands_next
handed_once entries desk items same once = handed entries (band_next desk.rows) items desk.roster same once
