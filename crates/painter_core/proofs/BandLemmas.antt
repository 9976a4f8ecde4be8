-- A band and the scene: the pixels that are painted by trails are those at which the scene shows the band.
use Rattle.std.proofs.Common.{◌≡◌, ℕ, zero, suc, ◌<◌, ℤ, Bool, true, false, ◌&&◌, List, length, get_or, refl, sym, ap, subst, ◌∙◌, ◌⊎◌, inl, inr, arith}
use Rattle.std.specs.Prelude.{Option, Some, None, IfSome, nat_eq}
use Rattle.std.specs.Option.{option_map, option_map_or}
use Rattle.std.proofs.lemmas.Bool.{eqb-true}
use Rattle.std.proofs.lemmas.Bool.Decides.{nat_tests}
use Rattle.canvas_core.specs.Screen.{Screen}
use Rattle.geom_core.specs.declared.rectangle.Rect.{Rect}
use Rattle.geom_core.specs.Rect.{in_rect}
use Rattle.geom_core.specs.Pieces.{covers}
use Rattle.geom_core.specs.Count.{count_in, screen_of}
use Rattle.geom_core.proofs.CountLemmas.{count_in-same, count_rows-none}
use Rattle.vscreen_core.specs.declared.band.Band.{Band}
use Rattle.vscreen_core.specs.FilmState.{FilmState}
use Rattle.widget_model.specs.Rows.{Row}
use Rattle.widget_model.specs.Keys.{key_of, same_key}
use Rattle.widget_model.specs.Widgets.{row_at, IsLive}
use Rattle.widget_model.specs.Trees.{most_levels}
use Rattle.widget_model.specs.Forest.{IsWidgets}
use Rattle.scene_model.specs.Showing.{on_screen, place_of}
use Rattle.scene_core.specs.declared.view.View.{View}
use Rattle.scene_core.specs.View.{scene_of, IsView}
use Rattle.scene_core.proofs.OneNumber.{same_keys}
use Rattle.painter_core.specs.Banding.{view_shows_band}
use Rattle.scene_model.specs.Bands.{lying_at, in_band, is_top, film_in_band, shows_band}
use Rattle.painter_core.specs.Painted.{PaintsAll, wanted_of}
use Rattle.painter_core.specs.Painting.{ShowsScene}
use Rattle.painter_core.specs.Stage.{child_in_slot, layers_of, IsThere}
use Rattle.painter_core.specs.Trail.{trail, last_of, is_wanted}
use Rattle.painter_core.proofs.TrailLemmas.{Enters, Misses, trail-cases, trail-none}
use Rattle.painter_core.proofs.StageLemmas.{length-children, window-slot, child-slot}
use Rattle.painter_core.proofs.KeyLemmas.{row_of-number, place_of-number}
use Rattle.painter_core.proofs.RootLemmas.{windows_there, child_there, row_there}
use Rattle.painter_core.proofs.TopLemmas.{trail_of, IsTop, HasNoTop, tops}
use Rattle.painter_core.proofs.SceneLemmas.{first_way, first_way-whole, ShowsScene-painted}

-- what is in a slot of what is there is there
slot_there : (view : View) (under : Option ℕ) (slot id : ℕ) → IsWidgets view.tree.now → IsView view → IfSome under (IsThere view) → slot < length ((layers_of view).below under) → get_or ((layers_of view).below under) slot None ≡ Some id → IsThere view id
slot_there view None slot id valid is there within at =
    subst (λ (o : Option ℕ). IfSome o (IsThere view)) (sym (window-slot view slot) ∙ at) (windows_there view slot valid is.windows.each)
slot_there view (Some upper) slot id valid is there within at =
    let found : child_in_slot view.tree.now upper slot ≡ Some id = sym (child-slot view upper slot (omega (arith, within, length-children view upper))) ∙ at in
    child_there view upper slot id valid there found

-- a trail ends at a widget that is there
trail-there : (depth : ℕ) (view : View) (x y : ℤ) (under : Option ℕ) → IsWidgets view.tree.now → IsView view → IfSome under (IsThere view) → IfSome (last_of under (trail depth (layers_of view) ((layers_of view).below under) x y)) (IsThere view)
trail-there zero view x y under valid is there = subst (λ (ids : List ℕ). IfSome (last_of under ids) (IsThere view)) (sym (trail-none (layers_of view) ((layers_of view).below under) x y)) there
trail-there (suc depth) view x y under valid is there = by (λ id at. trail-there depth view x y (Some id) valid is at) (trail-cases (layers_of view) depth ((layers_of view).below under) x y)
  where
    by : ((id : ℕ) → IsThere view id → IfSome (last_of (Some id) (trail depth (layers_of view) ((layers_of view).below (Some id)) x y)) (IsThere view)) → Enters (layers_of view) depth ((layers_of view).below under) x y ⊎ Misses (layers_of view) depth ((layers_of view).below under) x y → IfSome (last_of under (trail (suc depth) (layers_of view) ((layers_of view).below under) x y)) (IsThere view)
    by deeper (inl e) = subst (λ (ids : List ℕ). IfSome (last_of under ids) (IsThere view)) (sym e.way) (deeper e.id (slot_there view under e.slot e.id valid is there e.within e.is))
    by deeper (inr m) = subst (λ (ids : List ℕ). IfSome (last_of under ids) (IsThere view)) (sym m.way) there

-- whether a pixel is wanted of one widget
abbrev is_wanted_at : View → ℕ → ℤ → ℤ → Bool
is_wanted_at view id x y = is_wanted (Some id) (last_of None (first_way view x y))

wanted_end : (id : ℕ) (top : Option ℕ) → is_wanted (Some id) top ≡ true → top ≡ Some id
wanted_end id None e = absurd (cc)
wanted_end id (Some top) e = ap Some (sym (eqb-true id top e))

wanted_there : (view : View) (id : ℕ) (x y : ℤ) → IsWidgets view.tree.now → IsView view → is_wanted_at view id x y ≡ true → IsThere view id
wanted_there view id x y valid is e =
    let ends = sym (ap (last_of None) (first_way-whole view x y)) ∙ wanted_end id (last_of None (first_way view x y)) e in
    subst (λ (o : Option ℕ). IfSome o (IsThere view)) ends (trail-there (suc most_levels) view x y None valid is tt)

-- a pixel is wanted exactly where the widget is on top
wanted_top : (view : View) (id : ℕ) (row : Row) (x y : ℤ) → IsWidgets view.tree.now → IsView view → row_at view.tree.now.entries id ≡ Some row → on_screen (scene_of view) x y ≡ true → is_wanted_at view id x y ≡ is_top (scene_of view) (key_of row) x y
wanted_top view id row x y valid is there on = by (tops view x y valid is on)
  where
    ends : (o : Option ℕ) → last_of None (trail_of view x y) ≡ o → is_wanted_at view id x y ≡ is_wanted (Some id) o
    ends o e = ap (λ (ids : List ℕ). is_wanted (Some id) (last_of None ids)) (first_way-whole view x y) ∙ ap (is_wanted (Some id)) e

    turned : (other : ℕ) → nat_eq id other ≡ nat_eq other id
    turned other = grind (arith, nat_tests)

    by : IsTop view x y ⊎ HasNoTop view x y → is_wanted_at view id x y ≡ is_top (scene_of view) (key_of row) x y
    by (inl t) =
        ends (Some t.id) t.ends
        ∙ turned t.id
        ∙ sym (same_keys view.tree.now id t.id row t.row valid there t.there)
        ∙ sym (ap (λ (o : Option (ℕ × List ℕ)). option_map_or (same_key (key_of row)) o false) t.top)
    by (inr t) = ends None t.ends ∙ sym (ap (λ (o : Option (ℕ × List ℕ)). option_map_or (same_key (key_of row)) o false) t.top)

-- the film of a numbered widget in a band, by its place
film_at_number : (view : View) (id : ℕ) (row : Row) (film : FilmState) (band : Band) (x y : ℤ) → IsWidgets view.tree.now → row_at view.tree.now.entries id ≡ Some row → row.film ≡ Some film → film_in_band (scene_of view) (key_of row) band x y ≡ in_band (lying_at ((layers_of view).rect id) film.width film.height) band x y
unfolding layers_of
film_at_number view id row film band x y valid there has =
    let scene = scene_of view in
    let key = key_of row in
    let test : FilmState → Bool = λ f. in_band (lying_at (place_of scene key) f.width f.height) band x y in
    ap (λ (o : Option Row). option_map_or (λ (r : Row). option_map_or test r.film false) o false) (row_of-number view.tree.now id row valid there)
    ∙ ap (λ (o : Option FilmState). option_map_or test o false) has
    ∙ ap (λ (place : Rect). in_band (lying_at place film.width film.height) band x y) (place_of-number view id row valid there)

view_shows : (view : View) (id : ℕ) (row : Row) (band : Band) (x y : ℤ) → row_at view.tree.now.entries id ≡ Some row → view_shows_band view id band x y ≡ (is_top (scene_of view) (key_of row) x y && film_in_band (scene_of view) (key_of row) band x y)
unfolding shows_band
view_shows view id row band x y there =
    ap (λ (o : Option Row). option_map_or (λ (key : ℕ × List ℕ). shows_band (scene_of view) key band x y) (option_map key_of o) false) there

where_wanted : (c a b w : Bool) → c ≡ (true && a) → (w ≡ true → a ≡ b) → (c && w) ≡ (w && b)
where_wanted c a b true e f = let g = f refl in grind arith
where_wanted c a b false e f = grind arith

-- What was painted of a live widget's film, and how it lies: parts of the screen that have the film's pixels in the band.
pub record IsBanded (view : View) (id : ℕ) (band : Band) (parts : List Rect) : Type 0 where
  pub row : Row
  pub film : FilmState
  pub at : Rect
  pub there : row_at view.tree.now.entries id ≡ Some row
  pub has : row.film ≡ Some film
  pub lies : IsThere view id → at ≡ lying_at ((layers_of view).rect id) film.width film.height
  pub pixels : (x y : ℤ) → covers parts x y ≡ (in_rect (screen_of view.width view.height) x y && in_band at band x y)

film_of : (view : View) (id : ℕ) (row : Row) (film : Option FilmState) → row_at view.tree.now.entries id ≡ Some row → option_map (λ (row : Row). row.film) (row_at view.tree.now.entries id) ≡ Some film → row.film ≡ film
film_of view id row film there read =
    let one : Some row.film ≡ Some film = sym (ap (option_map (λ (r : Row). r.film)) there) ∙ read in
    cc

-- what the tree says of a widget's film, and where it lies
pub IsBanded-film : (view : View) (id : ℕ) (band : Band) (parts items : List Rect) (film : FilmState) (read : Option FilmState) (at : Rect) → IsLive view.tree.now id → option_map (λ (row : Row). row.film) (row_at view.tree.now.entries id) ≡ Some read → read ≡ Some film → (IsThere view id → at ≡ lying_at ((layers_of view).rect id) film.width film.height) → ((x y : ℤ) → covers items x y ≡ (in_rect (screen_of view.width view.height) x y && in_band at band x y)) → parts ≡ items → IsBanded view id band parts
IsBanded-film view id band parts items film read at live has is lies pixels same =
    let row = row_there (row_at view.tree.now.entries id) live in
    record {
      row = row.0;
      film = film;
      at = at;
      there = row.1;
      has = film_of view id row.0 read row.1 has ∙ is;
      lies = lies;
      pixels = λ x y. ap (λ (rs : List Rect). covers rs x y) same ∙ pixels x y;
    }

pub no_film : (view : View) (id : ℕ) (row : Row) (read : Option FilmState) → row_at view.tree.now.entries id ≡ Some row → option_map (λ (row : Row). row.film) (row_at view.tree.now.entries id) ≡ Some read → read ≡ None → row.film ≡ None
no_film view id row read there has none = film_of view id row read there has ∙ none

-- the pixels of the parts that are wanted are those at which the scene shows the band
pub band_same : (view : View) (id : ℕ) (band : Band) (parts : List Rect) (x y : ℤ) → IsWidgets view.tree.now → IsView view → IsBanded view id band parts → on_screen (scene_of view) x y ≡ true → wanted_of (Some id) None (first_way view) (covers parts) x y ≡ view_shows_band view id band x y
band_same view id band parts x y valid is h on =
    where_wanted (covers parts x y) (in_band h.at band x y) (film_in_band (scene_of view) (key_of h.row) band x y) (is_wanted_at view id x y)
    (h.pixels x y ∙ ap (λ (t : Bool). t && in_band h.at band x y) on)
    (λ e. ap (λ (film : Rect). in_band film band x y) (h.lies (wanted_there view id x y valid is e)) ∙ sym (film_at_number view id h.row h.film band x y valid h.there h.has))
    ∙ ap (λ (t : Bool). t && film_in_band (scene_of view) (key_of h.row) band x y) (wanted_top view id h.row x y valid is h.there on)
    ∙ sym (view_shows view id h.row band x y h.there)

pub ShowsScene-band : (view : View) (id : ℕ) (band : Band) (parts : List Rect) (n : ℕ) (old new : Screen) → IsWidgets view.tree.now → IsView view → IsBanded view id band parts → old.width ≡ view.width → old.height ≡ view.height → PaintsAll (layers_of view) (Some id) None (first_way view) parts n old new → ShowsScene (view_shows_band view id band) (scene_of view) old new
ShowsScene-band view id band parts n old new valid is h width height a =
    ShowsScene-painted view (wanted_of (Some id) None (first_way view) (covers parts)) (view_shows_band view id band) n old new valid is width height (λ x y on. sym (band_same view id band parts x y valid is h on)) a.painted

-- parts of the screen lie on it
pub parts_on_screen : (view : View) (id : ℕ) (band : Band) (parts : List Rect) (x y : ℤ) → IsBanded view id band parts → covers parts x y ≡ true → in_rect (screen_of view.width view.height) x y ≡ true
parts_on_screen view id band parts x y h e = first (in_rect (screen_of view.width view.height) x y) (in_band h.at band x y) (sym (h.pixels x y) ∙ e)
  where
    first : (a b : Bool) → (a && b) ≡ true → a ≡ true
    first true b e = refl
    first false b e = e

pub band_counted : (view : View) (id : ℕ) (band : Band) (parts : List Rect) (n : ℕ) (old new : Screen) → IsWidgets view.tree.now → IsView view → IsBanded view id band parts → PaintsAll (layers_of view) (Some id) None (first_way view) parts n old new → n ≡ count_in (view_shows_band view id band) (screen_of view.width view.height)
band_counted view id band parts n old new valid is h a =
    a.counted (screen_of view.width view.height) (λ x y e. parts_on_screen view id band parts x y h e)
    ∙ count_in-same (wanted_of (Some id) None (first_way view) (covers parts)) (view_shows_band view id band) (screen_of view.width view.height) (λ x y on. band_same view id band parts x y valid is h on)

-- a widget without a film has no pixel in a band
no_film_shown : (view : View) (id : ℕ) (row : Row) (band : Band) (x y : ℤ) → IsWidgets view.tree.now → row_at view.tree.now.entries id ≡ Some row → row.film ≡ None → film_in_band (scene_of view) (key_of row) band x y ≡ false
no_film_shown view id row band x y valid there none =
    let scene = scene_of view in
    let key = key_of row in
    let test : FilmState → Bool = λ f. in_band (lying_at (place_of scene key) f.width f.height) band x y in
    ap (λ (o : Option Row). option_map_or (λ (r : Row). option_map_or test r.film false) o false) (row_of-number view.tree.now id row valid there)
    ∙ ap (λ (o : Option FilmState). option_map_or test o false) none

pub nothing_shown : (view : View) (id : ℕ) (row : Row) (band : Band) (x y : ℤ) → IsWidgets view.tree.now → row_at view.tree.now.entries id ≡ Some row → row.film ≡ None → view_shows_band view id band x y ≡ false
nothing_shown view id row band x y valid there none =
    view_shows view id row band x y there
    ∙ ap (λ (t : Bool). is_top (scene_of view) (key_of row) x y && t) (no_film_shown view id row band x y valid there none)
    ∙ and_none (is_top (scene_of view) (key_of row) x y)
  where
    and_none : (a : Bool) → (a && false) ≡ false
    and_none true = refl
    and_none false = refl

pub nothing_counted : (view : View) (id : ℕ) (row : Row) (band : Band) → IsWidgets view.tree.now → row_at view.tree.now.entries id ≡ Some row → row.film ≡ None → 0 ≡ count_in (view_shows_band view id band) (screen_of view.width view.height)
nothing_counted view id row band valid there none =
    let screen = screen_of view.width view.height in
    sym (count_rows-none (view_shows_band view id band) screen.x screen.w screen.y screen.h (λ x y. nothing_shown view id row band x y valid there none))
