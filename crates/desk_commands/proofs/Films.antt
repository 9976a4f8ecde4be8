-- The films of VScreens: whether two are the same, and what a command makes of one.
use Rattle.std.proofs.Common.{◌≡◌, ℕ, zero, suc, Bool, true, false, cond, not, ◌&&◌, ◌||◌, nat_eq, nat_lt, List, length, Option, Some, None, refl, sym, ap, ap₂, ◌∙◌, arith}
use Rattle.std.proofs.lemmas.Bool.{true≢false, and_parts, and_from, or_parts, eq-eqb, eqb-true, lt-ltb}
use Rattle.std.proofs.lemmas.Slice.Eq.{bytes_eq-Decides}
use Rattle.std.specs.Str.{bytes_eq}
use Rattle.std.specs.Option.{option_map, option_map_or}
use Rattle.kind_core.specs.declared.kinds.Kind.{Kind}
use Rattle.kind_core.specs.declared.kinds.Kind.TheVariants.{VScreen}
use Rattle.vscreen_core.specs.FilmState.{FilmState, pixels_in}
use Rattle.vscreen_core.specs.Changes.{committed, begun, settled}
use Rattle.widget_model.specs.Rows.{Row, with_film}
use Rattle.widget_model.specs.Widgets.{Widgets, row_at, row_kind, edited}
use Rattle.widget_model.specs.Trees.{is_admitted}
use Rattle.widget_model.specs.Forest.{IsWidgets}
use Rattle.desk_model.specs.Screens.{is_screen, with_film_changed, framed}
use Rattle.desk_commands.specs.Screens.{same_size, same_time, same_pictures, same_film, begins, keeps_film, HasFilm}
use Rattle.desk_commands.proofs.Edits.{edited-edited, row_kind-with_row}
use Rattle.desk_commands.proofs.TrackSteps.{edited-agree}

same_bytes : (xs ys : List ℕ) → bytes_eq xs ys ≡ true → xs ≡ ys
same_bytes xs ys = (bytes_eq-Decides xs ys).0

bytes_same : (xs : List ℕ) → bytes_eq xs xs ≡ true
bytes_same xs = (bytes_eq-Decides xs xs).1 refl

pub same_film-true : (one other : FilmState) → same_film one other ≡ true → one ≡ other
same_film-true one other h =
    let whole = and_parts (same_size one other) (same_time one other && same_pictures one other) h in
    let size = and_parts (nat_eq one.width other.width) (nat_eq one.height other.height) whole.0 in
    let rest = and_parts (same_time one other) (same_pictures one other) whole.1 in
    let time = and_parts (nat_eq one.period other.period) (nat_eq one.phase other.phase) rest.0 in
    let pictures = and_parts (bytes_eq one.newest other.newest) (bytes_eq one.current other.current && bytes_eq one.shown other.shown) rest.1 in
    let last = and_parts (bytes_eq one.current other.current) (bytes_eq one.shown other.shown) pictures.1 in
    let width = eqb-true one.width other.width size.0 in
    let height = eqb-true one.height other.height size.1 in
    let period = eqb-true one.period other.period time.0 in
    let phase = eqb-true one.phase other.phase time.1 in
    let newest = same_bytes one.newest other.newest pictures.0 in
    let current = same_bytes one.current other.current last.0 in
    let shown = same_bytes one.shown other.shown last.1 in
    λ i. record { width = width i; height = height i; newest = newest i; current = current i; shown = shown i; period = period i; phase = phase i }

pub same_film-own : (film : FilmState) → same_film film film ≡ true
same_film-own film =
    and_from _ _ (and_from _ _ (eq-eqb film.width film.width refl) (eq-eqb film.height film.height refl))
    (and_from _ _ (and_from _ _ (eq-eqb film.period film.period refl) (eq-eqb film.phase film.phase refl))
    (and_from _ _ (bytes_same film.newest) (and_from _ _ (bytes_same film.current) (bytes_same film.shown))))

-- a film that is admitted anew changes where it has another period or phase
pub begun-same : (film : FilmState) (period : ℕ) → begins film period ≡ false → begun film period ≡ film
unfolding begun
begun-same film period h =
    let parts = or_parts (not (nat_eq film.period period)) (not (nat_eq film.phase 0)) h in
    let one = eqb-true film.period period (by (nat_eq film.period period) parts.0) in
    let two = eqb-true film.phase 0 (by (nat_eq film.phase 0) parts.1) in
    ap₂ (λ (p q : ℕ). record film { period = p; phase = q }) (sym one) (sym two)
  where
    by : (b : Bool) → not b ≡ false → b ≡ true
    by true h = refl
    by false h = absurd (true≢false h)

pub begun-other : (film : FilmState) (period : ℕ) → begins film period ≡ true → begun film period ≡ film → ⊥
unfolding begun
begun-other film period h same =
    let one : nat_eq film.period period ≡ true = eq-eqb film.period period (sym (ap (λ (f : FilmState). f.period) same)) in
    let two : nat_eq film.phase 0 ≡ true = eq-eqb film.phase 0 (sym (ap (λ (f : FilmState). f.phase) same)) in
    true≢false (sym h ∙ ap₂ (λ (a b : Bool). not a || not b) one two)

-- a frame of the film's size is its newest, and is shown at once where it isn't admitted
pub framed-by : (frame : List ℕ) (film : FilmState) → length frame ≡ pixels_in film → framed frame film ≡ cond (nat_lt 0 film.period) (record film { newest = frame }) (record film { newest = frame; shown = frame; period = 0 })
unfolding committed settled
framed-by frame film size = rw (eq-eqb (length frame) (pixels_in film) size) refl

module _ (frame : List ℕ) (film : FilmState) (size : length frame ≡ pixels_in film) where
  idle : nat_lt 0 film.period ≡ false → film.period ≡ 0
  idle h = by film.period h
    where
      by : (n : ℕ) → nat_lt 0 n ≡ false → n ≡ 0
      by zero h = refl
      by (suc n) h = absurd (true≢false (sym (lt-ltb 0 (suc n) (omega arith)) ∙ h))

  pub framed-same : keeps_film film frame ≡ true → framed frame film ≡ film
  framed-same h = framed-by frame film size ∙ by (nat_lt 0 film.period) refl parts.1
    where
      parts : (bytes_eq film.newest frame ≡ true) × ((nat_lt 0 film.period || bytes_eq film.shown frame) ≡ true)
      parts = and_parts (bytes_eq film.newest frame) (nat_lt 0 film.period || bytes_eq film.shown frame) h

      newest : film.newest ≡ frame
      newest = same_bytes film.newest frame parts.0

      by : (b : Bool) → nat_lt 0 film.period ≡ b → (b || bytes_eq film.shown frame) ≡ true → cond b (record film { newest = frame }) (record film { newest = frame; shown = frame; period = 0 }) ≡ film
      by true q k = ap (λ (n : List ℕ). record film { newest = n }) (sym newest)
      by false q k =
          let shown = same_bytes film.shown frame k in
          let none = idle q in
          λ i. record film { newest = sym newest i; shown = sym shown i; period = sym none i }

  pub framed-other : keeps_film film frame ≡ false → framed frame film ≡ film → ⊥
  framed-other h same = by (nat_lt 0 film.period) refl
    where
      is : cond (nat_lt 0 film.period) (record film { newest = frame }) (record film { newest = frame; shown = frame; period = 0 }) ≡ film
      is = sym (framed-by frame film size) ∙ same

      newest : (b : Bool) → cond b (record film { newest = frame }) (record film { newest = frame; shown = frame; period = 0 }) ≡ film → bytes_eq film.newest frame ≡ true
      newest true k = ap (λ (f : FilmState). bytes_eq f.newest frame) (sym k) ∙ bytes_same frame
      newest false k = ap (λ (f : FilmState). bytes_eq f.newest frame) (sym k) ∙ bytes_same frame

      by : (b : Bool) → nat_lt 0 film.period ≡ b → ⊥
      by true q = true≢false (sym (and_from _ _ (newest (nat_lt 0 film.period) is) (ap (λ (b : Bool). b || bytes_eq film.shown frame) q)) ∙ h)
      by false q =
          let shown : bytes_eq film.shown frame ≡ true = ap (λ (f : FilmState). bytes_eq f.shown frame) (sym (sym (ap (λ (b : Bool). cond b (record film { newest = frame }) (record film { newest = frame; shown = frame; period = 0 })) q) ∙ is)) ∙ bytes_same frame in
          let either : (nat_lt 0 film.period || bytes_eq film.shown frame) ≡ true = ap₂ (λ (a b : Bool). a || b) q shown in
          true≢false (sym (and_from _ _ (newest (nat_lt 0 film.period) is) either) ∙ h)

-- a film of the row that changes, or doesn't
pub film_row-same : (row : Row) (film : FilmState) (change : FilmState → FilmState) → row.film ≡ Some film → change film ≡ film → with_film_changed change row ≡ row
film_row-same row film change has same = ap (λ (o : Option FilmState). with_film o row) (ap (option_map change) has ∙ ap Some same ∙ sym has)

pub film_row-other : (row : Row) (film : FilmState) (change : FilmState → FilmState) → row.film ≡ Some film → (change film ≡ film → ⊥) → with_film_changed change row ≡ row → ⊥
film_row-other row film change has other same =
    let both : Some (change film) ≡ Some film = sym (ap (option_map change) has) ∙ ap (λ (r : Row). r.film) same ∙ has in
    other (let one : change film ≡ film = cc in one)

-- a film that ends its admission is another then
pub settled-other : (row : Row) → is_admitted row ≡ true → with_film_changed settled row ≡ row → ⊥
unfolding settled
settled-other row admitted same = by row.film admitted (ap (λ (r : Row). r.film) same)
  where
    by : (o : Option FilmState) → option_map_or (λ (film : FilmState). nat_lt 0 film.period) o false ≡ true → option_map settled o ≡ o → ⊥
    by None h k = absurd (true≢false (sym h))
    by (Some film) h k =
        let one : settled film ≡ film = cc in
        true≢false (sym h ∙ ap (λ (f : FilmState). nat_lt 0 f.period) (sym one))

-- a film that is put in the place of another, which was told to be as it or not
pub mode_tells : (row : Row) (film : FilmState) (same changed : Bool) → option_map_or (λ (own : FilmState). same_film own film) row.film false ≡ same → changed ≡ not same → (changed ≡ true → with_film (Some film) row ≡ row → ⊥) × (changed ≡ false → with_film (Some film) row ≡ row)
mode_tells row film true changed is told = (λ h k. true≢false (sym h ∙ told), λ h. ap (λ (o : Option FilmState). with_film o row) (by row.film is))
  where
    by : (o : Option FilmState) → option_map_or (λ (own : FilmState). same_film own film) o false ≡ true → Some film ≡ o
    by None h = absurd (true≢false (sym h))
    by (Some own) h = ap Some (sym (same_film-true own film h))
mode_tells row film false changed is told = (
  λ h k. true≢false (sym (same_film-own film) ∙ sym (ap (λ (o : Option FilmState). option_map_or (λ (own : FilmState). same_film own film) o false) (sym (ap (λ (r : Row). r.film) k))) ∙ is),
  λ h. absurd (true≢false (sym told ∙ h)),
)

-- a film that is taken out, changed and put back is changed in its place
film_edited : (w mid new : Widgets) (key : ℕ) (row : Row) (film after : FilmState) (change : FilmState → FilmState) → IsWidgets w → row_at w.entries key ≡ Some row → row.film ≡ Some film → mid ≡ edited key (with_film None) w → after ≡ change film → new ≡ edited key (with_film (Some after)) mid → new ≡ edited key (with_film_changed change) w
film_edited w mid new key row film after change kept there has taken changes put =
    put
    ∙ ap (edited key (with_film (Some after))) taken
    ∙ edited-edited w key (with_film None) (with_film (Some after)) (with_film (Some after)) (λ r. refl)
    ∙ edited-agree w key (with_film (Some after)) (with_film_changed change) row kept there
    (ap (λ (f : FilmState). with_film (Some f) row) changes ∙ ap (λ (o : Option FilmState). with_film (option_map change o) row) (sym has))

pub film_changed : (w mid new : Widgets) (key : ℕ) (has : HasFilm w key) (film after : FilmState) (change : FilmState → FilmState) → IsWidgets w → option_map (λ (row : Row). row.film) (row_at w.entries key) ≡ Some (Some film) → mid ≡ edited key (with_film None) w → after ≡ change film → new ≡ edited key (with_film (Some after)) mid → new ≡ edited key (with_film_changed change) w
film_changed w mid new key has film after change kept read taken changes put =
    let own : Some has.row.film ≡ Some (Some film) = sym (ap (option_map (λ (row : Row). row.film)) has.there) ∙ read in
    let is : has.row.film ≡ Some film = cc in
    film_edited w mid new key has.row film after change kept has.there is taken changes put

-- a VScreen without its film is one still
pub still_screen : (w mid : Widgets) (key : ℕ) → HasFilm w key → mid ≡ edited key (with_film None) w → row_kind mid.entries key ≡ Some VScreen
still_screen w mid key has taken =
    ap (λ (v : Widgets). row_kind v.entries key) taken ∙ row_kind-with_row w.entries key (with_film None) key (λ row. refl) ∙ ap (option_map (λ (row : Row). row.kind)) has.there ∙ ap Some has.kind

-- what is read of the row that was found
pub read-row : {V : Type 0} (f : Row → V) (w : Widgets) (key : ℕ) (row : Row) (v : V) → row_at w.entries key ≡ Some row → option_map f (row_at w.entries key) ≡ Some v → f row ≡ v
read-row f w key row v there read =
    let one : Some (f row) ≡ Some v = ap (option_map f) (sym there) ∙ read in
    cc

pub screen-kind : (kind : Kind) → is_screen kind ≡ true → kind ≡ VScreen
screen-kind VScreen h = refl
screen-kind _ h = absurd (cc)
