-- What leaves the films that widgets show, and what changes that of one VScreen.
use Rattle.std.proofs.Common.{◌≡◌, ℕ, Bool, true, false, cond, ◌&&◌, not, nat_eq, List, [], ◌∷◌, ◌++◌, Option, Some, None, refl, sym, ap, ◌∙◌}
use Rattle.std.proofs.Math.Bool.{and-false}
use Rattle.std.proofs.lemmas.Bool.{true≢false, eqb-true, eq-eqb, and_parts, and_from}
use Rattle.std.proofs.lemmas.List.Folds.{find-append}
use Rattle.std.proofs.lemmas.Slice.Eq.{bytes_eq-Decides}
use Rattle.std.specs.Option.{option_map, option_map_or}
use Rattle.std.specs.Str.{bytes_eq}
use Rattle.vscreen_core.specs.FilmState.{FilmState}
use Rattle.widget_model.specs.Rows.{Row}
use Rattle.widget_model.specs.Named.{has_name, row_named, with_named, without_named}
use Rattle.widget_model.proofs.Hanging.{LeavesNames, changed, LeavesNames-changed, row_named-map, row_named-filter}
use Rattle.widget_model.proofs.Naming.{has_name-parts, row_named-parts}
use Rattle.touch_rules.specs.Films.{looks_alike, shown_film, ShowsAnew}

-- a widget that is there before and after shows the same film
pub record KeepFilms (old new : List Row) : Type 0 where
  pub each : (client : ℕ) (name : List ℕ) (before after : Row) → row_named old client name ≡ Some before → row_named new client name ≡ Some after → shown_film after ≡ shown_film before

pub KeepFilms-same : (rows : List Row) → KeepFilms rows rows
KeepFilms-same rows = record { each = each }
  where
    each : (client : ℕ) (name : List ℕ) (before after : Row) → row_named rows client name ≡ Some before → row_named rows client name ≡ Some after → shown_film after ≡ shown_film before
    each client name before after found found' =
        let one : Some after ≡ Some before = sym found' ∙ found in
        let same : after ≡ before = cc in
        ap shown_film same

-- a change of one row that leaves names and films
pub record LeavesFilm (change : Row → Row) : Type 0 where
  pub names : LeavesNames change
  pub film : (row : Row) → shown_film (change row) ≡ shown_film row

pub KeepFilms-named : (rows : List Row) (client : ℕ) (name : List ℕ) (change : Row → Row) → LeavesFilm change → KeepFilms rows (with_named client name change rows)
KeepFilms-named rows client name change leaves = record { each = each }
  where
    film : (row : Row) (b : Bool) → shown_film (cond b (change row) row) ≡ shown_film row
    film row true = leaves.film row
    film row false = refl

    each : (owner : ℕ) (other : List ℕ) (before after : Row) → row_named rows owner other ≡ Some before → row_named (with_named client name change rows) owner other ≡ Some after → shown_film after ≡ shown_film before
    each owner other before after found found' =
        let one : Some after ≡ Some (changed client name change before) = sym found' ∙ row_named-map rows (changed client name change) owner other (LeavesNames-changed client name change leaves.names) ∙ ap (option_map (changed client name change)) found in
        let same : after ≡ changed client name change before = cc in
        ap shown_film same ∙ film before (has_name client name before)

-- a row more
pub KeepFilms-push : (rows : List Row) (row : Row) → KeepFilms rows (rows ++ row ∷ [])
KeepFilms-push rows row = record { each = each }
  where
    each : (client : ℕ) (name : List ℕ) (before after : Row) → row_named rows client name ≡ Some before → row_named (rows ++ row ∷ []) client name ≡ Some after → shown_film after ≡ shown_film before
    each client name before after found found' =
        let one : Some after ≡ Some before = sym found' ∙ (find-append (has_name client name) rows (row ∷ []) ∙ rw found refl) in
        let same : after ≡ before = cc in
        ap shown_film same

-- a row less
row_named-without : (rows : List Row) (client : ℕ) (name : List ℕ) → row_named (without_named client name rows) client name ≡ None
row_named-without [] client name = refl
row_named-without (row ∷ rows) client name = by (row_named-without rows client name) (has_name client name row) refl
  where
    by : row_named (without_named client name rows) client name ≡ None → (b : Bool) → has_name client name row ≡ b → row_named (cond (not b) (row ∷ without_named client name rows) (without_named client name rows)) client name ≡ None
    by rest true e = rest
    by rest false e = rw e rest

pub KeepFilms-without : (rows : List Row) (client : ℕ) (name : List ℕ) → KeepFilms rows (without_named client name rows)
KeepFilms-without rows client name = record { each = each }
  where
    each : (owner : ℕ) (other : List ℕ) (before after : Row) → row_named rows owner other ≡ Some before → row_named (without_named client name rows) owner other ≡ Some after → shown_film after ≡ shown_film before
    each owner other before after found found' = by (nat_eq client owner && bytes_eq name other) refl
      where
        by : (b : Bool) → (nat_eq client owner && bytes_eq name other) ≡ b → shown_film after ≡ shown_film before
        by true e =
            let parts = and_parts (nat_eq client owner) (bytes_eq name other) e in
            let owner_is : owner ≡ client = sym (eqb-true client owner parts.0) in
            let name_is : other ≡ name = sym ((bytes_eq-Decides name other).0 parts.1) in
            let gone : row_named (without_named client name rows) owner other ≡ None = ap (λ (n : ℕ). row_named (without_named client name rows) n other) owner_is ∙ ap (row_named (without_named client name rows) client) name_is ∙ row_named-without rows client name in
            absurd (let none : Some after ≡ None = sym found' ∙ gone in cc)
        by false e =
            let one : Some after ≡ Some before = sym found' ∙ row_named-filter (λ (n : ℕ) (t : List ℕ). not (nat_eq client n && bytes_eq name t)) rows owner other (ap not e) ∙ found in
            let same : after ≡ before = cc in
            ap shown_film same

-- a film looks like itself
pub alike-own : (film : Option FilmState) → looks_alike film film ≡ true
alike-own None = refl
alike-own (Some film) =
    and_from (nat_eq film.width film.width) (nat_eq film.height film.height && bytes_eq film.shown film.shown)
    (eq-eqb film.width film.width refl)
    (and_from (nat_eq film.height film.height) (bytes_eq film.shown film.shown) (eq-eqb film.height film.height refl) ((bytes_eq-Decides film.shown film.shown).1 refl))

pub alike-same : (one two : Option FilmState) → two ≡ one → not (looks_alike one two) ≡ false
alike-same one two same = ap (λ (film : Option FilmState). not (looks_alike one film)) same ∙ ap not (alike-own one)

pub ShowsAnew-none : (client : ℕ) (old new : List Row) → KeepFilms old new → ShowsAnew client None old new
ShowsAnew-none client old new keeps = record { each = λ owner name before after found found'. alike-same (shown_film before) (shown_film after) (keeps.each owner name before after found found') ∙ sym (and-false (nat_eq client owner)) }

-- the named row's film is changed, and looks different where the test says so
pub ShowsAnew-named : (rows : List Row) (client : ℕ) (name : List ℕ) (change : Row → Row) (test : Bool) → LeavesNames change
    → ((row : Row) → row_named rows client name ≡ Some row → not (looks_alike (shown_film row) (shown_film (change row))) ≡ test)
    → ShowsAnew client (cond test (Some name) None) rows (with_named client name change rows)
ShowsAnew-named rows client name change test leaves looks = record { each = each }
  where
    each : (owner : ℕ) (other : List ℕ) (before after : Row) → row_named rows owner other ≡ Some before → row_named (with_named client name change rows) owner other ≡ Some after
        → not (looks_alike (shown_film before) (shown_film after)) ≡ (nat_eq client owner && option_map_or (λ one. bytes_eq one other) (cond test (Some name) None) false)
    each owner other before after found found' = by (has_name client name before) refl
      where
        one : Some after ≡ Some (changed client name change before)
        one = sym found' ∙ row_named-map rows (changed client name change) owner other (LeavesNames-changed client name change leaves) ∙ ap (option_map (changed client name change)) found

        same : after ≡ changed client name change before
        same = let e = one in cc

        parts : (before.client ≡ owner) × (before.name ≡ other)
        parts = row_named-parts rows owner other before found

        -- whether it is that widget
        is_it : (nat_eq client owner && bytes_eq name other) ≡ has_name client name before
        is_it = sym (λ i. nat_eq client (parts.0 i) && bytes_eq name (parts.1 i))

        tests : (t b : Bool) → (nat_eq client owner && bytes_eq name other) ≡ b → (b ≡ true → t ≡ test) → (b ≡ false → t ≡ false) → t ≡ (nat_eq client owner && option_map_or (λ one. bytes_eq one other) (cond test (Some name) None) false)
        tests t b it named stays = at test b it named stays
          where
            at : (test b : Bool) → (nat_eq client owner && bytes_eq name other) ≡ b → (b ≡ true → t ≡ test) → (b ≡ false → t ≡ false) → t ≡ (nat_eq client owner && option_map_or (λ one. bytes_eq one other) (cond test (Some name) None) false)
            at true true it named stays = named refl ∙ sym it
            at true false it named stays = stays refl ∙ sym it
            at false true it named stays = named refl ∙ sym (and-false (nat_eq client owner))
            at false false it named stays = stays refl ∙ sym (and-false (nat_eq client owner))

        by : (b : Bool) → has_name client name before ≡ b → not (looks_alike (shown_film before) (shown_film after)) ≡ (nat_eq client owner && option_map_or (λ one. bytes_eq one other) (cond test (Some name) None) false)
        by true e =
            let named = has_name-parts client name before e in
            let there : row_named rows client name ≡ Some before = sym (λ i. row_named rows (named.0 i) (named.1 i)) ∙ (λ i. row_named rows (parts.0 i) (parts.1 i)) ∙ found in
            let change_is : after ≡ change before = same ∙ ap (λ (b : Bool). cond b (change before) before) e in
            tests _ true (is_it ∙ e) (λ h. ap (λ (row : Row). not (looks_alike (shown_film before) (shown_film row))) change_is ∙ looks before there) (λ h. absurd (true≢false h))
        by false e =
            let stays : after ≡ before = same ∙ ap (λ (b : Bool). cond b (change before) before) e in
            tests _ false (is_it ∙ e) (λ h. absurd (true≢false (sym h))) (λ h. alike-same (shown_film before) (shown_film after) (ap shown_film stays))
