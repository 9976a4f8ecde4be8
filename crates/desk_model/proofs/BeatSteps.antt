-- A beat film by film: to beat each admitted VScreen once, in the order of admission, is the beat of the desk; and each
-- film is beaten as it was before the beat.
use Rattle.std.proofs.Common.{◌≡◌, ℕ, zero, suc, Bool, true, false, cond, ◌&&◌, ◌||◌, nat_eq, List, [], ◌∷◌, map, take, Option, Some, refl, sym, ap, ◌∙◌, slice_get}
use Rattle.std.proofs.lemmas.Bool.{or_parts, or_from}
use Rattle.std.specs.Cmp.{nat_eq_equiv}
use Rattle.std.specs.Cmp.Lexicographic.{nat_list_eq_equiv}
use Rattle.std.specs.List.{fold, list_any}
use Rattle.std.specs.Option.{option_map_or}
use Rattle.std.specs.Str.{bytes_eq}
use Rattle.vscreen_core.specs.Changes.{beaten, band_now}
use Rattle.widget_model.specs.Rows.{Row}
use Rattle.widget_model.specs.Named.{has_name, row_named, with_named, AreNamedApart}
use Rattle.widget_model.specs.Trees.{is_admitted}
use Rattle.widget_model.proofs.Hanging.{none_at, IsNamed-from, changed, row_named-own, row_named-changed_other}
use Rattle.desk_model.specs.Desk.{Desk, Admission, is_admission}
use Rattle.desk_model.specs.Screens.{film_named, with_film_changed, roster_limit}
use Rattle.desk_model.specs.DeskFacts.{AreAdmittedOnce, IsRosterOf, IsDesk}
use Rattle.desk_model.specs.Beat.{row_beaten, band_next, beat}
use Rattle.desk_model.proofs.Rosters.{film_in}
use Rattle.desk_model.proofs.Admissions.{is_admission-turned}
use Rattle.desk_model.proofs.FilmNames.{LeavesNames-film, listed_where_admitted}

-- the rows with the film of one VScreen beaten, and with those of several, one after another
abbrev pub beaten_one : List Row → Admission → List Row
beaten_one rows admission = with_named admission.client admission.name (with_film_changed beaten) rows

abbrev pub beaten_along : List Row → List Admission → List Row
beaten_along rows roster = fold beaten_one rows roster

-- a name that isn't among them stays
pub row_named-beaten_along : (roster : List Admission) (rows : List Row) (client : ℕ) (name : List ℕ) → list_any (is_admission client name) roster ≡ false → row_named (beaten_along rows roster) client name ≡ row_named rows client name
row_named-beaten_along [] rows client name none = refl
row_named-beaten_along (admission ∷ roster) rows client name none =
    let parts = or_parts (is_admission client name admission) (list_any (is_admission client name) roster) none in
    let differs : (nat_eq admission.client client && bytes_eq admission.name name) ≡ false = rw (nat_eq_equiv.symm admission.client client, nat_list_eq_equiv.symm admission.name name) parts.0 in
    row_named-beaten_along roster (beaten_one rows admission) client name parts.1
    ∙ row_named-changed_other rows admission.client admission.name (with_film_changed beaten) client name (LeavesNames-film beaten) differs

-- an admission isn't among those before it
pub once-before : (roster : List Admission) (i : ℕ) (admission : Admission) → AreAdmittedOnce roster → slice_get roster i ≡ Some admission → list_any (is_admission admission.client admission.name) (take i roster) ≡ false
once-before [] i admission once there = absurd (cc)
once-before (first ∷ roster) zero admission once there = refl
once-before (first ∷ roster) (suc i) admission once there =
    or_from _ _ (is_admission-turned admission first ∙ none_at (is_admission first.client first.name) roster i admission once.0 there) (once-before roster i admission once.1 there)

-- so each film is beaten as it was, and draws the band that it was to draw
pub film_named-beaten_along : (rows : List Row) (roster : List Admission) (i : ℕ) (admission : Admission) → AreAdmittedOnce roster → slice_get roster i ≡ Some admission → film_named (beaten_along rows (take i roster)) admission.client admission.name ≡ film_named rows admission.client admission.name
film_named-beaten_along rows roster i admission once there =
    ap film_in (row_named-beaten_along (take i roster) rows admission.client admission.name (once-before roster i admission once there))

pub band_next-beaten_along : (rows : List Row) (roster : List Admission) (i : ℕ) (admission : Admission) → AreAdmittedOnce roster → slice_get roster i ≡ Some admission → band_next (beaten_along rows (take i roster)) admission ≡ band_next rows admission
band_next-beaten_along rows roster i admission once there =
    ap (λ film. option_map_or band_now film (record { from = 0; to = 0 })) (film_named-beaten_along rows roster i admission once there)

map-same : {X Y : Type 0} (f g : X → Y) (xs : List X) → ((i : ℕ) (x : X) → slice_get xs i ≡ Some x → f x ≡ g x) → map f xs ≡ map g xs
map-same f g [] each = refl
map-same f g (x ∷ xs) each = rw (each zero x refl, map-same f g xs (λ i y there. each (suc i) y there)) refl

pub map-twice : {X Y Z : Type 0} (g : Y → Z) (f : X → Y) (xs : List X) → map g (map f xs) ≡ map (λ x. g (f x)) xs
map-twice g f [] = refl
map-twice g f (x ∷ xs) = ap (λ ys. g (f x) ∷ ys) (map-twice g f xs)

-- the row with its film beaten, where it has one of these admissions
abbrev beaten_among : List Admission → Row → Row
beaten_among roster row = cond (list_any (is_admission row.client row.name) roster) (with_film_changed beaten row) row

-- those of several are beaten at once
at_once : (roster : List Admission) (rows : List Row) → AreAdmittedOnce roster → beaten_along rows roster ≡ map (beaten_among roster) rows
at_once [] rows once = sym (whole rows)
  where
    whole : (rows : List Row) → map (beaten_among []) rows ≡ rows
    whole [] = refl
    whole (row ∷ rows) = ap (λ others. row ∷ others) (whole rows)
at_once (admission ∷ roster) rows once =
    at_once roster (beaten_one rows admission) once.1
    ∙ map-twice (beaten_among roster) (changed admission.client admission.name (with_film_changed beaten)) rows
    ∙ map-same (λ row. beaten_among roster (changed admission.client admission.name (with_film_changed beaten) row)) (beaten_among (admission ∷ roster)) rows (λ i row there. each row (has_name admission.client admission.name row) refl)
  where
    turned : (row : Row) → is_admission row.client row.name admission ≡ has_name admission.client admission.name row
    turned row = rw (nat_eq_equiv.symm row.client admission.client, nat_list_eq_equiv.symm row.name admission.name) refl

    each : (row : Row) (b : Bool) → has_name admission.client admission.name row ≡ b → beaten_among roster (cond b (with_film_changed beaten row) row) ≡ beaten_among (admission ∷ roster) row
    each row true named =
        let is = IsNamed-from admission.client admission.name row named in
        let none : list_any (is_admission row.client row.name) roster ≡ false = rw (is.client_is, is.name_is) once.0 in
        ap (λ (b : Bool). cond b (with_film_changed beaten (with_film_changed beaten row)) (with_film_changed beaten row)) none
        ∙ sym (ap (λ (b : Bool). cond (b || list_any (is_admission row.client row.name) roster) (with_film_changed beaten row) row) (turned row ∙ named))
    each row false named = sym (ap (λ (b : Bool). cond (b || list_any (is_admission row.client row.name) roster) (with_film_changed beaten row) row) (turned row ∙ named))

-- all admitted VScreens, one after another, are the beat's
pub beaten_along-all : (limit : ℕ) (rows : List Row) (roster : List Admission) → AreNamedApart rows → IsRosterOf limit rows roster → beaten_along rows roster ≡ map row_beaten rows
beaten_along-all limit rows roster apart kept =
    at_once roster rows kept.once ∙ map-same (beaten_among roster) row_beaten rows (λ i row there. ap (λ (b : Bool). cond b (with_film_changed beaten row) row) (same i row there))
  where
    same : (i : ℕ) (row : Row) → slice_get rows i ≡ Some row → list_any (is_admission row.client row.name) roster ≡ is_admitted row
    same i row there = listed_where_admitted limit rows roster row.client row.name kept ∙ ap (λ (o : Option Row). option_map_or is_admitted o false) (row_named-own rows i row apart there)

pub beat-along : (desk : Desk) → IsDesk desk → record desk { rows = beaten_along desk.rows desk.roster } ≡ beat desk
unfolding beat
beat-along desk is = ap (λ (rows : List Row). record desk { rows = rows }) (beaten_along-all (roster_limit desk) desk.rows desk.roster is.rows.names is.roster)
