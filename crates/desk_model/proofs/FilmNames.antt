-- The film of a named widget, after rows were changed, put last or left out.
use Rattle.std.proofs.Common.{◌≡◌, ℕ, Bool, true, false, cond, ◌&&◌, ◌||◌, not, nat_eq, is_some, List, [], ◌∷◌, ◌++◌, Option, Some, None, refl, sym, ap, ◌∙◌, slice_get, zero, suc}
use Rattle.std.proofs.lemmas.Bool.{true≢false, or_from}
use Rattle.std.proofs.lemmas.List.Folds.{find-append}
use Rattle.std.specs.List.{filter, list_any}
use Rattle.std.specs.Option.{option_map, option_map_or, option_or}
use Rattle.std.specs.Str.{bytes_eq}
use Rattle.vscreen_core.specs.FilmState.{FilmState}
use Rattle.widget_model.specs.Rows.{Row, with_film}
use Rattle.widget_model.specs.Named.{has_name, row_named, with_named}
use Rattle.widget_model.specs.Trees.{is_admitted}
use Rattle.widget_model.proofs.Hanging.{find-passes, find-element, all_at, LeavesNames, LeavesNames-changed, changed, IsNamed-row_named, row_named-map, row_named-changed_other, row_named-filter}
use Rattle.desk_model.specs.Desk.{Admission, is_admission}
use Rattle.desk_model.specs.Screens.{film_named, with_film_changed}
use Rattle.desk_model.specs.DeskFacts.{has_its_share, is_listed, IsRosterOf}
use Rattle.desk_model.proofs.Rosters.{has_share, film_in, IsAdmissionOf-from}
use Rattle.desk_model.proofs.KeptOut.{none_admitted}

pub LeavesNames-film : (change : FilmState → FilmState) → LeavesNames (with_film_changed change)
LeavesNames-film change = record { client = λ row. refl; name = λ row. refl }

-- a change of the named row's film is a change of the named film
pub film_named-changed : (rows : List Row) (client : ℕ) (name : List ℕ) (change : FilmState → FilmState) → film_named (with_named client name (with_film_changed change) rows) client name ≡ option_map change (film_named rows client name)
film_named-changed rows client name change =
    ap film_in (row_named-map rows (changed client name (with_film_changed change)) client name (LeavesNames-changed client name (with_film_changed change) (LeavesNames-film change)))
    ∙ by (row_named rows client name) refl
  where
    inside : (row : Row) (b : Bool) → b ≡ true → (cond b (with_film_changed change row) row).film ≡ option_map change row.film
    inside row true named = refl
    inside row false named = absurd (true≢false (sym named))

    by : (o : Option Row) → row_named rows client name ≡ o → film_in (option_map (changed client name (with_film_changed change)) o) ≡ option_map change (film_in o)
    by None found = refl
    by (Some row) found = inside row (has_name client name row) (find-passes (has_name client name) rows row found)

-- a film that is given to the named row, where there is one
pub film_named-given : (rows : List Row) (client : ℕ) (name : List ℕ) (film : Option FilmState) → is_some (row_named rows client name) ≡ true → film_named (with_named client name (with_film film) rows) client name ≡ film
film_named-given rows client name film there =
    ap film_in (row_named-map rows (changed client name (with_film film)) client name (LeavesNames-changed client name (with_film film) (record { client = λ row. refl; name = λ row. refl })))
    ∙ by (row_named rows client name) refl there
  where
    inside : (row : Row) (b : Bool) → b ≡ true → (cond b (with_film film row) row).film ≡ film
    inside row true named = refl
    inside row false named = absurd (true≢false (sym named))

    by : (o : Option Row) → row_named rows client name ≡ o → is_some o ≡ true → film_in (option_map (changed client name (with_film film)) o) ≡ film
    by None found there = absurd (true≢false (sym there))
    by (Some row) found there = inside row (has_name client name row) (find-passes (has_name client name) rows row found)

-- films of other names stay
pub film_named-other : (rows : List Row) (client : ℕ) (name : List ℕ) (change : Row → Row) (owner : ℕ) (other : List ℕ) → LeavesNames change → (nat_eq client owner && bytes_eq name other) ≡ false → film_named (with_named client name change rows) owner other ≡ film_named rows owner other
film_named-other rows client name change owner other leaves differs = ap film_in (row_named-changed_other rows client name change owner other leaves differs)

-- a change of a row that leaves films leaves each named one
pub film_named-left : (rows : List Row) (client : ℕ) (name : List ℕ) (change : Row → Row) (owner : ℕ) (other : List ℕ) → LeavesNames change → ((row : Row) → (change row).film ≡ row.film) → film_named (with_named client name change rows) owner other ≡ film_named rows owner other
film_named-left rows client name change owner other leaves same =
    ap film_in (row_named-map rows (changed client name change) owner other (LeavesNames-changed client name change leaves)) ∙ by (row_named rows owner other)
  where
    inside : (row : Row) (b : Bool) → (cond b (change row) row).film ≡ row.film
    inside row true = same row
    inside row false = refl

    by : (o : Option Row) → film_in (option_map (changed client name change) o) ≡ film_in o
    by None = refl
    by (Some row) = inside row (has_name client name row)

-- a row put last, without a film, adds none
pub film_named-push : (rows : List Row) (row : Row) (client : ℕ) (name : List ℕ) → row.film ≡ None → film_named (rows ++ row ∷ []) client name ≡ film_named rows client name
film_named-push rows row client name none = ap film_in (find-append (has_name client name) rows (row ∷ [])) ∙ by (row_named rows client name)
  where
    last : (b : Bool) → film_in (cond b (Some row) None) ≡ None
    last true = none
    last false = refl

    by : (o : Option Row) → film_in (option_or o (row_named (row ∷ []) client name)) ≡ film_in o
    by None = last (has_name client name row)
    by (Some other) = refl

-- a film whose name is kept is there still
pub film_named-filter : (test : ℕ → List ℕ → Bool) (rows : List Row) (client : ℕ) (name : List ℕ) → test client name ≡ true → film_named (filter (λ (row : Row). test row.client row.name) rows) client name ≡ film_named rows client name
film_named-filter test rows client name kept = ap film_in (row_named-filter test rows client name kept)

list_any-none : {X : Type 0} (p : X → Bool) (xs : List X) → ((i : ℕ) (x : X) → slice_get xs i ≡ Some x → p x ≡ false) → list_any p xs ≡ false
list_any-none p [] each = refl
list_any-none p (x ∷ xs) each = or_from _ _ (each zero x refl) (list_any-none p xs (λ i y there. each (suc i) y there))

-- The roster has an admission of a name exactly where it is that of an admitted VScreen.
pub listed_where_admitted : (limit : ℕ) (rows : List Row) (roster : List Admission) (client : ℕ) (name : List ℕ) → IsRosterOf limit rows roster → list_any (is_admission client name) roster ≡ option_map_or is_admitted (row_named rows client name) false
listed_where_admitted limit rows roster client name kept = by (row_named rows client name) refl
  where
    absent : row_named rows client name ≡ None → (i : ℕ) (admission : Admission) → slice_get roster i ≡ Some admission → (b : Bool) → is_admission client name admission ≡ b → b ≡ false
    absent found i admission there false named = refl
    absent found i admission there true named =
        let is = IsAdmissionOf-from client name admission named in
        let none : row_named rows admission.client admission.name ≡ None = rw (is.client_is, is.name_is) found in
        absurd (true≢false (sym (all_at (has_its_share rows) roster i admission kept.shares there) ∙ ap (λ (o : Option Row). has_share admission.share (film_in o)) none))

    inside : (row : Row) → row_named rows client name ≡ Some row → (b : Bool) → is_admitted row ≡ b → list_any (is_admission client name) roster ≡ b
    inside row found false free = list_any-none (is_admission client name) roster (none_admitted rows roster client name row found free kept.shares)
    inside row found true admitted =
        let place = find-element (has_name client name) rows row found in
        let is = IsNamed-row_named rows client name row found in
        let listed : is_listed roster row ≡ true = all_at (is_listed roster) rows place.0 row kept.all place.1 in
        let here : list_any (is_admission row.client row.name) roster ≡ true = sym (ap (λ (b : Bool). not b || list_any (is_admission row.client row.name) roster) admitted) ∙ listed in
        rw (← is.client_is, ← is.name_is) here

    by : (o : Option Row) → row_named rows client name ≡ o → list_any (is_admission client name) roster ≡ option_map_or is_admitted o false
    by None found = list_any-none (is_admission client name) roster (λ i admission there. absent found i admission there (is_admission client name admission) refl)
    by (Some row) found = inside row found (is_admitted row) refl
