-- What holds of a roster when rows change, but for what is set aside for their films.
use Rattle.std.proofs.Common.{◌≡◌, ℕ, Bool, true, false, cond, ◌&&◌, not, ◌||◌, nat_eq, nat_lt, is_some, List, map, Option, Some, None, refl, sym, ap, ◌∙◌, slice_get}
use Rattle.std.proofs.lemmas.Bool.{eqb-true, and_parts, true≢false}
use Rattle.std.proofs.lemmas.List.Folds.{list_all-map}
use Rattle.std.proofs.lemmas.Slice.Eq.{bytes_eq-Decides}
use Rattle.std.specs.List.{list_any}
use Rattle.std.specs.Option.{option_map, option_map_or, option_and_then}
use Rattle.std.specs.Str.{bytes_eq}
use Rattle.vscreen_core.specs.FilmState.{FilmState}
use Rattle.vscreen_core.specs.Band.{share_of}
use Rattle.widget_model.specs.Rows.{Row}
use Rattle.widget_model.specs.Named.{has_name, row_named, with_named, AreNamedApart}
use Rattle.widget_model.specs.Trees.{is_admitted}
use Rattle.widget_model.proofs.Hanging.{find-element, all_at, all_from, LeavesNames, changed, LeavesNames-changed, row_named-map, row_named-only, row_named-changed_other}
use Rattle.desk_model.specs.Desk.{Admission, is_admission}
use Rattle.desk_model.specs.DeskFacts.{has_its_share, is_listed, IsRosterOf}

-- What is set aside for a film: its share, where it is admitted.
abbrev pub set_aside : FilmState → Option ℕ
set_aside film = cond (nat_lt 0 film.period) (Some (share_of film.width film.height film.period)) None

-- the same of a row
abbrev pub share_in : Row → Option ℕ
share_in row = option_and_then set_aside row.film

-- whether the share is that of the film of an admitted VScreen
abbrev pub has_share : ℕ → Option FilmState → Bool
has_share share film = option_map_or (λ film. nat_lt 0 film.period && nat_eq share (share_of film.width film.height film.period)) film false

abbrev pub film_in : Option Row → Option FilmState
film_in row = option_and_then (λ row. row.film) row

pub has_share-aside : (share : ℕ) (film : Option FilmState) → has_share share film ≡ option_map_or (nat_eq share) (option_and_then set_aside film) false
has_share-aside share None = refl
has_share-aside share (Some film) = by (nat_lt 0 film.period)
  where
    wanted : ℕ
    wanted = share_of film.width film.height film.period

    by : (b : Bool) → (b && nat_eq share wanted) ≡ option_map_or (nat_eq share) (cond b (Some wanted) None) false
    by true = refl
    by false = refl

-- rows of which the same is set aside have the same shares, and are admitted alike
pub has_share-same : (share : ℕ) (one two : Option Row) → option_and_then share_in one ≡ option_and_then share_in two → has_share share (film_in one) ≡ has_share share (film_in two)
has_share-same share one two same = of one ∙ ap (λ (o : Option ℕ). option_map_or (nat_eq share) o false) same ∙ sym (of two)
  where
    of : (row : Option Row) → has_share share (film_in row) ≡ option_map_or (nat_eq share) (option_and_then share_in row) false
    of None = refl
    of (Some row) = has_share-aside share row.film

pub is_admitted-aside : (row : Row) → is_admitted row ≡ is_some (share_in row)
is_admitted-aside row = by row.film
  where
    by : (film : Option FilmState) → option_map_or (λ (film : FilmState). nat_lt 0 film.period) film false ≡ is_some (option_and_then set_aside film)
    by None = refl
    by (Some film) = inside (nat_lt 0 film.period)
      where
        inside : (b : Bool) → b ≡ is_some (cond b (Some (share_of film.width film.height film.period)) None)
        inside true = refl
        inside false = refl

pub is_listed-same : (roster : List Admission) (row other : Row) → other.client ≡ row.client → other.name ≡ row.name → share_in other ≡ share_in row → is_listed roster other ≡ is_listed roster row
is_listed-same roster row other client name share =
    let admitted : is_admitted other ≡ is_admitted row = is_admitted-aside other ∙ ap (λ (o : Option ℕ). is_some o) share ∙ sym (is_admitted-aside row) in
    ap (λ (b : Bool). not b || list_any (is_admission other.client other.name) roster) admitted ∙ rw (client, name) refl

-- nothing is set aside for what isn't admitted
pub share_in-none : (row : Row) → is_admitted row ≡ false → share_in row ≡ None
share_in-none row free = by (share_in row) (sym (is_admitted-aside row) ∙ free)
  where
    by : (o : Option ℕ) → is_some o ≡ false → o ≡ None
    by None h = refl
    by (Some share) h = absurd (true≢false h)

-- what a test of an admission's name decides
pub record IsAdmissionOf (client : ℕ) (name : List ℕ) (admission : Admission) : Type 0 where
  pub client_is : admission.client ≡ client
  pub name_is : admission.name ≡ name

pub IsAdmissionOf-from : (client : ℕ) (name : List ℕ) (admission : Admission) → is_admission client name admission ≡ true → IsAdmissionOf client name admission
IsAdmissionOf-from client name admission h =
    let parts = and_parts (nat_eq client admission.client) (bytes_eq name admission.name) h in
    record { client_is = sym (eqb-true client admission.client parts.0); name_is = sym ((bytes_eq-Decides name admission.name).0 parts.1) }

-- A change of rows that leaves their names, and what is set aside for them, leaves the roster right.
pub IsRosterOf-map : (limit : ℕ) (rows : List Row) (roster : List Admission) (change : Row → Row) → LeavesNames change → ((i : ℕ) (row : Row) → slice_get rows i ≡ Some row → share_in (change row) ≡ share_in row) → IsRosterOf limit rows roster → IsRosterOf limit (map change rows) roster
IsRosterOf-map limit rows roster change leaves same kept =
    record {
      shares = all_from (has_its_share (map change rows)) roster (λ i admission there. shares admission ∙ all_at (has_its_share rows) roster i admission kept.shares there);
      once = kept.once;
      all = list_all-map (is_listed roster) change rows ∙ all_from (λ (row : Row). is_listed roster (change row)) rows (λ i row there. is_listed-same roster row (change row) (leaves.client row) (leaves.name row) (same i row there) ∙ all_at (is_listed roster) rows i row kept.all there);
      within = kept.within;
    }
  where
    aside : (client : ℕ) (name : List ℕ) (o : Option Row) → row_named rows client name ≡ o → option_and_then share_in (option_map change o) ≡ option_and_then share_in o
    aside client name None found = refl
    aside client name (Some row) found = let place = find-element (has_name client name) rows row found in same place.0 row place.1

    shares : (admission : Admission) → has_its_share (map change rows) admission ≡ has_its_share rows admission
    shares admission =
        has_share-same admission.share (row_named (map change rows) admission.client admission.name) (row_named rows admission.client admission.name)
        (ap (λ (o : Option Row). option_and_then share_in o) (row_named-map rows change admission.client admission.name leaves) ∙ aside admission.client admission.name (row_named rows admission.client admission.name) refl)

-- so does a change of the named row
pub IsRosterOf-with_named : (limit : ℕ) (rows : List Row) (roster : List Admission) (client : ℕ) (name : List ℕ) (named : Row) (change : Row → Row) → LeavesNames change → AreNamedApart rows → row_named rows client name ≡ Some named → share_in (change named) ≡ share_in named → IsRosterOf limit rows roster → IsRosterOf limit (with_named client name change rows) roster
IsRosterOf-with_named limit rows roster client name named change leaves apart found same kept =
    IsRosterOf-map limit rows roster (changed client name change) (LeavesNames-changed client name change leaves) (λ i row there. by i row there (has_name client name row) refl) kept
  where
    by : (i : ℕ) (row : Row) → slice_get rows i ≡ Some row → (b : Bool) → has_name client name row ≡ b → share_in (cond b (change row) row) ≡ share_in row
    by i row there true passes = let is : row ≡ named = row_named-only rows i row named client name apart found there passes in rw is same
    by i row there false passes = refl

-- An admission of another name has the share that it had.
pub has_its_share-other : (rows : List Row) (client : ℕ) (name : List ℕ) (change : Row → Row) (admission : Admission) → LeavesNames change → is_admission client name admission ≡ false → has_its_share (with_named client name change rows) admission ≡ has_its_share rows admission
has_its_share-other rows client name change admission leaves differs =
    ap (λ (o : Option Row). has_share admission.share (film_in o)) (row_named-changed_other rows client name change admission.client admission.name leaves differs)
