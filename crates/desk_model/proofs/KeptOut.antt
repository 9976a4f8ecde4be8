-- What a desk keeps when some of its rows are left out by their names.
use Rattle.std.proofs.Common.{◌≡◌, ℕ, zero, suc, ◌≤◌, Bool, true, false, cond, ◌&&◌, ◌||◌, not, nat_eq, List, [], ◌∷◌, Option, Some, None, refl, sym, ap, subst, ◌∙◌, slice_get, arith}
use Rattle.std.proofs.lemmas.Bool.{true≢false}
use Rattle.std.proofs.lemmas.List.Filters.{sum_by-filter_both}
use Rattle.std.proofs.lemmas.Map.Views.{any-filter_same}
use Rattle.std.specs.List.{filter, list_all}
use Rattle.std.specs.Str.{bytes_eq}
use Rattle.widget_model.specs.Rows.{Row}
use Rattle.widget_model.specs.Kinds.{is_window_kind}
use Rattle.widget_model.specs.Named.{row_named, is_kind_of, without_named, rows_of_others}
use Rattle.widget_model.specs.Trees.{is_admitted, is_used}
use Rattle.desk_model.specs.Desk.{Desk, Admission, is_window, is_open, is_admission}
use Rattle.desk_model.specs.Screens.{roster_limit, shares_of}
use Rattle.desk_model.specs.Clients.{without_client}
use Rattle.desk_model.specs.DeskFacts.{AreConnectedOnce, AreOpenOnce, AreAdmittedOnce, links_by_kind, has_its_share, is_listed, IsRosterOf}
use Rattle.widget_model.proofs.Hanging.{all_at, all_from, none_at, all-filter, row_named-filter}
use Rattle.widget_model.proofs.LeftRows.{all-kept, none-kept, IsFree-unused, AreRows-remove, AreRows-others}
use Rattle.desk_model.proofs.Sound.{names_window, IsSound}
use Rattle.desk_model.proofs.Rosters.{has_share, film_in, share_in-none, has_share-same, IsAdmissionOf-from}
use Rattle.desk_model.proofs.Rings.{AreRingsOf-others}

pub AreOpenOnce-filter : (q : ℕ × List ℕ → Bool) (windows : List (ℕ × List ℕ)) → AreOpenOnce windows → AreOpenOnce (filter q windows)
AreOpenOnce-filter q [] once = tt
AreOpenOnce-filter q (window ∷ windows) once = by (AreOpenOnce-filter q windows once.1) (q window)
  where
    by : AreOpenOnce (filter q windows) → (b : Bool) → AreOpenOnce (cond b (window ∷ filter q windows) (filter q windows))
    by rest true = (none-kept (is_window window.0 window.1) q windows once.0, rest)
    by rest false = rest

AreConnectedOnce-filter : (q : ℕ → Bool) (clients : List ℕ) → AreConnectedOnce clients → AreConnectedOnce (filter q clients)
AreConnectedOnce-filter q [] once = tt
AreConnectedOnce-filter q (client ∷ clients) once = by (AreConnectedOnce-filter q clients once.1) (q client)
  where
    by : AreConnectedOnce (filter q clients) → (b : Bool) → AreConnectedOnce (cond b (client ∷ filter q clients) (filter q clients))
    by rest true = (none-kept (nat_eq client) q clients once.0, rest)
    by rest false = rest

-- a window whose name is kept is there still
names_window-filter : (test : ℕ → List ℕ → Bool) (rows : List Row) (windows : List (ℕ × List ℕ)) (i : ℕ) (window : ℕ × List ℕ) → list_all (names_window rows) windows ≡ true → slice_get windows i ≡ Some window → test window.0 window.1 ≡ true → names_window (filter (λ (row : Row). test row.client row.name) rows) window ≡ true
names_window-filter test rows windows i window all there stays =
    ap (is_kind_of is_window_kind) (row_named-filter test rows window.0 window.1 stays) ∙ all_at (names_window rows) windows i window all there

pub AreAdmittedOnce-filter : (q : Admission → Bool) (roster : List Admission) → AreAdmittedOnce roster → AreAdmittedOnce (filter q roster)
AreAdmittedOnce-filter q [] once = tt
AreAdmittedOnce-filter q (admission ∷ roster) once = by (AreAdmittedOnce-filter q roster once.1) (q admission)
  where
    by : AreAdmittedOnce (filter q roster) → (b : Bool) → AreAdmittedOnce (cond b (admission ∷ filter q roster) (filter q roster))
    by rest true = (none-kept (is_admission admission.client admission.name) q roster once.0, rest)
    by rest false = rest

-- fewer admissions have no more pixels
pub shares_of-filter : (q : Admission → Bool) (roster : List Admission) → shares_of (filter q roster) ≤ shares_of roster
shares_of-filter q roster = omega (arith, sum_by-filter_both {X = Admission} q (λ admission. not (q admission)) (λ _. refl) (λ admission. admission.share) roster)

-- a row whose name is kept is listed still
is_listed-filter : (test : ℕ → List ℕ → Bool) (roster : List Admission) (row : Row) → test row.client row.name ≡ true → is_listed (filter (λ (admission : Admission). test admission.client admission.name) roster) row ≡ is_listed roster row
is_listed-filter test roster row kept =
    ap (λ (b : Bool). not (is_admitted row) || b)
    (any-filter_same (is_admission row.client row.name) (λ (admission : Admission). test admission.client admission.name) true
    (λ admission named. let is = IsAdmissionOf-from row.client row.name admission named in rw (is.client_is, is.name_is) kept) roster)

-- rows and admissions left out by the same names
pub IsRosterOf-filter : (test : ℕ → List ℕ → Bool) (limit : ℕ) (rows : List Row) (roster : List Admission) → IsRosterOf limit rows roster → IsRosterOf limit (filter (λ (row : Row). test row.client row.name) rows) (filter (λ (admission : Admission). test admission.client admission.name) roster)
IsRosterOf-filter test limit rows roster kept =
    record {
      shares = all-filter (has_its_share (filter keeps rows)) stays roster (λ i admission there h. ap (λ (o : Option Row). has_share admission.share (film_in o)) (row_named-filter test rows admission.client admission.name h) ∙ all_at (has_its_share rows) roster i admission kept.shares there);
      once = AreAdmittedOnce-filter stays roster kept.once;
      all = all-filter (is_listed (filter stays roster)) keeps rows (λ i row there h. is_listed-filter test roster row h ∙ all_at (is_listed roster) rows i row kept.all there);
      within = omega (arith, kept.within, shares_of-filter stays roster);
    }
  where
    keeps : Row → Bool
    keeps row = test row.client row.name

    stays : Admission → Bool
    stays admission = test admission.client admission.name

-- no admission is of a row that isn't admitted
pub none_admitted : (rows : List Row) (roster : List Admission) (client : ℕ) (name : List ℕ) (row : Row) → row_named rows client name ≡ Some row → is_admitted row ≡ false → list_all (has_its_share rows) roster ≡ true → (i : ℕ) (admission : Admission) → slice_get roster i ≡ Some admission → is_admission client name admission ≡ false
none_admitted rows roster client name row found free shares i admission there = by (is_admission client name admission) refl
  where
    by : (b : Bool) → is_admission client name admission ≡ b → b ≡ false
    by false named = refl
    by true named =
        let is = IsAdmissionOf-from client name admission named in
        let here : row_named rows admission.client admission.name ≡ Some row = rw (is.client_is, is.name_is) found in
        let nothing : has_share admission.share (film_in (Some row)) ≡ false = has_share-same admission.share (Some row) None (share_in-none row free) in
        absurd (true≢false (sym (all_at (has_its_share rows) roster i admission shares there) ∙ ap (λ (o : Option Row). has_share admission.share (film_in o)) here ∙ nothing))

filter-whole : {X : Type 0} (q : X → Bool) (xs : List X) → ((i : ℕ) (x : X) → slice_get xs i ≡ Some x → q x ≡ true) → filter q xs ≡ xs
filter-whole q [] each = refl
filter-whole q (x ∷ xs) each = rw (each zero x refl) (ap (λ ys. x ∷ ys) (filter-whole q xs (λ i y there. each (suc i) y there)))

IsRosterOf-remove : (limit : ℕ) (rows : List Row) (roster : List Admission) (client : ℕ) (name : List ℕ) (row : Row) → row_named rows client name ≡ Some row → is_admitted row ≡ false → IsRosterOf limit rows roster → IsRosterOf limit (without_named client name rows) roster
IsRosterOf-remove limit rows roster client name row found free kept =
    subst (λ (admissions : List Admission). IsRosterOf limit (without_named client name rows) admissions)
    (filter-whole (λ (admission : Admission). not (is_admission client name admission)) roster (λ i admission there. ap not (none_admitted rows roster client name row found free kept.shares i admission there)))
    (IsRosterOf-filter (λ owner other. not (nat_eq client owner && bytes_eq name other)) limit rows roster kept)

-- A widget that isn't used and isn't an open window can be removed.
pub IsSound-remove : (desk : Desk) (client : ℕ) (name : List ℕ) (row : Row) → IsSound desk → row_named desk.rows client name ≡ Some row → is_used desk.rows row ≡ false → is_open desk client name ≡ false → IsSound (record desk { rows = without_named client name desk.rows })
IsSound-remove desk client name row sound found unused shut =
    record {
      shape = sound.shape;
      clients = sound.clients;
      connected_once = sound.connected_once;
      rows = AreRows-remove desk.clients desk.rows client name row sound.rows found unused;
      by_kind = all-kept links_by_kind _ desk.rows sound.by_kind;
      roster = IsRosterOf-remove (roster_limit desk) desk.rows desk.roster client name row found (IsFree-unused desk.rows row unused).unadmitted sound.roster;
      rings = sound.rings;
      windows = record {
        there = all_from (names_window (without_named client name desk.rows)) desk.windows (λ i window there. names_window-filter others desk.rows desk.windows i window sound.windows.there there (ap not (none_at (is_window client name) desk.windows i window shut there)));
        once = sound.windows.once;
      };
    }
  where
    others : ℕ → List ℕ → Bool
    others owner other = not (nat_eq client owner && bytes_eq name other)

-- A client leaves with all that is its own.
pub IsSound-without_client : (desk : Desk) (client : ℕ) → IsSound desk → IsSound (without_client client desk)
IsSound-without_client desk client sound =
    record {
      shape = sound.shape;
      clients = all-kept _ (λ (other : ℕ). not (nat_eq client other)) desk.clients sound.clients;
      connected_once = AreConnectedOnce-filter (λ (other : ℕ). not (nat_eq client other)) desk.clients sound.connected_once;
      rows = AreRows-others desk.clients desk.rows client sound.rows;
      by_kind = all-kept links_by_kind _ desk.rows sound.by_kind;
      roster = IsRosterOf-filter others (roster_limit desk) desk.rows desk.roster sound.roster;
      rings = AreRingsOf-others desk.clients desk.rings client sound.rings;
      windows = record {
        there = all-filter (names_window (rows_of_others client desk.rows)) (λ (window : ℕ × List ℕ). not (nat_eq client window.0)) desk.windows (λ i window there stays. names_window-filter others desk.rows desk.windows i window sound.windows.there there stays);
        once = AreOpenOnce-filter (λ (window : ℕ × List ℕ). not (nat_eq client window.0)) desk.windows sound.windows.once;
      };
    }
  where
    others : ℕ → List ℕ → Bool
    others owner name = not (nat_eq client owner)
