-- What rows keep when some are left out by their names.
use Rattle.std.proofs.Common.{◌≡◌, ℕ, ◌≤◌, Bool, true, false, cond, ◌&&◌, ◌||◌, not, nat_eq, List, [], ◌∷◌, Option, Some, None, refl, sym, ap, ◌∙◌, slice_get, arith}
use Rattle.std.proofs.lemmas.Bool.{true≢false, eqb-true, not-true, or_parts, or_from}
use Rattle.std.proofs.lemmas.List.Elements.{All-filter}
use Rattle.std.proofs.lemmas.List.Sums.{sum_by-cons}
use Rattle.std.proofs.lemmas.Map.Views.{any-filter_same}
use Rattle.std.specs.List.{filter, list_all, list_any}
use Rattle.std.specs.Option.{option_map_or}
use Rattle.std.specs.Str.{bytes_eq}
use Rattle.kind_core.specs.declared.kinds.Kind.{Kind}
use Rattle.widget_model.specs.Rows.{Row}
use Rattle.widget_model.specs.Kinds.{any_kind, counts_with, is_variable_kind}
use Rattle.widget_model.specs.Named.{has_name, row_named, rows_counted, is_kind_of, without_named, rows_of_others, AreNamedApart}
use Rattle.widget_model.specs.Trees.{hangs, is_child, links_to, is_admitted, is_used}
use Rattle.widget_model.specs.Clients.{is_joined}
use Rattle.widget_model.specs.Planted.{IsPlanted}
use Rattle.widget_model.specs.Fitting.{is_fit, IsFitFilm}
use Rattle.widget_model.specs.RowFacts.{links_right, AreRows}
use Rattle.widget_model.proofs.Hanging.{all_at, none_at, all-filter, IsNamed-row_named, row_named-filter}
use Rattle.widget_model.proofs.Cells.{attached_of_alone}
use Rattle.widget_model.proofs.Planting.{IsPlanted-remove, IsPlanted-others}

-- what holds of all or of none holds so of those that are kept
pub all-kept : {X : Type 0} (p q : X → Bool) (xs : List X) → list_all p xs ≡ true → list_all p (filter q xs) ≡ true
all-kept p q xs all = all-filter p q xs (λ i x there kept. all_at p xs i x all there)

pub none-kept : {X : Type 0} (p q : X → Bool) (xs : List X) → list_any p xs ≡ false → list_any p (filter q xs) ≡ false
none-kept p q [] none = refl
none-kept p q (x ∷ xs) none = by (none-kept p q xs parts.1) (q x)
  where
    parts : (p x ≡ false) × (list_any p xs ≡ false)
    parts = or_parts (p x) (list_any p xs) none

    by : list_any p (filter q xs) ≡ false → (b : Bool) → list_any p (cond b (x ∷ filter q xs) (filter q xs)) ≡ false
    by rest true = or_from _ _ parts.0 rest
    by rest false = rest

pub AreNamedApart-filter : (q : Row → Bool) (rows : List Row) → AreNamedApart rows → AreNamedApart (filter q rows)
AreNamedApart-filter q [] apart = tt
AreNamedApart-filter q (row ∷ rows) apart = by (AreNamedApart-filter q rows apart.1) (q row)
  where
    by : AreNamedApart (filter q rows) → (b : Bool) → AreNamedApart (cond b (row ∷ filter q rows) (filter q rows))
    by rest true = (none-kept (has_name row.client row.name) q rows apart.0, rest)
    by rest false = rest

-- no more are counted
pub rows_counted-filter : (client : ℕ) (test : Kind → Bool) (q : Row → Bool) (rows : List Row) → rows_counted client test (filter q rows) ≤ rows_counted client test rows
rows_counted-filter client test q [] = omega arith
rows_counted-filter client test q (row ∷ rows) = by (rows_counted-filter client test q rows) (q row)
  where
    one : Row → ℕ
    one row = cond (nat_eq client row.client && test row.kind) 1 0

    by : rows_counted client test (filter q rows) ≤ rows_counted client test rows → (b : Bool) → rows_counted client test (cond b (row ∷ filter q rows) (filter q rows)) ≤ rows_counted client test (row ∷ rows)
    by rest true = omega (arith, rest, sum_by-cons one row rows, sum_by-cons one row (filter q rows))
    by rest false = omega (arith, rest, sum_by-cons one row rows)

-- Rows are left out by their names, and with them each that is linked to one of them, or isn't a client's.
pub record IsClosed (test : ℕ → List ℕ → Bool) (clients later : List ℕ) (rows : List Row) : Type 0 where
  pub owners : (client : ℕ) (name : List ℕ) → test client name ≡ true → is_joined clients client ≡ true → is_joined later client ≡ true
  pub links : (i : ℕ) (row : Row) (name : List ℕ) → slice_get rows i ≡ Some row → test row.client row.name ≡ true → row.link ≡ Some name → test row.client name ≡ true
  pub planted : IsPlanted (filter (λ (row : Row). test row.client row.name) rows)

pub AreRows-filter : (test : ℕ → List ℕ → Bool) (clients later : List ℕ) (rows : List Row) → IsClosed test clients later rows → AreRows clients rows → AreRows later (filter (λ (row : Row). test row.client row.name) rows)
AreRows-filter test clients later rows closed kept =
    record {
      owners = all-filter (λ (row : Row). is_joined later row.client) keeps rows (λ i row there stays. closed.owners row.client row.name stays (all_at (λ (row : Row). is_joined clients row.client) rows i row kept.owners there));
      names = AreNamedApart-filter keeps rows kept.names;
      most = λ client. omega (arith, kept.most client, rows_counted-filter client any_kind keeps rows);
      most_alike = λ client kind. omega (arith, kept.most_alike client kind, rows_counted-filter client (counts_with kind) keeps rows);
      planted = closed.planted;
      linked = all-filter (links_right (filter keeps rows)) keeps rows (λ i row there stays. linked i row there stays row.link refl (all_at (links_right rows) rows i row kept.linked there));
      fitting = all-kept is_fit keeps rows kept.fitting;
      films = All-filter keeps IsFitFilm rows kept.films;
    }
  where
    keeps : Row → Bool
    keeps row = test row.client row.name

    leads : List Row → Row → Option (List ℕ) → Bool
    leads some row link = option_map_or (λ (name : List ℕ). is_kind_of is_variable_kind (row_named some row.client name)) link true

    linked : (i : ℕ) (row : Row) → slice_get rows i ≡ Some row → keeps row ≡ true → (link : Option (List ℕ)) → row.link ≡ link → links_right rows row ≡ true → links_right (filter keeps rows) row ≡ true
    linked i row there stays None is h = ap (leads (filter keeps rows) row) is
    linked i row there stays (Some name) is h =
        ap (leads (filter keeps rows) row) is
        ∙ ap (is_kind_of is_variable_kind) (row_named-filter test rows row.client name (closed.links i row name there stays is))
        ∙ sym (ap (leads rows row) is) ∙ h

-- a row that isn't used
pub record IsFree (rows : List Row) (row : Row) : Type 0 where
  pub alone : row.attached ≡ None
  pub childless : list_any (is_child row.client row.name) rows ≡ false
  pub unlinked : list_any (links_to row.client row.name) rows ≡ false
  pub unadmitted : is_admitted row ≡ false

pub IsFree-unused : (rows : List Row) (row : Row) → is_used rows row ≡ false → IsFree rows row
IsFree-unused rows row unused =
    let hung = or_parts (hangs row) (list_any (is_child row.client row.name) rows || (list_any (links_to row.client row.name) rows || is_admitted row)) unused in
    let above = or_parts (list_any (is_child row.client row.name) rows) (list_any (links_to row.client row.name) rows || is_admitted row) hung.1 in
    let linked = or_parts (list_any (links_to row.client row.name) rows) (is_admitted row) above.1 in
    record { alone = attached_of_alone row hung.0; childless = above.0; unlinked = linked.0; unadmitted = linked.1 }

-- A widget that isn't used can be removed: the names that stay, which those linked to one of them are among.
pub IsClosed-remove : (clients : List ℕ) (rows : List Row) (client : ℕ) (name : List ℕ) (row : Row) → AreRows clients rows → row_named rows client name ≡ Some row → is_used rows row ≡ false → IsClosed (λ owner other. not (nat_eq client owner && bytes_eq name other)) clients clients rows
IsClosed-remove clients rows client name row kept found unused =
    record {
      owners = λ client name stays joined. joined;
      links = links;
      planted = IsPlanted-remove rows client name row found unused kept.planted;
    }
  where
    others : ℕ → List ℕ → Bool
    others owner other = not (nat_eq client owner && bytes_eq name other)

    links : (i : ℕ) (other : Row) (target : List ℕ) → slice_get rows i ≡ Some other → others other.client other.name ≡ true → other.link ≡ Some target → others other.client target ≡ true
    links i other target there stays is =
        let named = IsNamed-row_named rows client name row found in
        let free : links_to client name other ≡ false = rw (← named.client_is, ← named.name_is) (none_at (links_to row.client row.name) rows i other (IsFree-unused rows row unused).unlinked there) in
        let leads : links_to client name other ≡ (nat_eq client other.client && (bytes_eq name target && not (bytes_eq name other.name))) = ap (λ (o : Option (List ℕ)). nat_eq client other.client && (option_map_or (bytes_eq name) o false && not (bytes_eq name other.name))) is in
        by (nat_eq client other.client) (bytes_eq name target) (bytes_eq name other.name) stays (sym leads ∙ free)
      where
        by : (own leads itself : Bool) → not (own && itself) ≡ true → (own && (leads && not itself)) ≡ false → not (own && leads) ≡ true
        by true true true stays h = stays
        by true true false stays h = absurd (true≢false h)
        by true false itself stays h = refl
        by false leads itself stays h = refl

pub AreRows-remove : (clients : List ℕ) (rows : List Row) (client : ℕ) (name : List ℕ) (row : Row) → AreRows clients rows → row_named rows client name ≡ Some row → is_used rows row ≡ false → AreRows clients (without_named client name rows)
AreRows-remove clients rows client name row kept found unused =
    AreRows-filter (λ owner other. not (nat_eq client owner && bytes_eq name other)) clients clients rows (IsClosed-remove clients rows client name row kept found unused) kept

-- who else has joined is found among the others
pub list_any-without_other : (client other : ℕ) (clients : List ℕ) → nat_eq client other ≡ false → list_any (nat_eq other) (filter (λ joined. not (nat_eq client joined)) clients) ≡ list_any (nat_eq other) clients
list_any-without_other client other clients differ =
    any-filter_same (nat_eq other) (λ joined. not (nat_eq client joined)) true (λ joined e. rw (← eqb-true other joined e, differ) refl) clients

-- A client leaves with all its rows.
pub AreRows-others : (clients : List ℕ) (rows : List Row) (client : ℕ) → AreRows clients rows → AreRows (filter (λ (other : ℕ). not (nat_eq client other)) clients) (rows_of_others client rows)
AreRows-others clients rows client kept =
    AreRows-filter (λ owner name. not (nat_eq client owner)) clients (filter (λ (other : ℕ). not (nat_eq client other)) clients) rows
    (record {
      owners = λ owner name stays joined. list_any-without_other client owner clients (not-true (nat_eq client owner) stays) ∙ joined;
      links = λ i row name there stays is. stays;
      planted = IsPlanted-others rows client kept.planted;
    }) kept
