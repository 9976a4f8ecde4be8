-- What rows keep when one of them is changed, but for what names it.
use Rattle.std.proofs.Common.{◌≡◌, ℕ, zero, suc, ◌+◌, Bool, true, false, cond, ◌&&◌, nat_eq, List, [], ◌∷◌, map, Option, Some, None, refl, sym, ap, subst, ◌∙◌, slice_get}
use Rattle.std.proofs.lemmas.Bool.{and_parts, and_from}
use Rattle.std.proofs.lemmas.List.Elements.{All-cons, All-head, All-tail}
use Rattle.std.proofs.lemmas.List.Folds.{list_all-map}
use Rattle.std.proofs.lemmas.List.Sums.{sum_by-cons}
use Rattle.std.specs.List.{list_all, list_any}
use Rattle.std.specs.Option.{option_map, option_map_or}
use Rattle.kind_core.specs.declared.kinds.Kind.{Kind}
use Rattle.widget_model.specs.Rows.{Row}
use Rattle.widget_model.specs.Kinds.{any_kind, counts_with, is_variable_kind}
use Rattle.widget_model.specs.Named.{has_name, row_named, with_named, rows_counted, is_kind_of, AreNamedApart}
use Rattle.widget_model.specs.Clients.{is_joined}
use Rattle.widget_model.specs.Planted.{IsPlanted}
use Rattle.widget_model.specs.Fitting.{fits_table, fits_rules, has_slots, is_fit, IsFitFilm, HaveFitFilms}
use Rattle.widget_model.specs.RowFacts.{links_right, AreRows}
use Rattle.widget_model.proofs.Leaves.{LeavesNode, LeavesNode-changed}
use Rattle.widget_model.proofs.Planting.{LeavesPlace, IsPlanted-change}
use Rattle.widget_model.proofs.Hanging.{all_at, all_from, LeavesNames, changed, row_named-map, row_named-only}

-- it leaves which names there are, how many rows, and of what kinds
has_name-map : (rows : List Row) (change : Row → Row) (client : ℕ) (name : List ℕ) → LeavesNode change → list_any (has_name client name) (map change rows) ≡ list_any (has_name client name) rows
has_name-map [] change client name leaves = refl
has_name-map (row ∷ rows) change client name leaves = rw (leaves.client row, leaves.name row, has_name-map rows change client name leaves) refl

pub AreNamedApart-map : (rows : List Row) (change : Row → Row) → LeavesNode change → AreNamedApart rows → AreNamedApart (map change rows)
AreNamedApart-map [] change leaves apart = tt
AreNamedApart-map (row ∷ rows) change leaves apart =
    (rw (leaves.client row, leaves.name row) (has_name-map rows change row.client row.name leaves ∙ apart.0), AreNamedApart-map rows change leaves apart.1)

pub rows_counted-map : (client : ℕ) (test : Kind → Bool) (rows : List Row) (change : Row → Row) → LeavesNode change → rows_counted client test (map change rows) ≡ rows_counted client test rows
rows_counted-map client test [] change leaves = refl
rows_counted-map client test (row ∷ rows) change leaves =
    sum_by-cons one (change row) (map change rows)
    ∙ rw (leaves.client row, leaves.kind row) (ap (λ (n : ℕ). one row + n) (rows_counted-map client test rows change leaves))
    ∙ sym (sum_by-cons one row rows)
  where
    one : Row → ℕ
    one row = cond (nat_eq client row.client && test row.kind) 1 0

pub is_kind_of-map : (rows : List Row) (change : Row → Row) (test : Kind → Bool) (client : ℕ) (name : List ℕ) → LeavesNode change → is_kind_of test (row_named (map change rows) client name) ≡ is_kind_of test (row_named rows client name)
is_kind_of-map rows change test client name leaves =
    let names : LeavesNames change = record { client = leaves.client; name = leaves.name } in
    ap (is_kind_of test) (row_named-map rows change client name names) ∙ by (row_named rows client name)
  where
    by : (o : Option Row) → is_kind_of test (option_map change o) ≡ is_kind_of test o
    by None = refl
    by (Some row) = ap test (leaves.kind row)

pub links_right-map : (rows : List Row) (change : Row → Row) (row : Row) → LeavesNode change → links_right (map change rows) row ≡ links_right rows row
links_right-map rows change row leaves = by row.link
  where
    by : (o : Option (List ℕ)) → option_map_or (λ (name : List ℕ). is_kind_of is_variable_kind (row_named (map change rows) row.client name)) o true ≡ option_map_or (λ (name : List ℕ). is_kind_of is_variable_kind (row_named rows row.client name)) o true
    by None = refl
    by (Some name) = is_kind_of-map rows change is_variable_kind row.client name leaves

-- what holds of all rows holds of all after the named one was changed, where it holds of that
pub all-with_named : (p q : Row → Bool) (rows : List Row) (client : ℕ) (name : List ℕ) (change : Row → Row) (named : Row) → AreNamedApart rows → row_named rows client name ≡ Some named → ((row : Row) → p row ≡ true → q row ≡ true) → (p named ≡ true → q (change named) ≡ true) → list_all p rows ≡ true → list_all q (with_named client name change rows) ≡ true
all-with_named p q rows client name change named apart found others here all =
    list_all-map q (changed client name change) rows ∙ all_from (λ (row : Row). q (changed client name change row)) rows (λ i row there. by i row there (has_name client name row) refl (all_at p rows i row all there))
  where
    by : (i : ℕ) (row : Row) → slice_get rows i ≡ Some row → (b : Bool) → has_name client name row ≡ b → p row ≡ true → q (cond b (change row) row) ≡ true
    by i row there true passes old =
        let same : row ≡ named = row_named-only rows i row named client name apart found there passes in
        rw same (here (ap p (sym same) ∙ old))
    by i row there false passes old = others row old

-- each film is whole still, where the change leaves it so
pub HaveFitFilms-map : (rows : List Row) (change : Row → Row) → ((i : ℕ) (row : Row) → slice_get rows i ≡ Some row → IsFitFilm row → IsFitFilm (change row)) → HaveFitFilms rows → HaveFitFilms (map change rows)
HaveFitFilms-map [] change each films = films
HaveFitFilms-map (row ∷ rows) change each films =
    All-cons IsFitFilm (change row) (map change rows) (each zero row refl (All-head IsFitFilm row rows films)) (HaveFitFilms-map rows change (λ i other there. each (suc i) other there) (All-tail IsFitFilm row rows films))

pub HaveFitFilms-with_named : (rows : List Row) (client : ℕ) (name : List ℕ) (named : Row) (change : Row → Row) → AreNamedApart rows → row_named rows client name ≡ Some named → (IsFitFilm named → IsFitFilm (change named)) → HaveFitFilms rows → HaveFitFilms (with_named client name change rows)
HaveFitFilms-with_named rows client name named change apart found here films =
    HaveFitFilms-map rows (changed client name change) (λ i row there. by i row there (has_name client name row) refl) films
  where
    by : (i : ℕ) (row : Row) → slice_get rows i ≡ Some row → (b : Bool) → has_name client name row ≡ b → IsFitFilm row → IsFitFilm (cond b (change row) row)
    by i row there true passes fit =
        let same : row ≡ named = row_named-only rows i row named client name apart found there passes in
        let F : Row → Type 0 = λ row. IsFitFilm row in
        subst (λ (row : Row). IsFitFilm (change row)) (sym same) (here (subst F same fit))
    by i row there false passes fit = fit

-- a row fits where a change leaves each way in which it fits
pub is_fit-change : (row new : Row) → (fits_table row ≡ true → fits_table new ≡ true) → (fits_rules row ≡ true → fits_rules new ≡ true) → (has_slots row ≡ true → has_slots new ≡ true) → is_fit row ≡ true → is_fit new ≡ true
is_fit-change row new table rules slots fit =
    let parts = and_parts (fits_table row) (fits_rules row && has_slots row) fit in
    let rest = and_parts (fits_rules row) (has_slots row) parts.1 in
    and_from (fits_table new) (fits_rules new && has_slots new) (table parts.0) (and_from (fits_rules new) (has_slots new) (rules rest.0) (slots rest.1))

-- what a change of the named row has to keep
pub record Suits (rows : List Row) (client : ℕ) (name : List ℕ) (row : Row) (change : Row → Row) : Type 0 where
  pub leaves : LeavesNode change
  pub planted : IsPlanted (with_named client name change rows)
  pub linked : links_right rows row ≡ true → links_right rows (change row) ≡ true
  pub fitting : is_fit row ≡ true → is_fit (change row) ≡ true
  pub films : IsFitFilm row → IsFitFilm (change row)

-- a change that leaves how the row hangs, what it is linked to, and its film
pub Suits-change : (rows : List Row) (client : ℕ) (name : List ℕ) (row : Row) (change : Row → Row) → LeavesPlace change → ((row : Row) → (change row).link ≡ row.link) → ((row : Row) → (change row).film ≡ row.film) → IsPlanted rows → (is_fit row ≡ true → is_fit (change row) ≡ true) → Suits rows client name row change
Suits-change rows client name row change leaves link film planted fitting =
    record {
      leaves = leaves.leaves;
      planted = IsPlanted-change rows client name change leaves planted;
      linked = λ h. rw (leaves.leaves.client row, link row) h;
      fitting = fitting;
      films = λ h. rw (film row, leaves.leaves.kind row) h;
    }

pub AreRows-with_named : (clients : List ℕ) (rows : List Row) (client : ℕ) (name : List ℕ) (row : Row) (change : Row → Row) → AreRows clients rows → row_named rows client name ≡ Some row → Suits rows client name row change → AreRows clients (with_named client name change rows)
AreRows-with_named clients rows client name row change kept found suits =
    record {
      owners = each (λ (row : Row). is_joined clients row.client) (λ h. rw (suits.leaves.client row) h) kept.owners;
      names = AreNamedApart-map rows (changed client name change) leaves kept.names;
      most = λ owner. rw (rows_counted-map owner any_kind rows (changed client name change) leaves) (kept.most owner);
      most_alike = λ owner kind. rw (rows_counted-map owner (counts_with kind) rows (changed client name change) leaves) (kept.most_alike owner kind);
      planted = suits.planted;
      linked =
          all-with_named (links_right rows) (links_right (with_named client name change rows)) rows client name change row kept.names found
          (λ other h. links_right-map rows (changed client name change) other leaves ∙ h)
          (λ h. links_right-map rows (changed client name change) (change row) leaves ∙ suits.linked h)
          kept.linked;
      fitting = each is_fit suits.fitting kept.fitting;
      films = HaveFitFilms-with_named rows client name row change kept.names found suits.films kept.films;
    }
  where
    leaves : LeavesNode (changed client name change)
    leaves = LeavesNode-changed client name change suits.leaves

    each : (p : Row → Bool) → (p row ≡ true → p (change row) ≡ true) → list_all p rows ≡ true → list_all p (with_named client name change rows) ≡ true
    each p here all = all-with_named p p rows client name change row kept.names found (λ other h. h) here all
