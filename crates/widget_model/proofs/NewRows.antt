-- What rows keep when a new one is put last, and when one more client joins.
use Rattle.std.proofs.Common.{◌≡◌, ℕ, zero, suc, ◌+◌, ◌<◌, ◌≤◌, Bool, true, false, cond, ◌&&◌, nat_eq, List, [], ◌∷◌, ◌++◌, Option, Some, None, refl, sym, ap, ◌∙◌, arith}
use Rattle.std.proofs.lemmas.Bool.{true≢false, eqb-true, and_from, or_from, or_left, false_from_ne_true}
use Rattle.std.proofs.lemmas.List.Elements.{All-push}
use Rattle.std.proofs.lemmas.List.Folds.{list_all-append, list_any-append, find-append}
use Rattle.std.proofs.lemmas.List.Sums.{sum_by-cons, sum_by-append}
use Rattle.std.specs.List.{list_all}
use Rattle.std.specs.Option.{option_map_or}
use Rattle.kind_core.specs.declared.kinds.Kind.{Kind}
use Rattle.kind_core.specs.declared.kinds.Kind.TheVariants.{Window, VScreen}
use Rattle.widget_model.specs.Rows.{Row}
use Rattle.widget_model.specs.Kinds.{any_kind, counts_with, is_variable_kind}
use Rattle.widget_model.specs.Named.{has_name, row_named, rows_counted, is_kind_of, AreNamedApart}
use Rattle.widget_model.specs.Clients.{is_joined}
use Rattle.widget_model.specs.Fitting.{is_fit, IsFitFilm}
use Rattle.widget_model.specs.RowFacts.{links_right, AreRows}
use Rattle.widget_model.proofs.Hanging.{all_at, all_from, find_none_at, find_none_from, IsNamed-from, has_name-own}
use Rattle.widget_model.proofs.Planting.{IsPlanted-push}

-- a row that can be put last: there is room for it and its name is free, and it stands alone
pub record IsNew (clients : List ℕ) (rows : List Row) (row : Row) : Type 0 where
  pub owner : is_joined clients row.client ≡ true
  pub free : row_named rows row.client row.name ≡ None
  pub few : rows_counted row.client any_kind rows < 128
  pub few_alike : rows_counted row.client (counts_with row.kind) rows < 8
  pub loose : row.attached ≡ None
  pub unlinked : row.link ≡ None
  pub fitting : is_fit row ≡ true
  pub no_film : row.film ≡ None

pub all-push : {X : Type 0} (p : X → Bool) (xs : List X) (x : X) → list_all p xs ≡ true → p x ≡ true → list_all p (xs ++ x ∷ []) ≡ true
all-push p xs x all last = list_all-append p xs (x ∷ []) ∙ and_from _ _ all (and_from _ _ last refl)

-- a name that isn't there is unlike each that is
pub AreNamedApart-push : (rows : List Row) (row : Row) → AreNamedApart rows → row_named rows row.client row.name ≡ None → AreNamedApart (rows ++ row ∷ [])
AreNamedApart-push [] row apart free = (refl, tt)
AreNamedApart-push (first ∷ rows) row apart free = (list_any-append (has_name first.client first.name) rows (row ∷ []) ∙ or_from _ _ apart.0 (or_from _ _ unlike refl), AreNamedApart-push rows row apart.1 later)
  where
    unlike : has_name first.client first.name row ≡ false
    unlike = false_from_ne_true (has_name first.client first.name row) two
      where
        two : has_name first.client first.name row ≡ true → ⊥
        two h =
            let is = IsNamed-from first.client first.name row h in
            let own : has_name row.client row.name first ≡ true = rw (is.client_is, is.name_is) (has_name-own first) in
            true≢false (sym own ∙ find_none_at (has_name row.client row.name) (first ∷ rows) zero first free refl)

    later : row_named rows row.client row.name ≡ None
    later = find_none_from (has_name row.client row.name) rows (λ i other there. find_none_at (has_name row.client row.name) (first ∷ rows) (suc i) other free there)

-- how many there are then
pub rows_counted-push : (client : ℕ) (test : Kind → Bool) (rows : List Row) (row : Row) → rows_counted client test (rows ++ row ∷ []) ≡ rows_counted client test rows + cond (nat_eq client row.client && test row.kind) 1 0
rows_counted-push client test rows row = sum_by-append one rows (row ∷ []) ∙ ap (λ (n : ℕ). rows_counted client test rows + n) (sum_by-cons one row [] ∙ omega arith)
  where
    one : Row → ℕ
    one row = cond (nat_eq client row.client && test row.kind) 1 0

-- a limit that the new one's client hasn't reached, of the kinds that count with it
rows_counted-room : (client : ℕ) (test : Kind → Bool) (rows : List Row) (row : Row) (limit : ℕ) → rows_counted client test rows ≤ limit → (client ≡ row.client → test row.kind ≡ true → rows_counted client test rows < limit) → rows_counted client test (rows ++ row ∷ []) ≤ limit
rows_counted-room client test rows row limit old new = rw (rows_counted-push client test rows row) (by (nat_eq client row.client) refl (test row.kind) refl)
  where
    by : (a : Bool) → nat_eq client row.client ≡ a → (b : Bool) → test row.kind ≡ b → rows_counted client test rows + cond (a && b) 1 0 ≤ limit
    by true own true counts = let room = new (eqb-true client row.client own) counts in omega arith
    by true own false counts = omega arith
    by false own b counts = omega arith

counts_with-same : (one other : Kind) → counts_with one other ≡ true → one ≡ other
counts_with-same Window Window h = refl
counts_with-same VScreen VScreen h = refl
counts_with-same _ _ h = absurd (true≢false (sym h))

-- who was found is found still
pub is_kind_of-push : (rows : List Row) (row : Row) (test : Kind → Bool) (client : ℕ) (name : List ℕ) → is_kind_of test (row_named rows client name) ≡ true → is_kind_of test (row_named (rows ++ row ∷ []) client name) ≡ true
is_kind_of-push rows row test client name h = by (row_named rows client name) refl h
  where
    by : (o : Option Row) → row_named rows client name ≡ o → is_kind_of test o ≡ true → is_kind_of test (row_named (rows ++ row ∷ []) client name) ≡ true
    by None found passes = absurd (true≢false (sym passes))
    by (Some other) found passes =
        let still : row_named (rows ++ row ∷ []) client name ≡ Some other = find-append (has_name client name) rows (row ∷ []) ∙ rw found refl in
        ap (is_kind_of test) still ∙ passes

links_right-push : (rows : List Row) (row other : Row) → links_right rows other ≡ true → links_right (rows ++ row ∷ []) other ≡ true
links_right-push rows row other h = by other.link h
  where
    by : (o : Option (List ℕ)) → option_map_or (λ (name : List ℕ). is_kind_of is_variable_kind (row_named rows other.client name)) o true ≡ true → option_map_or (λ (name : List ℕ). is_kind_of is_variable_kind (row_named (rows ++ row ∷ []) other.client name)) o true ≡ true
    by None leads = refl
    by (Some name) leads = is_kind_of-push rows row is_variable_kind other.client name leads

pub AreRows-push : (clients : List ℕ) (rows : List Row) (row : Row) → AreRows clients rows → IsNew clients rows row → AreRows clients (rows ++ row ∷ [])
AreRows-push clients rows row kept new =
    record {
      owners = all-push (λ (row : Row). is_joined clients row.client) rows row kept.owners new.owner;
      names = AreNamedApart-push rows row kept.names new.free;
      most = λ client. rows_counted-room client any_kind rows row 128 (kept.most client) (λ own counts. rw own new.few);
      most_alike = λ client kind. rows_counted-room client (counts_with kind) rows row 8 (kept.most_alike client kind) (λ own counts. rw (own, counts_with-same kind row.kind counts) new.few_alike);
      planted = IsPlanted-push rows row new.loose new.free kept.planted;
      linked = all-push (links_right (rows ++ row ∷ [])) rows row (all_from (links_right (rows ++ row ∷ [])) rows (λ i other there. links_right-push rows row other (all_at (links_right rows) rows i other kept.linked there))) (rw new.unlinked refl);
      fitting = all-push is_fit rows row kept.fitting new.fitting;
      films = All-push IsFitFilm rows row kept.films (rw new.no_film tt);
    }

-- one more client joins: who was one is so still
pub is_joined-push : (clients : List ℕ) (client other : ℕ) → is_joined clients other ≡ true → is_joined (clients ++ client ∷ []) other ≡ true
is_joined-push clients client other joined = list_any-append (nat_eq other) clients (client ∷ []) ∙ or_left _ _ joined

pub AreRows-joined : (clients : List ℕ) (client : ℕ) (rows : List Row) → AreRows clients rows → AreRows (clients ++ client ∷ []) rows
AreRows-joined clients client rows kept =
    record {
      owners = all_from (λ (row : Row). is_joined (clients ++ client ∷ []) row.client) rows (λ i row there. is_joined-push clients client row.client (all_at (λ (row : Row). is_joined clients row.client) rows i row kept.owners there));
      names = kept.names;
      most = kept.most;
      most_alike = kept.most_alike;
      planted = kept.planted;
      linked = kept.linked;
      fitting = kept.fitting;
      films = kept.films;
    }
