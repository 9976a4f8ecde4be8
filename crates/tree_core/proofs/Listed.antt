-- Rows by number, by place and by name.
use Rattle.std.proofs.Common.{◌≡◌, ◌<◌, ◌+◌, ℕ, zero, suc, length, take, get_or, Bool, true, false, cond, ◌||◌, nat_eq, List, [], ◌∷◌, ◌++◌, Some, None, is_some, refl, sym, ap, ◌∙◌, subst, slice_get}
use Rattle.std.proofs.lemmas.Bool.{true≢false, ne_eqb}
use Rattle.std.proofs.lemmas.List.{take_more}
use Rattle.std.proofs.lemmas.Option.{get_or_from_slice_get}
use Rattle.std.specs.Cmp.{nat_eq_equiv}
use Rattle.std.proofs.lemmas.List.Elements.{All-head, All-tail}
use Rattle.std.specs.List.{All, find, list_any}
use Rattle.widget_model.specs.Rows.{Row}
use Rattle.widget_model.specs.Nodes.{id_named}
use Rattle.widget_model.specs.Named.{has_name, row_named, AreNamedApart}
use Rattle.widget_model.specs.Widgets.{row_at, nodes, rows_in}
use Rattle.widget_model.specs.Forest.{HaveOwnNumbers}
use Rattle.widget_model.proofs.Hanging.{find-element, find-passes, none_at}
use Rattle.widget_model.proofs.Naming.{row_named-found, id_named-row, rows-push}
use Rattle.row_store.proofs.UnderNumbers.{row_at-absent}

-- what is found stands somewhere, and passes the test
pub find_place : {X : Type 0} (p : X → Bool) (xs : List X) (x : X) → find p xs ≡ Some x → (i : ℕ) × (slice_get xs i ≡ Some x) × (p x ≡ true)
find_place p xs x found = let there = find-element p xs x found in (there.0, there.1, find-passes p xs x found)

-- what holds of all holds of the one at a place
pub All-at : {X : Type 0} (P : X → Type 0) (xs : List X) (i : ℕ) (x : X) → All P xs → slice_get xs i ≡ Some x → P x
All-at P [] i x h there = absurd (cc)
All-at P (y ∷ ys) zero x h there = let same : y ≡ x = cc in subst P same (All-head P y ys h)
All-at P (y ∷ ys) (suc i) x h there = All-at P ys i x (All-tail P y ys h) there

-- one that passes the test is found among the rest
pub any_at : {X : Type 0} (p : X → Bool) (xs : List X) (i : ℕ) (x : X) → slice_get xs i ≡ Some x → p x ≡ true → list_any p xs ≡ true
any_at p xs i x there h = by (list_any p xs) refl
  where
    by : (b : Bool) → list_any p xs ≡ b → b ≡ true
    by true q = refl
    by false q = absurd (true≢false (sym h ∙ none_at p xs i x q there))

-- where there is one that passes the test, it stands somewhere
pub any_place : {X : Type 0} (p : X → Bool) (xs : List X) → list_any p xs ≡ true → (i : ℕ) × (x : X) × (slice_get xs i ≡ Some x) × (p x ≡ true)
any_place p [] h = absurd (true≢false (sym h))
any_place {X} p (y ∷ ys) h = by (any_place p ys) (p y) refl h
  where
    by : (list_any p ys ≡ true → (i : ℕ) × (x : X) × (slice_get ys i ≡ Some x) × (p x ≡ true)) → (b : Bool) → p y ≡ b → (b || list_any p ys) ≡ true → (i : ℕ) × (x : X) × (slice_get (y ∷ ys) i ≡ Some x) × (p x ≡ true)
    by rest true q k = (0, y, refl, q)
    by rest false q k = let r = rest k in (suc r.0, r.1, r.2, r.3)

-- the row at a place has a number
pub listed_number : (es : List (ℕ × Row)) (i : ℕ) (row : Row) → HaveOwnNumbers (nodes es) → slice_get (rows_in es) i ≡ Some row → (id : ℕ) × (row_at es id ≡ Some row)
listed_number [] i row own there = absurd (cc)
listed_number (e ∷ es) zero row own there = (e.0, rw (nat_eq_equiv.refl e.0) there)
listed_number (e ∷ es) (suc i) row own there =
    let rest = listed_number es i row own.1 there in
    let other : nat_eq rest.0 e.0 ≡ false = ne_eqb rest.0 e.0 (λ same. let none : None ≡ Some row = sym (ap (row_at es) same ∙ row_at-absent es e.0 own.0) ∙ rest.1 in cc) in
    (rest.0, rw other rest.1)

-- and a numbered row stands at a place
pub numbered_place : (es : List (ℕ × Row)) (id : ℕ) (row : Row) → row_at es id ≡ Some row → (i : ℕ) × (slice_get (rows_in es) i ≡ Some row)
numbered_place [] id row there = absurd (cc)
numbered_place (e ∷ es) id row there = by (numbered_place es id row) (nat_eq id e.0) there
  where
    by : (row_at es id ≡ Some row → (i : ℕ) × (slice_get (rows_in es) i ≡ Some row)) → (b : Bool) → cond b (Some e.1) (row_at es id) ≡ Some row → (i : ℕ) × (slice_get (rows_in (e ∷ es)) i ≡ Some row)
    by rest true k = (0, k)
    by rest false k = let r = rest k in (suc r.0, r.1)

-- a numbered row is the one of its name
pub row_named-row : (es : List (ℕ × Row)) (id : ℕ) (row : Row) → HaveOwnNumbers (nodes es) → AreNamedApart (rows_in es) → row_at es id ≡ Some row → row_named (rows_in es) row.client row.name ≡ Some row
row_named-row es id row numbers names there = row_named-found es row.client row.name id numbers (id_named-row es id row names there) ∙ there

-- a name that is a row's is a number's
pub named_live : (es : List (ℕ × Row)) (client : ℕ) (name : List ℕ) → is_some (id_named (nodes es) client name) ≡ is_some (row_named (rows_in es) client name)
named_live [] client name = refl
named_live (e ∷ es) client name = by (has_name client name e.1) (named_live es client name)
  where
    by : (b : Bool) → is_some (id_named (nodes es) client name) ≡ is_some (row_named (rows_in es) client name) → is_some (cond b (Some e.0) (id_named (nodes es) client name)) ≡ is_some (cond b (Some e.1) (row_named (rows_in es) client name))
    by true rest = refl
    by false rest = rest

-- the rows are those of the entries, place by place
pub rows_in-at : (es : List (ℕ × Row)) (i id : ℕ) (row : Row) → slice_get es i ≡ Some (id, row) → slice_get (rows_in es) i ≡ Some row
rows_in-at [] i id row there = absurd (cc)
rows_in-at (e ∷ es) zero id row there = let same : e ≡ (id, row) = cc in ap (λ (x : ℕ × Row). Some x.1) same
rows_in-at (e ∷ es) (suc i) id row there = rows_in-at es i id row there

pub rows_in-take_more : (es : List (ℕ × Row)) (i id : ℕ) (row : Row) → i < length es → slice_get es i ≡ Some (id, row) → rows_in (take (i + 1) es) ≡ rows_in (take i es) ++ row ∷ []
rows_in-take_more es i id row within there =
    let here : get_or es i (id, row) ≡ (id, row) = get_or_from_slice_get es i (id, row) (id, row) there in
    let more : take (i + 1) es ≡ take i es ++ (id, row) ∷ [] = take_more es i (id, row) within ∙ ap (λ (e : ℕ × Row). take i es ++ e ∷ []) here in
    ap rows_in more ∙ rows-push (take i es) id row
