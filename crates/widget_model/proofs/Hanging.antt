-- Elements found in lists, rows under their names, and what a row hangs in, after rows were changed or left out.
use Rattle.std.proofs.Common.{◌≡◌, ℕ, zero, suc, Bool, true, false, cond, ◌&&◌, nat_eq, List, [], ◌∷◌, ◌++◌, map, Option, Some, None, refl, sym, ap, ◌∙◌, slice_get, ◌⊎◌, inl, inr}
use Rattle.std.proofs.lemmas.Bool.{true≢false, eqb-true, and_parts, and_from, or_parts, cond-true, cond-false}
use Rattle.std.proofs.lemmas.List.Folds.{find-append}
use Rattle.std.proofs.lemmas.Option.{same_Some}
use Rattle.std.proofs.lemmas.Slice.Eq.{bytes_eq-Decides}
use Rattle.std.specs.Cmp.{nat_eq_equiv}
use Rattle.std.specs.Cmp.Lexicographic.{nat_list_eq_equiv}
use Rattle.std.specs.List.{find, filter, list_all, list_any}
use Rattle.std.specs.Option.{option_map, option_map_or, option_and_then}
use Rattle.std.specs.Str.{bytes_eq}
use Rattle.kind_core.specs.declared.shapes.Cell.{Cell}
use Rattle.widget_model.specs.Rows.{Row}
use Rattle.widget_model.specs.Named.{has_name, row_named, with_named}
use Rattle.widget_model.specs.Trees.{can_be_child, parent_of, is_child}
use Rattle.widget_model.specs.Planted.{hangs_right, has_cell}
use Rattle.widget_model.specs.Named.{AreNamedApart}

pub find-passes : {X : Type 0} (p : X → Bool) (xs : List X) (x : X) → find p xs ≡ Some x → p x ≡ true
find-passes p [] x found = absurd (cc)
find-passes p (y ∷ ys) x found = by (find-passes p ys x) (p y) refl found
  where
    by : (find p ys ≡ Some x → p x ≡ true) → (b : Bool) → p y ≡ b → cond b (Some y) (find p ys) ≡ Some x → p x ≡ true
    by rest true passes h = let same : y ≡ x = cc in rw (← same) passes
    by rest false passes h = rest h

pub find-element : {X : Type 0} (p : X → Bool) (xs : List X) (x : X) → find p xs ≡ Some x → (i : ℕ) × (slice_get xs i ≡ Some x)
find-element p [] x found = absurd (cc)
find-element p (y ∷ ys) x found = by (find-element p ys x) (p y) found
  where
    by : (find p ys ≡ Some x → (i : ℕ) × (slice_get ys i ≡ Some x)) → (b : Bool) → cond b (Some y) (find p ys) ≡ Some x → (i : ℕ) × (slice_get (y ∷ ys) i ≡ Some x)
    by rest true h = (zero, h)
    by rest false h = let there = rest h in (suc there.0, there.1)

-- what holds of all elements holds of each, and the other way round
pub all_at : {X : Type 0} (p : X → Bool) (xs : List X) (i : ℕ) (x : X) → list_all p xs ≡ true → slice_get xs i ≡ Some x → p x ≡ true
all_at p [] i x h there = absurd (cc)
all_at p (y ∷ ys) zero x h there = let same : y ≡ x = cc in rw (← same) (and_parts _ _ h).0
all_at p (y ∷ ys) (suc i) x h there = all_at p ys i x (and_parts (p y) (list_all p ys) h).1 there

pub all_from : {X : Type 0} (p : X → Bool) (xs : List X) → ((i : ℕ) (x : X) → slice_get xs i ≡ Some x → p x ≡ true) → list_all p xs ≡ true
all_from p [] each = refl
all_from p (y ∷ ys) each = and_from _ _ (each zero y refl) (all_from p ys (λ i x there. each (suc i) x there))

pub none_at : {X : Type 0} (p : X → Bool) (xs : List X) (i : ℕ) (x : X) → list_any p xs ≡ false → slice_get xs i ≡ Some x → p x ≡ false
none_at p [] i x h there = absurd (cc)
none_at p (y ∷ ys) zero x h there = let same : y ≡ x = cc in rw (← same) (or_parts _ _ h).0
none_at p (y ∷ ys) (suc i) x h there = none_at p ys i x (or_parts (p y) (list_any p ys) h).1 there

pub all-filter : {X : Type 0} (p q : X → Bool) (xs : List X) → ((i : ℕ) (x : X) → slice_get xs i ≡ Some x → q x ≡ true → p x ≡ true) → list_all p (filter q xs) ≡ true
all-filter p q [] each = refl
all-filter p q (y ∷ ys) each = by (all-filter p q ys (λ i x there. each (suc i) x there)) (q y) refl
  where
    by : list_all p (filter q ys) ≡ true → (b : Bool) → q y ≡ b → list_all p (cond b (y ∷ filter q ys) (filter q ys)) ≡ true
    by rest true kept = and_from _ _ (each zero y refl kept) rest
    by rest false kept = rest

pub find_none_at : {X : Type 0} (p : X → Bool) (xs : List X) (i : ℕ) (x : X) → find p xs ≡ None → slice_get xs i ≡ Some x → p x ≡ false
find_none_at p [] i x absent there = absurd (cc)
find_none_at p (y ∷ ys) zero x absent there = by (p y) refl absent
  where
    by : (b : Bool) → p y ≡ b → cond b (Some y) (find p ys) ≡ None → p x ≡ false
    by true passes h = absurd (cc)
    by false passes h = let same : y ≡ x = cc in rw (← same) passes
find_none_at p (y ∷ ys) (suc i) x absent there = by (λ h. find_none_at p ys i x h there) (p y) absent
  where
    by : (find p ys ≡ None → p x ≡ false) → (b : Bool) → cond b (Some y) (find p ys) ≡ None → p x ≡ false
    by rest true h = absurd (cc)
    by rest false h = rest h

pub find_none_from : {X : Type 0} (p : X → Bool) (xs : List X) → ((i : ℕ) (x : X) → slice_get xs i ≡ Some x → p x ≡ false) → find p xs ≡ None
find_none_from p [] each = refl
find_none_from p (y ∷ ys) each = cond-false (p y) (Some y) (find p ys) (each zero y refl) ∙ find_none_from p ys (λ i x there. each (suc i) x there)

pub find-map : {X Y : Type 0} (p : Y → Bool) (f : X → Y) (xs : List X) → find p (map f xs) ≡ option_map f (find (λ x. p (f x)) xs)
find-map p f [] = refl
find-map p f (y ∷ ys) = by (find-map p f ys) (p (f y))
  where
    by : find p (map f ys) ≡ option_map f (find (λ x. p (f x)) ys) → (b : Bool) → cond b (Some (f y)) (find p (map f ys)) ≡ option_map f (cond b (Some y) (find (λ x. p (f x)) ys))
    by rest true = refl
    by rest false = rest

pub find-map_none : {X Y : Type 0} (p : Y → Bool) (f : X → Y) (xs : List X) → ((i : ℕ) (x : X) → slice_get xs i ≡ Some x → p (f x) ≡ false) → find p (map f xs) ≡ None
find-map_none p f xs each = find-map p f xs ∙ ap (option_map f) (find_none_from (λ x. p (f x)) xs each)

pub find-push_none : {X : Type 0} (p : X → Bool) (xs : List X) (x : X) → find p xs ≡ None → p x ≡ false → find p (xs ++ x ∷ []) ≡ None
find-push_none p xs x absent out = find-append p xs (x ∷ []) ∙ rw (absent, out) refl

pub find-same : {X : Type 0} (p q : X → Bool) (xs : List X) → ((i : ℕ) (x : X) → slice_get xs i ≡ Some x → p x ≡ q x) → find p xs ≡ find q xs
find-same p q [] each = refl
find-same p q (y ∷ ys) each = rw (each zero y refl, find-same p q ys (λ i x there. each (suc i) x there)) refl

-- a search of a list that was mapped, where each element is left or isn't looked for
pub find-map_same : {X : Type 0} (p : X → Bool) (f : X → X) (xs : List X) → ((i : ℕ) (x : X) → slice_get xs i ≡ Some x → (f x ≡ x) ⊎ ((p (f x) ≡ false) × (p x ≡ false))) → find p (map f xs) ≡ find p xs
find-map_same p f [] each = refl
find-map_same p f (y ∷ ys) each = by (find-map_same p f ys (λ i x there. each (suc i) x there)) (each zero y refl)
  where
    by : find p (map f ys) ≡ find p ys → (f y ≡ y) ⊎ ((p (f y) ≡ false) × (p y ≡ false)) → find p (map f (y ∷ ys)) ≡ find p (y ∷ ys)
    by rest (inl same) = rw (same, rest) refl
    by rest (inr out) = rw (out.0, out.1) rest

-- a search of a list from which elements were left out
pub find-filter : {X : Type 0} (p q : X → Bool) (xs : List X) → ((x : X) → p x ≡ true → q x ≡ true) → find p (filter q xs) ≡ find p xs
find-filter p q [] kept = refl
find-filter p q (y ∷ ys) kept = by (find-filter p q ys kept) (q y) refl (p y) refl
  where
    by : find p (filter q ys) ≡ find p ys → (b : Bool) → q y ≡ b → (d : Bool) → p y ≡ d → find p (cond b (y ∷ filter q ys) (filter q ys)) ≡ cond d (Some y) (find p ys)
    by rest true there true passes = rw passes refl
    by rest true there false passes = rw passes rest
    by rest false there true passes = absurd (true≢false (sym (kept y passes) ∙ there))
    by rest false there false passes = rest

pub find-filter_none : {X : Type 0} (p q : X → Bool) (xs : List X) → find p xs ≡ None → find p (filter q xs) ≡ None
find-filter_none p q [] absent = refl
find-filter_none p q (y ∷ ys) absent = by (find-filter_none p q ys) (q y) (p y) refl absent
  where
    by : (find p ys ≡ None → find p (filter q ys) ≡ None) → (b d : Bool) → p y ≡ d → cond d (Some y) (find p ys) ≡ None → find p (cond b (y ∷ filter q ys) (filter q ys)) ≡ None
    by rest b true passes h = absurd (cc)
    by rest true false passes h = rw passes (rest h)
    by rest false false passes h = rest h

-- what a test of a name decides
pub record IsNamed (client : ℕ) (name : List ℕ) (row : Row) : Type 0 where
  pub client_is : row.client ≡ client
  pub name_is : row.name ≡ name

pub IsNamed-from : (client : ℕ) (name : List ℕ) (row : Row) → has_name client name row ≡ true → IsNamed client name row
IsNamed-from client name row h =
    let parts = and_parts (nat_eq client row.client) (bytes_eq name row.name) h in
    record { client_is = sym (eqb-true client row.client parts.0); name_is = sym ((bytes_eq-Decides name row.name).0 parts.1) }

pub has_name-own : (row : Row) → has_name row.client row.name row ≡ true
has_name-own row = and_from _ _ (nat_eq_equiv.refl row.client) (nat_list_eq_equiv.refl row.name)

pub IsNamed-row_named : (rows : List Row) (client : ℕ) (name : List ℕ) (row : Row) → row_named rows client name ≡ Some row → IsNamed client name row
IsNamed-row_named rows client name row there = IsNamed-from client name row (find-passes (has_name client name) rows row there)

-- a change that leaves names
pub record LeavesNames (change : Row → Row) : Type 0 where
  pub client : (row : Row) → (change row).client ≡ row.client
  pub name : (row : Row) → (change row).name ≡ row.name

-- a change of the named row alone
abbrev pub changed : ℕ → List ℕ → (Row → Row) → Row → Row
changed client name change row = cond (has_name client name row) (change row) row

-- it leaves names where the change does
pub LeavesNames-changed : (client : ℕ) (name : List ℕ) (change : Row → Row) → LeavesNames change → LeavesNames (changed client name change)
LeavesNames-changed client name change leaves =
    record {
      client = λ row. by_client row (has_name client name row);
      name = λ row. by_name row (has_name client name row);
    }
  where
    by_client : (row : Row) (b : Bool) → (cond b (change row) row).client ≡ row.client
    by_client row true = leaves.client row
    by_client row false = refl

    by_name : (row : Row) (b : Bool) → (cond b (change row) row).name ≡ row.name
    by_name row true = leaves.name row
    by_name row false = refl

pub row_named-map : (rows : List Row) (change : Row → Row) (client : ℕ) (name : List ℕ) → LeavesNames change → row_named (map change rows) client name ≡ option_map change (row_named rows client name)
row_named-map rows change client name leaves =
    let same = find-same (λ (row : Row). has_name client name (change row)) (has_name client name) rows (λ i row there. rw (leaves.client row, leaves.name row) refl) in
    find-map (has_name client name) change rows ∙ ap (option_map change) same

-- where no two rows have one name, each row is the one of its name
pub row_named-own : (rows : List Row) (i : ℕ) (row : Row) → AreNamedApart rows → slice_get rows i ≡ Some row → row_named rows row.client row.name ≡ Some row
row_named-own [] i row apart there = absurd (cc)
row_named-own (first ∷ rows) zero row apart there =
    let same : first ≡ row = cc in
    let own : has_name row.client row.name first ≡ true = rw (← same) (has_name-own first) in
    cond-true (has_name row.client row.name first) (Some first) (row_named rows row.client row.name) own ∙ ap Some same
row_named-own (first ∷ rows) (suc i) row apart there = by (has_name row.client row.name first) refl (row_named-own rows i row apart.1 there)
  where
    by : (b : Bool) → has_name row.client row.name first ≡ b → row_named rows row.client row.name ≡ Some row → cond b (Some first) (row_named rows row.client row.name) ≡ Some row
    by true named rest =
        let is = IsNamed-from row.client row.name first named in
        let other : has_name first.client first.name row ≡ false = none_at (has_name first.client first.name) rows i row apart.0 there in
        let own : has_name first.client first.name row ≡ true = rw (is.client_is, is.name_is) (has_name-own row) in
        absurd (true≢false (sym own ∙ other))
    by false named rest = rest

-- so each row of that name is it
pub row_named-only : (rows : List Row) (i : ℕ) (row named : Row) (client : ℕ) (name : List ℕ) → AreNamedApart rows → row_named rows client name ≡ Some named → slice_get rows i ≡ Some row → has_name client name row ≡ true → row ≡ named
row_named-only rows i row named client name apart found there passes =
    let is = IsNamed-from client name row passes in
    let own : row_named rows client name ≡ Some row = rw (← is.client_is, ← is.name_is) (row_named-own rows i row apart there) in
    same_Some row named (sym own ∙ found)

-- rows of other names are found as they were
pub row_named-changed_other : (rows : List Row) (client : ℕ) (name : List ℕ) (change : Row → Row) (owner : ℕ) (other : List ℕ) → LeavesNames change → (nat_eq client owner && bytes_eq name other) ≡ false → row_named (with_named client name change rows) owner other ≡ row_named rows owner other
row_named-changed_other rows client name change owner other leaves differs = row_named-map rows (changed client name change) owner other (LeavesNames-changed client name change leaves) ∙ by (row_named rows owner other) refl
  where
    by : (o : Option Row) → row_named rows owner other ≡ o → option_map (changed client name change) o ≡ o
    by None found = refl
    by (Some row) found =
        let is = IsNamed-row_named rows owner other row found in
        let out : has_name client name row ≡ false = rw (is.client_is, is.name_is) differs in
        ap Some (cond-false (has_name client name row) (change row) row out)

-- where names are kept or left out as a whole, a kept one is found as it was
pub row_named-filter : (test : ℕ → List ℕ → Bool) (rows : List Row) (client : ℕ) (name : List ℕ) → test client name ≡ true → row_named (filter (λ row. test row.client row.name) rows) client name ≡ row_named rows client name
row_named-filter test rows client name kept =
    find-filter (has_name client name) (λ row. test row.client row.name) rows
    (λ row passes. let is = IsNamed-from client name row passes in rw (is.client_is, is.name_is) kept)

-- the parent that a found row names
abbrev pub parent_in : Option Row → Option (List ℕ)
parent_in o = option_and_then (λ (row : Row). option_map (λ (attached : List ℕ × Cell). attached.0) row.attached) o

pub parent_in-loose : (row : Row) → row.attached ≡ None → parent_in (Some row) ≡ None
parent_in-loose row loose = ap (λ (o : Option (List ℕ × Cell)). option_map (λ (attached : List ℕ × Cell). attached.0) o) loose

pub parent_in-same : (row other : Row) → row.attached ≡ other.attached → parent_in (Some row) ≡ parent_in (Some other)
parent_in-same row other same = ap (λ (o : Option (List ℕ × Cell)). option_map (λ (attached : List ℕ × Cell). attached.0) o) same

-- the row that a parent is the parent of
pub record HangsIn (rows : List Row) (client : ℕ) (name parent : List ℕ) : Type 0 where
  pub i : ℕ
  pub row : Row
  pub cell : Cell
  pub there : slice_get rows i ≡ Some row
  pub found : row_named rows client name ≡ Some row
  pub named : IsNamed client name row
  pub attached : row.attached ≡ Some (parent, cell)

pub HangsIn-from : (rows : List Row) (client : ℕ) (name parent : List ℕ) → parent_of rows client name ≡ Some parent → HangsIn rows client name parent
HangsIn-from rows client name parent h = by (row_named rows client name) refl h
  where
    by : (o : Option Row) → row_named rows client name ≡ o → parent_in o ≡ Some parent → HangsIn rows client name parent
    by None found h = absurd (cc)
    by (Some row) found h = inside row.attached refl h
      where
        inside : (attached : Option (List ℕ × Cell)) → row.attached ≡ attached → option_map (λ (attached : List ℕ × Cell). attached.0) attached ≡ Some parent → HangsIn rows client name parent
        inside None hangs h = absurd (cc)
        inside (Some attached) hangs h =
            let place = find-element _ rows row found in
            let same : attached.0 ≡ parent = cc in
            record {
              i = place.0;
              row = row;
              cell = attached.1;
              there = place.1;
              found = found;
              named = IsNamed-row_named rows client name row found;
              attached = hangs ∙ ap (λ (above : List ℕ). Some (above, attached.1)) same;
            }

pub HangsIn-child : (rows : List Row) (client : ℕ) (name parent : List ℕ) (h : HangsIn rows client name parent) → is_child client parent h.row ≡ true
HangsIn-child rows client name parent h =
    rw (h.named.client_is, h.attached) (and_from _ _ (nat_eq_equiv.refl client) (nat_list_eq_equiv.refl parent))

-- what hanging right says of a row that hangs
pub record IsHungRight (rows : List Row) (row : Row) (name : List ℕ) (cell : Cell) : Type 0 where
  pub upper : Row
  pub can_be_child : can_be_child row.kind ≡ true
  pub found : row_named rows row.client name ≡ Some upper
  pub has_cell : has_cell upper.kind cell ≡ true

pub hangs_right-at : (rows : List Row) (row : Row) (name : List ℕ) (cell : Cell) → hangs_right rows row ≡ true → row.attached ≡ Some (name, cell) → IsHungRight rows row name cell
hangs_right-at rows row name cell right is =
    let whole : (can_be_child row.kind && option_map_or (λ (parent : Row). has_cell parent.kind cell) (row_named rows row.client name) false) ≡ true = sym (ap (λ (o : Option (List ℕ × Cell)). option_map_or (λ (attached : List ℕ × Cell). can_be_child row.kind && option_map_or (λ (parent : Row). has_cell parent.kind attached.1) (row_named rows row.client attached.0) false) o true) is) ∙ right in
    by (row_named rows row.client name) refl (and_parts (can_be_child row.kind) (option_map_or (λ (parent : Row). has_cell parent.kind cell) (row_named rows row.client name) false) whole)
  where
    by : (o : Option Row) → row_named rows row.client name ≡ o → (can_be_child row.kind ≡ true) × (option_map_or (λ (parent : Row). has_cell parent.kind cell) o false ≡ true) → IsHungRight rows row name cell
    by None found parts = absurd (true≢false (sym parts.1))
    by (Some upper) found parts = record { upper = upper; can_be_child = parts.0; found = found; has_cell = parts.1 }

pub hangs_right-from : (rows : List Row) (row : Row) → ((name : List ℕ) (cell : Cell) → row.attached ≡ Some (name, cell) → IsHungRight rows row name cell) → hangs_right rows row ≡ true
hangs_right-from rows row each = by row.attached refl
  where
    by : (o : Option (List ℕ × Cell)) → row.attached ≡ o → option_map_or (λ (attached : List ℕ × Cell). can_be_child row.kind && option_map_or (λ (parent : Row). has_cell parent.kind attached.1) (row_named rows row.client attached.0) false) o true ≡ true
    by None is = refl
    by (Some attached) is =
        let right = each attached.0 attached.1 is in
        and_from _ _ right.can_be_child (ap (λ (o : Option Row). option_map_or (λ (parent : Row). has_cell parent.kind attached.1) o false) right.found ∙ right.has_cell)
