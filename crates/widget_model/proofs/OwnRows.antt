-- What is asked about a client's widgets depends on that client's rows alone.
use Rattle.std.proofs.Common.{◌≡◌, ℕ, zero, suc, ◌+◌, max, Bool, true, false, cond, ◌&&◌, ◌||◌, not, nat_eq, List, [], ◌∷◌, Option, Some, None, refl, sym, ap, ◌∙◌, subst, arith}
use Rattle.std.proofs.lemmas.Bool.{and_parts, eqb-true}
use Rattle.std.proofs.lemmas.List.Sums.{sum_by-cons}
use Rattle.std.specs.List.{find, filter, list_any, count_by}
use Rattle.std.specs.Option.{option_map, option_map_or, option_and_then}
use Rattle.std.specs.Str.{bytes_eq}
use Rattle.kind_core.specs.declared.kinds.Kind.{Kind}
use Rattle.widget_model.specs.Rows.{Row}
use Rattle.widget_model.specs.Named.{has_name, row_named, rows_counted}
use Rattle.widget_model.specs.Trees.{parent_of, is_child, links_to, child_in, depth_in, is_above_in, greatest_child, height_in, root_in, is_used}
use Rattle.widget_model.specs.Named.{own_rows}

-- A test within another finds the same among what passes the other.
find-filter : {X : Type 0} (p q : X → Bool) (xs : List X) → find (λ x. p x && q x) (filter p xs) ≡ find (λ x. p x && q x) xs
find-filter p q [] = refl
find-filter p q (x ∷ xs) = by (find-filter p q xs) (p x) refl
  where
    by : find (λ x. p x && q x) (filter p xs) ≡ find (λ x. p x && q x) xs → (b : Bool) → p x ≡ b → find (λ x. p x && q x) (cond b (x ∷ filter p xs) (filter p xs)) ≡ cond (b && q x) (Some x) (find (λ x. p x && q x) xs)
    by rest true e = rw (e, rest) refl
    by rest false e = rest

list_any-filter : {X : Type 0} (p q : X → Bool) (xs : List X) → list_any (λ x. p x && q x) (filter p xs) ≡ list_any (λ x. p x && q x) xs
list_any-filter p q [] = refl
list_any-filter p q (x ∷ xs) = by (list_any-filter p q xs) (p x) refl
  where
    by : list_any (λ x. p x && q x) (filter p xs) ≡ list_any (λ x. p x && q x) xs → (b : Bool) → p x ≡ b → list_any (λ x. p x && q x) (cond b (x ∷ filter p xs) (filter p xs)) ≡ ((b && q x) || list_any (λ x. p x && q x) xs)
    by rest true e = rw (e, rest) refl
    by rest false e = rest

count_by-filter : {X : Type 0} (p q : X → Bool) (xs : List X) → count_by (λ x. p x && q x) (filter p xs) ≡ count_by (λ x. p x && q x) xs
count_by-filter p q [] = refl
count_by-filter {X} p q (x ∷ xs) = by (count_by-filter p q xs) (p x) refl ∙ sym (sum_by-cons (λ (x : X). cond (p x && q x) 1 0) x xs)
  where
    by : count_by (λ x. p x && q x) (filter p xs) ≡ count_by (λ x. p x && q x) xs → (b : Bool) → p x ≡ b → count_by (λ x. p x && q x) (cond b (x ∷ filter p xs) (filter p xs)) ≡ cond (p x && q x) 1 0 + count_by (λ x. p x && q x) xs
    by rest true e = sum_by-cons (λ (x : X). cond (p x && q x) 1 0) x (filter p xs) ∙ rw rest refl
    by rest false e = rw e (omega (arith, rest))

-- the first one found passes
find-passes : {X : Type 0} (p : X → Bool) (xs : List X) (x : X) → find p xs ≡ Some x → p x ≡ true
find-passes p [] x h = absurd (cc)
find-passes p (y ∷ ys) x h = by (find-passes p ys x) (p y) refl h
  where
    by : (find p ys ≡ Some x → p x ≡ true) → (b : Bool) → p y ≡ b → cond b (Some y) (find p ys) ≡ Some x → p x ≡ true
    by rest true e found = let same : y ≡ x = cc in subst (λ z. p z ≡ true) same e
    by rest false e found = rest found

-- So do two lists that agree on what passes the other.
pub find-agree : {X : Type 0} (p q : X → Bool) (a b : List X) → filter p a ≡ filter p b → find (λ x. p x && q x) a ≡ find (λ x. p x && q x) b
find-agree p q a b e = sym (find-filter p q a) ∙ ap (find (λ x. p x && q x)) e ∙ find-filter p q b

pub list_any-agree : {X : Type 0} (p q : X → Bool) (a b : List X) → filter p a ≡ filter p b → list_any (λ x. p x && q x) a ≡ list_any (λ x. p x && q x) b
list_any-agree p q a b e = sym (list_any-filter p q a) ∙ ap (list_any (λ x. p x && q x)) e ∙ list_any-filter p q b

pub count_by-agree : {X : Type 0} (p q : X → Bool) (a b : List X) → filter p a ≡ filter p b → count_by (λ x. p x && q x) a ≡ count_by (λ x. p x && q x) b
count_by-agree p q a b e = sym (count_by-filter p q a) ∙ ap (count_by (λ x. p x && q x)) e ∙ count_by-filter p q b

-- Two lists of rows that agree on a client's rows agree on what is asked of that client's widgets.
pub row_named-agree : (client : ℕ) (name : List ℕ) (a b : List Row) → own_rows client a ≡ own_rows client b → row_named a client name ≡ row_named b client name
row_named-agree client name a b e = find-agree (λ (row : Row). nat_eq client row.client) (λ (row : Row). bytes_eq name row.name) a b e

pub rows_counted-agree : (client : ℕ) (test : Kind → Bool) (a b : List Row) → own_rows client a ≡ own_rows client b → rows_counted client test a ≡ rows_counted client test b
rows_counted-agree client test a b e = count_by-agree (λ (row : Row). nat_eq client row.client) (λ (row : Row). test row.kind) a b e

pub parent_of-agree : (client : ℕ) (name : List ℕ) (a b : List Row) → own_rows client a ≡ own_rows client b → parent_of a client name ≡ parent_of b client name
parent_of-agree client name a b e = ap (option_and_then (λ (row : Row). option_map (λ attached. attached.0) row.attached)) (row_named-agree client name a b e)

pub child_in-agree : (client : ℕ) (name : List ℕ) (column line : ℕ) (a b : List Row) → own_rows client a ≡ own_rows client b → child_in a client name column line ≡ child_in b client name column line
child_in-agree client name column line a b e =
    find-agree (λ (row : Row). nat_eq client row.client) (λ (row : Row). option_map_or (λ attached. bytes_eq name attached.0 && (nat_eq column attached.1.column && nat_eq line attached.1.row)) row.attached false) a b e

pub depth_in-agree : (most client : ℕ) (name : List ℕ) (a b : List Row) → own_rows client a ≡ own_rows client b → depth_in most a client name ≡ depth_in most b client name
depth_in-agree zero client name a b e = refl
depth_in-agree (suc most) client name a b e = rw (parent_of-agree client name a b e) (ap (λ n. 1 + n) (by (λ name. depth_in-agree most client name a b e) (parent_of b client name)))
  where
    by : ((name : List ℕ) → depth_in most a client name ≡ depth_in most b client name) → (upper : Option (List ℕ)) → option_map_or (depth_in most a client) upper 0 ≡ option_map_or (depth_in most b client) upper 0
    by rest None = refl
    by rest (Some upper) = rest upper

pub is_above_in-agree : (most client : ℕ) (upper name : List ℕ) (a b : List Row) → own_rows client a ≡ own_rows client b → is_above_in most a client upper name ≡ is_above_in most b client upper name
is_above_in-agree zero client upper name a b e = refl
is_above_in-agree (suc most) client upper name a b e = rw (parent_of-agree client name a b e) (ap (λ t. bytes_eq upper name || t) (by (λ name. is_above_in-agree most client upper name a b e) (parent_of b client name)))
  where
    by : ((name : List ℕ) → is_above_in most a client upper name ≡ is_above_in most b client upper name) → (next : Option (List ℕ)) → option_map_or (is_above_in most a client upper) next false ≡ option_map_or (is_above_in most b client upper) next false
    by rest None = refl
    by rest (Some next) = rest next

pub root_in-agree : (most client : ℕ) (name : List ℕ) (a b : List Row) → own_rows client a ≡ own_rows client b → root_in most a client name ≡ root_in most b client name
root_in-agree zero client name a b e = refl
root_in-agree (suc most) client name a b e = rw (parent_of-agree client name a b e) (by (λ name. root_in-agree most client name a b e) (parent_of b client name))
  where
    by : ((name : List ℕ) → root_in most a client name ≡ root_in most b client name) → (upper : Option (List ℕ)) → option_map_or (root_in most a client) upper name ≡ option_map_or (root_in most b client) upper name
    by rest None = refl
    by rest (Some upper) = rest upper

-- the children of a client's widget are its own
greatest_child-own : (measure : List ℕ → ℕ) (client : ℕ) (name : List ℕ) (rows : List Row) → greatest_child measure client name (own_rows client rows) ≡ greatest_child measure client name rows
greatest_child-own measure client name [] = refl
greatest_child-own measure client name (row ∷ rows) = by (greatest_child-own measure client name rows) (nat_eq client row.client) refl
  where
    by : greatest_child measure client name (own_rows client rows) ≡ greatest_child measure client name rows → (b : Bool) → nat_eq client row.client ≡ b → greatest_child measure client name (cond b (row ∷ own_rows client rows) (own_rows client rows)) ≡ max (cond (is_child client name row) (measure row.name) 0) (greatest_child measure client name rows)
    by rest true e = rw rest refl
    by rest false e = rw e (omega (arith, rest))

-- measures that give each name one number
greatest_child-measure : (one two : List ℕ → ℕ) (client : ℕ) (name : List ℕ) (rows : List Row) → ((name : List ℕ) → one name ≡ two name) → greatest_child one client name rows ≡ greatest_child two client name rows
greatest_child-measure one two client name [] same = refl
greatest_child-measure one two client name (row ∷ rows) same = rw (same row.name, greatest_child-measure one two client name rows same) refl

pub height_in-agree : (most client : ℕ) (name : List ℕ) (a b : List Row) → own_rows client a ≡ own_rows client b → height_in most a client name ≡ height_in most b client name
height_in-agree zero client name a b e = refl
height_in-agree (suc most) client name a b e =
    ap (λ n. 1 + n)
    (greatest_child-measure (height_in most a client) (height_in most b client) client name a (λ name. height_in-agree most client name a b e)
    ∙ sym (greatest_child-own (height_in most b client) client name a)
    ∙ ap (greatest_child (height_in most b client) client name) e
    ∙ greatest_child-own (height_in most b client) client name b)

-- whether it has a child, and whether another is linked to it
pub list_any-is_child-agree : (client : ℕ) (name : List ℕ) (a b : List Row) → own_rows client a ≡ own_rows client b → list_any (is_child client name) a ≡ list_any (is_child client name) b
list_any-is_child-agree client name a b e =
    list_any-agree (λ (row : Row). nat_eq client row.client) (λ (row : Row). option_map_or (λ attached. bytes_eq name attached.0) row.attached false) a b e

pub list_any-links_to-agree : (client : ℕ) (name : List ℕ) (a b : List Row) → own_rows client a ≡ own_rows client b → list_any (links_to client name) a ≡ list_any (links_to client name) b
list_any-links_to-agree client name a b e =
    list_any-agree (λ (row : Row). nat_eq client row.client) (λ (row : Row). option_map_or (bytes_eq name) row.link false && not (bytes_eq name row.name)) a b e

-- a row of the client
is_used-agree : (client : ℕ) (row : Row) (a b : List Row) → own_rows client a ≡ own_rows client b → row.client ≡ client → is_used a row ≡ is_used b row
is_used-agree client row a b e own =
    let same : own_rows row.client a ≡ own_rows row.client b = subst (λ client. own_rows client a ≡ own_rows client b) (sym own) e in
    rw (list_any-is_child-agree row.client row.name a b same, list_any-links_to-agree row.client row.name a b same) refl

-- whether the named one is used
pub named-is_used-agree : (client : ℕ) (name : List ℕ) (a b : List Row) → own_rows client a ≡ own_rows client b → option_map_or (is_used a) (row_named a client name) false ≡ option_map_or (is_used b) (row_named b client name) false
named-is_used-agree client name a b e = rw (row_named-agree client name a b e) (by (row_named b client name) refl)
  where
    by : (found : Option Row) → row_named b client name ≡ found → option_map_or (is_used a) found false ≡ option_map_or (is_used b) found false
    by None there = refl
    by (Some row) there =
        let named = find-passes (has_name client name) b row there in
        let own : row.client ≡ client = sym (eqb-true client row.client (and_parts (nat_eq client row.client) (bytes_eq name row.name) named).0) in
        is_used-agree client row a b e own
