-- From numbers to names: what the definitions on numbered rows are over the rows alone, where the client and name
-- that are asked for are those of a number.
use Rattle.std.proofs.Common.{◌≡◌, ℕ, Bool, true, false, cond, not, ◌&&◌, ◌||◌, nat_eq, List, [], ◌∷◌, ◌++◌, ◌+◌, map, Some, None, is_some, refl, sym, ap, ◌∙◌}
use Rattle.std.proofs.lemmas.Bool.{true≢false, eqb-true, eq-eqb, ne_eqb, and_parts, and_from}
use Rattle.std.proofs.lemmas.Slice.Eq.{bytes_eq-Decides}
use Rattle.std.specs.Cmp.{nat_eq_equiv}
use Rattle.std.specs.Cmp.Lexicographic.{nat_list_eq_equiv}
use Rattle.std.specs.List.{filter, list_any}
use Rattle.std.specs.Str.{bytes_eq}
use Rattle.kind_core.specs.declared.kinds.Kind.{Kind}
use Rattle.widget_model.specs.Rows.{Row}
use Rattle.widget_model.specs.Nodes.{Node, node_of, id_named, node_at}
use Rattle.widget_model.specs.Widgets.{Widgets, row_at, nodes, rows_in, rows_of, with_row, without_row, departed}
use Rattle.widget_model.specs.Forest.{HaveOwnNumbers}
use Rattle.widget_model.specs.Named.{has_name, row_named, with_named, without_named, rows_of_others, AreNamedApart}

-- a test that is true, and one that is false, decide equality of names
pub has_name-parts : (client : ℕ) (name : List ℕ) (row : Row) → has_name client name row ≡ true → (row.client ≡ client) × (row.name ≡ name)
has_name-parts client name row h =
    let parts = and_parts (nat_eq client row.client) (bytes_eq name row.name) h in
    (sym (eqb-true client row.client parts.0), sym ((bytes_eq-Decides name row.name).0 parts.1))

pub has_name-own : (row : Row) → has_name row.client row.name row ≡ true
has_name-own row = and_from _ _ (nat_eq_equiv.refl row.client) (nat_list_eq_equiv.refl row.name)

-- the client and name of the row that is found are those that were asked for
pub row_named-parts : (rs : List Row) (client : ℕ) (name : List ℕ) (row : Row) → row_named rs client name ≡ Some row → (row.client ≡ client) × (row.name ≡ name)
row_named-parts [] client name row found = absurd (cc)
row_named-parts (r ∷ rs) client name row found = by (row_named-parts rs client name row) (has_name client name r) refl found
  where
    by : (row_named rs client name ≡ Some row → (row.client ≡ client) × (row.name ≡ name)) → (b : Bool) → has_name client name r ≡ b → cond b (Some r) (row_named rs client name) ≡ Some row → (row.client ≡ client) × (row.name ≡ name)
    by rest true p h = let same : r ≡ row = cc in has_name-parts client name row (ap (has_name client name) (sym same) ∙ p)
    by rest false p h = rest h

-- a number that no node has is no row's
row_at-absent : (es : List (ℕ × Row)) (id : ℕ) → node_at (nodes es) id ≡ None → row_at es id ≡ None
row_at-absent [] id h = refl
row_at-absent (e ∷ es) id h = by (row_at-absent es id) (nat_eq id e.0) h
  where
    by : (node_at (nodes es) id ≡ None → row_at es id ≡ None) → (b : Bool) → cond b (Some (node_of e.1)) (node_at (nodes es) id) ≡ None → cond b (Some e.1) (row_at es id) ≡ None
    by rest true h = absurd (cc)
    by rest false h = rest h

-- the number that a name has is a row's
pub row_at-named : (es : List (ℕ × Row)) (client : ℕ) (name : List ℕ) (id : ℕ) → id_named (nodes es) client name ≡ Some id → is_some (row_at es id) ≡ true
row_at-named [] client name id found = absurd (cc)
row_at-named (e ∷ es) client name id found = by (row_at-named es client name id) (has_name client name e.1) found
  where
    later : (b : Bool) → is_some (row_at es id) ≡ true → is_some (cond b (Some e.1) (row_at es id)) ≡ true
    later true h = refl
    later false h = h

    by : (id_named (nodes es) client name ≡ Some id → is_some (row_at es id) ≡ true) → (b : Bool) → cond b (Some e.0) (id_named (nodes es) client name) ≡ Some id → is_some (row_at (e ∷ es) id) ≡ true
    by rest true h = let same : e.0 ≡ id = cc in rw (eq-eqb id e.0 (sym same)) refl
    by rest false h = later (nat_eq id e.0) (rest h)

-- a number that is named further on isn't the first entry's
other_number : (e : ℕ × Row) (es : List (ℕ × Row)) (client : ℕ) (name : List ℕ) (id : ℕ) → HaveOwnNumbers (nodes (e ∷ es)) → id_named (nodes es) client name ≡ Some id → nat_eq id e.0 ≡ false
other_number e es client name id own found =
    ne_eqb id e.0
    (λ same. true≢false (sym (row_at-named es client name id found) ∙ ap is_some (ap (row_at es) same ∙ row_at-absent es e.0 own.0)))

-- the row of a name is the row with the name's number
pub row_named-found : (es : List (ℕ × Row)) (client : ℕ) (name : List ℕ) (id : ℕ) → HaveOwnNumbers (nodes es) → id_named (nodes es) client name ≡ Some id → row_named (rows_in es) client name ≡ row_at es id
row_named-found [] client name id own found = absurd (cc)
row_named-found (e ∷ es) client name id own found = by (row_named-found es client name id own.1) (has_name client name e.1) found
  where
    by : (id_named (nodes es) client name ≡ Some id → row_named (rows_in es) client name ≡ row_at es id) → (b : Bool) → cond b (Some e.0) (id_named (nodes es) client name) ≡ Some id → cond b (Some e.1) (row_named (rows_in es) client name) ≡ row_at (e ∷ es) id
    by rest true h = let same : e.0 ≡ id = cc in rw (eq-eqb id e.0 (sym same)) refl
    by rest false h = rw (other_number e es client name id own h) (rest h)

pub row_named-none : (es : List (ℕ × Row)) (client : ℕ) (name : List ℕ) → id_named (nodes es) client name ≡ None → row_named (rows_in es) client name ≡ None
row_named-none [] client name absent = refl
row_named-none (e ∷ es) client name absent = by (row_named-none es client name) (has_name client name e.1) absent
  where
    by : (id_named (nodes es) client name ≡ None → row_named (rows_in es) client name ≡ None) → (b : Bool) → cond b (Some e.0) (id_named (nodes es) client name) ≡ None → cond b (Some e.1) (row_named (rows_in es) client name) ≡ None
    by rest true h = absurd (cc)
    by rest false h = rest h

-- a name that no row has is no number's, and the converse
pub id_named-none : (es : List (ℕ × Row)) (client : ℕ) (name : List ℕ) → list_any (has_name client name) (rows_in es) ≡ false → id_named (nodes es) client name ≡ None
id_named-none [] client name none = refl
id_named-none (e ∷ es) client name none = by (id_named-none es client name) (has_name client name e.1) none
  where
    by : (list_any (has_name client name) (rows_in es) ≡ false → id_named (nodes es) client name ≡ None) → (b : Bool) → (b || list_any (has_name client name) (rows_in es)) ≡ false → cond b (Some e.0) (id_named (nodes es) client name) ≡ None
    by rest true h = absurd (true≢false h)
    by rest false h = rest h

pub any_named-none : (es : List (ℕ × Row)) (client : ℕ) (name : List ℕ) → id_named (nodes es) client name ≡ None → list_any (has_name client name) (rows_in es) ≡ false
any_named-none [] client name none = refl
any_named-none (e ∷ es) client name none = by (any_named-none es client name) (has_name client name e.1) none
  where
    by : (id_named (nodes es) client name ≡ None → list_any (has_name client name) (rows_in es) ≡ false) → (b : Bool) → cond b (Some e.0) (id_named (nodes es) client name) ≡ None → (b || list_any (has_name client name) (rows_in es)) ≡ false
    by rest true h = absurd (cc)
    by rest false h = rest h

-- behind an entry its name is no number's
name_behind : (e : ℕ × Row) (es : List (ℕ × Row)) (client : ℕ) (name : List ℕ) → AreNamedApart (rows_in (e ∷ es)) → has_name client name e.1 ≡ true → id_named (nodes es) client name ≡ None
name_behind e es client name own q =
    let parts = has_name-parts client name e.1 q in
    rw (← parts.0, ← parts.1) (id_named-none es e.1.client e.1.name own.0)

-- a numbered row is found under its own client and name
pub id_named-row : (es : List (ℕ × Row)) (id : ℕ) (row : Row) → AreNamedApart (rows_in es) → row_at es id ≡ Some row → id_named (nodes es) row.client row.name ≡ Some id
id_named-row [] id row own there = absurd (cc)
id_named-row (e ∷ es) id row own there = by (id_named-row es id row own.1) (nat_eq id e.0) refl there
  where
    other : (b : Bool) → has_name row.client row.name e.1 ≡ b → id_named (nodes es) row.client row.name ≡ Some id → cond b (Some e.0) (id_named (nodes es) row.client row.name) ≡ Some id
    other true q rest =
        let absent : id_named (nodes es) row.client row.name ≡ None = name_behind e es row.client row.name own q in
        absurd (cc)
    other false q rest = rest

    by : (row_at es id ≡ Some row → id_named (nodes es) row.client row.name ≡ Some id) → (b : Bool) → nat_eq id e.0 ≡ b → cond b (Some e.1) (row_at es id) ≡ Some row → id_named (nodes (e ∷ es)) row.client row.name ≡ Some id
    by rest true q h =
        let same : e.1 ≡ row = cc in
        let number : e.0 ≡ id = sym (eqb-true id e.0 q) in
        rw (← same) (rw (has_name-own e.1) (ap Some number))
    by rest false q h = other (has_name row.client row.name e.1) refl (rest h)

-- a number or a name that isn't there is changed nowhere
pub with_row-absent : (es : List (ℕ × Row)) (id : ℕ) (change : Row → Row) → node_at (nodes es) id ≡ None → with_row id change es ≡ es
with_row-absent [] id change absent = refl
with_row-absent (e ∷ es) id change absent = by (with_row-absent es id change) (nat_eq id e.0) absent
  where
    by : (node_at (nodes es) id ≡ None → with_row id change es ≡ es) → (b : Bool) → cond b (Some (node_of e.1)) (node_at (nodes es) id) ≡ None → cond b (e.0, change e.1) e ∷ with_row id change es ≡ e ∷ es
    by rest true h = absurd (cc)
    by rest false h = rw (rest h) refl

pub with_named-absent : (rs : List Row) (client : ℕ) (name : List ℕ) (change : Row → Row) → row_named rs client name ≡ None → with_named client name change rs ≡ rs
with_named-absent [] client name change absent = refl
with_named-absent (r ∷ rs) client name change absent = by (with_named-absent rs client name change) (has_name client name r) absent
  where
    by : (row_named rs client name ≡ None → with_named client name change rs ≡ rs) → (b : Bool) → cond b (Some r) (row_named rs client name) ≡ None → cond b (change r) r ∷ with_named client name change rs ≡ r ∷ rs
    by rest true h = absurd (cc)
    by rest false h = rw (rest h) refl

without_row-absent : (es : List (ℕ × Row)) (id : ℕ) → node_at (nodes es) id ≡ None → without_row id es ≡ es
without_row-absent [] id absent = refl
without_row-absent (e ∷ es) id absent = by (without_row-absent es id) (nat_eq id e.0) absent
  where
    by : (node_at (nodes es) id ≡ None → without_row id es ≡ es) → (b : Bool) → cond b (Some (node_of e.1)) (node_at (nodes es) id) ≡ None → cond b (without_row id es) (e ∷ without_row id es) ≡ e ∷ es
    by rest true h = absurd (cc)
    by rest false h = rw (rest h) refl

pub without_named-absent : (rs : List Row) (client : ℕ) (name : List ℕ) → row_named rs client name ≡ None → without_named client name rs ≡ rs
without_named-absent [] client name absent = refl
without_named-absent (r ∷ rs) client name absent = by (without_named-absent rs client name) (has_name client name r) absent
  where
    by : (row_named rs client name ≡ None → without_named client name rs ≡ rs) → (b : Bool) → cond b (Some r) (row_named rs client name) ≡ None → cond (not b) (r ∷ without_named client name rs) (without_named client name rs) ≡ r ∷ rs
    by rest true h = absurd (cc)
    by rest false h = rw (rest h) refl

-- behind the entry of a name there is neither its number nor its name again
nothing_behind : (e : ℕ × Row) (es : List (ℕ × Row)) (client : ℕ) (name : List ℕ) (id : ℕ) → HaveOwnNumbers (nodes (e ∷ es)) → AreNamedApart (rows_in (e ∷ es)) → has_name client name e.1 ≡ true → e.0 ≡ id → (node_at (nodes es) id ≡ None) × (row_named (rows_in es) client name ≡ None)
nothing_behind e es client name id numbers names q same =
    (rw (← same) numbers.0, row_named-none es client name (name_behind e es client name names q))

-- a change of the numbered row is a change of the named one
pub rows-with_row : (es : List (ℕ × Row)) (client : ℕ) (name : List ℕ) (id : ℕ) (change : Row → Row) → HaveOwnNumbers (nodes es) → AreNamedApart (rows_in es) → id_named (nodes es) client name ≡ Some id → rows_in (with_row id change es) ≡ with_named client name change (rows_in es)
rows-with_row [] client name id change numbers names found = refl
rows-with_row (e ∷ es) client name id change numbers names found = by (rows-with_row es client name id change numbers.1 names.1) (has_name client name e.1) refl found
  where
    by : (id_named (nodes es) client name ≡ Some id → rows_in (with_row id change es) ≡ with_named client name change (rows_in es)) → (b : Bool) → has_name client name e.1 ≡ b → cond b (Some e.0) (id_named (nodes es) client name) ≡ Some id → rows_in (with_row id change (e ∷ es)) ≡ cond b (change e.1) e.1 ∷ with_named client name change (rows_in es)
    by rest true q h =
        let same : e.0 ≡ id = cc in
        let behind = nothing_behind e es client name id numbers names q same in
        rw (eq-eqb id e.0 (sym same), with_row-absent es id change behind.0, with_named-absent (rows_in es) client name change behind.1) refl
    by rest false q h = rw (other_number e es client name id numbers h, rest h) refl

-- without the numbered row there is none of the name
pub rows-without_row : (es : List (ℕ × Row)) (client : ℕ) (name : List ℕ) (id : ℕ) → HaveOwnNumbers (nodes es) → AreNamedApart (rows_in es) → id_named (nodes es) client name ≡ Some id → rows_in (without_row id es) ≡ without_named client name (rows_in es)
rows-without_row [] client name id numbers names found = refl
rows-without_row (e ∷ es) client name id numbers names found = by (rows-without_row es client name id numbers.1 names.1) (has_name client name e.1) refl found
  where
    by : (id_named (nodes es) client name ≡ Some id → rows_in (without_row id es) ≡ without_named client name (rows_in es)) → (b : Bool) → has_name client name e.1 ≡ b → cond b (Some e.0) (id_named (nodes es) client name) ≡ Some id → rows_in (without_row id (e ∷ es)) ≡ cond (not b) (e.1 ∷ without_named client name (rows_in es)) (without_named client name (rows_in es))
    by rest true q h =
        let same : e.0 ≡ id = cc in
        let behind = nothing_behind e es client name id numbers names q same in
        rw (eq-eqb id e.0 (sym same), without_row-absent es id behind.0, without_named-absent (rows_in es) client name behind.1) refl
    by rest false q h = rw (other_number e es client name id numbers h, rest h) refl

-- a new row is last
pub rows-push : (es : List (ℕ × Row)) (id : ℕ) (row : Row) → rows_in (es ++ (id, row) ∷ []) ≡ rows_in es ++ row ∷ []
rows-push [] id row = refl
rows-push (e ∷ es) id row = rw (rows-push es id row) refl

-- a client leaves with its rows
pub rows-filter_others : (es : List (ℕ × Row)) (client : ℕ) → rows_in (filter (λ (e : ℕ × Row). not (nat_eq client e.1.client)) es) ≡ rows_of_others client (rows_in es)
rows-filter_others [] client = refl
rows-filter_others (e ∷ es) client = by (rows-filter_others es client) (not (nat_eq client e.1.client))
  where
    by : rows_in (filter (λ (e : ℕ × Row). not (nat_eq client e.1.client)) es) ≡ rows_of_others client (rows_in es) → (b : Bool) → rows_in (cond b (e ∷ filter (λ (e : ℕ × Row). not (nat_eq client e.1.client)) es) (filter (λ (e : ℕ × Row). not (nat_eq client e.1.client)) es)) ≡ cond b (e.1 ∷ rows_of_others client (rows_in es)) (rows_of_others client (rows_in es))
    by rest true = rw rest refl
    by rest false = rest

pub rows_of-departed : (widgets : Widgets) (client : ℕ) → rows_of (departed client widgets) ≡ rows_of_others client (rows_of widgets)
rows_of-departed widgets client = rows-filter_others widgets.entries client

-- the named row's change is seen in the rows exactly where it changes the row
pub with_named-kept : (rs : List Row) (client : ℕ) (name : List ℕ) (change : Row → Row) (row : Row) → row_named rs client name ≡ Some row → with_named client name change rs ≡ rs → change row ≡ row
with_named-kept [] client name change row found same = absurd (cc)
with_named-kept (r ∷ rs) client name change row found same = by (with_named-kept rs client name change row) (has_name client name r) found same
  where
    by : (row_named rs client name ≡ Some row → with_named client name change rs ≡ rs → change row ≡ row) → (b : Bool) → cond b (Some r) (row_named rs client name) ≡ Some row → cond b (change r) r ∷ with_named client name change rs ≡ r ∷ rs → change row ≡ row
    by rest true h k =
        let here : r ≡ row = cc in
        let first : change r ≡ r = cc in
        ap change (sym here) ∙ first ∙ here
    by rest false h k = let later : with_named client name change rs ≡ rs = cc in rest h later

pub with_named-same : (es : List (ℕ × Row)) (client : ℕ) (name : List ℕ) (change : Row → Row) (row : Row) → AreNamedApart (rows_in es) → row_named (rows_in es) client name ≡ Some row → change row ≡ row → with_named client name change (rows_in es) ≡ rows_in es
with_named-same [] client name change row names found same = refl
with_named-same (e ∷ es) client name change row names found same = by (with_named-same es client name change row names.1) (has_name client name e.1) refl found
  where
    by : (row_named (rows_in es) client name ≡ Some row → change row ≡ row → with_named client name change (rows_in es) ≡ rows_in es) → (b : Bool) → has_name client name e.1 ≡ b → cond b (Some e.1) (row_named (rows_in es) client name) ≡ Some row → cond b (change e.1) e.1 ∷ with_named client name change (rows_in es) ≡ rows_in (e ∷ es)
    by rest true q h =
        let here : e.1 ≡ row = cc in
        let first : change e.1 ≡ e.1 = ap change here ∙ same ∙ sym here in
        rw (first, with_named-absent (rows_in es) client name change (row_named-none es client name (name_behind e es client name names q))) refl
    by rest false q h = rw (rest h same) refl
