-- Numbers stay with their widgets, and so the kept places of the others stay the ones that they are due.
use Rattle.std.proofs.Common.{◌≡◌, ℕ, true, false, not, nat_eq, List, Option, Some, None, is_some, refl, sym, ap, ◌∙◌, subst}
use Rattle.std.proofs.lemmas.Bool.{eqb-true}
use Rattle.std.specs.Option.{option_map}
use Rattle.widget_model.specs.Rows.{Row}
use Rattle.widget_model.specs.Nodes.{Node, node_of, node_at, id_named}
use Rattle.widget_model.specs.Named.{has_name, own_rows, rows_of_others, row_named, AreNamedApart}
use Rattle.widget_model.specs.Keys.{key_of}
use Rattle.widget_model.specs.Widgets.{Widgets, nodes, rows_of, row_at, key_at, place_at, rows_in}
use Rattle.widget_model.specs.Forest.{IsWidgets}
use Rattle.widget_model.proofs.Hanging.{find-element}
use Rattle.widget_model.proofs.Naming.{id_named-row}
use Rattle.widget_model.proofs.OwnRows.{row_named-agree}
use Rattle.tree_core.proofs.Listed.{listed_number, row_named-row}
use Rattle.tree_core.proofs.ForestLemmas.{node_at-nodes}
use Rattle.scene_model.specs.DuePlaces.{due_place}
use Rattle.scene_model.proofs.DuePlaces.{due_place-agree}
use Rattle.desk_model.proofs.OthersRows.{filter-within}
use Rattle.desk_layout.specs.Placed.{HaveDuePlaces}
use Rattle.desk_layout.specs.Numbers.{KeepsNumbers}

-- the key of a number is that of its node
pub key_at-node : (es : List (ℕ × Row)) (id : ℕ) → key_at es id ≡ option_map (λ (node : Node). (node.client, node.name)) (node_at (nodes es) id)
key_at-node es id = by (row_at es id) ∙ sym (ap (option_map (λ (node : Node). (node.client, node.name))) (node_at-nodes es id))
  where
    by : (o : Option Row) → option_map key_of o ≡ option_map (λ (node : Node). (node.client, node.name)) (option_map node_of o)
    by None = refl
    by (Some row) = refl

-- a number whose node stays names what it named
pub key_at-kept : (old new : List (ℕ × Row)) (id : ℕ) (key : ℕ × List ℕ) → (is_some (node_at (nodes old) id) ≡ true → node_at (nodes new) id ≡ node_at (nodes old) id) → key_at old id ≡ Some key → key_at new id ≡ Some key
key_at-kept old new id key kept named = by (node_at (nodes old) id) refl (sym (key_at-node old id) ∙ named)
  where
    by : (o : Option Node) → node_at (nodes old) id ≡ o → option_map (λ (node : Node). (node.client, node.name)) o ≡ Some key → key_at new id ≡ Some key
    by None p h = absurd (cc)
    by (Some node) p h = key_at-node new id ∙ ap (option_map (λ (node : Node). (node.client, node.name))) (kept (ap is_some p) ∙ p) ∙ h

-- a number with a key has a row of that key
pub key-row : (es : List (ℕ × Row)) (id : ℕ) (key : ℕ × List ℕ) → key_at es id ≡ Some key → (row : Row) × (row_at es id ≡ Some row) × (key_of row ≡ key)
key-row es id key named = by (row_at es id) refl named
  where
    by : (o : Option Row) → row_at es id ≡ o → option_map key_of o ≡ Some key → (row : Row) × (row_at es id ≡ Some row) × (key_of row ≡ key)
    by None p h = absurd (cc)
    by (Some row) p h = let same : key_of row ≡ key = cc in (row, p, same)

named-key : (es : List (ℕ × Row)) (id : ℕ) (key : ℕ × List ℕ) → AreNamedApart (rows_in es) → key_at es id ≡ Some key → id_named (nodes es) key.0 key.1 ≡ Some id
named-key es id key own named =
    let found = key-row es id key named in
    ap (λ (k : ℕ × List ℕ). id_named (nodes es) k.0 k.1) (sym found.2) ∙ id_named-row es id found.0 own found.1

-- no two numbers have one key
one-number : (es : List (ℕ × Row)) (i j : ℕ) (key : ℕ × List ℕ) → AreNamedApart (rows_in es) → key_at es i ≡ Some key → key_at es j ≡ Some key → i ≡ j
one-number es i j key own first second =
    let both : Some i ≡ Some j = sym (named-key es i key own first) ∙ named-key es j key own second in
    cc

-- each number that is live afterwards names what it named
pub numbers-fewer : (old new : List (ℕ × Row)) → AreNamedApart (rows_in old) → ((id : ℕ) (row : Row) → row_at new id ≡ Some row → row_at old id ≡ Some row) → KeepsNumbers old new
numbers-fewer old new own fewer = record {
  keys = λ id before after first second.
      let both : Some before ≡ Some after = sym first ∙ back id after second in
      cc;
  numbers = λ key before after first second. one-number old before after key own first (back after key second);
}
  where
    back : (id : ℕ) (key : ℕ × List ℕ) → key_at new id ≡ Some key → key_at old id ≡ Some key
    back id key named = let found = key-row new id key named in ap (option_map key_of) (fewer id found.0 found.1) ∙ ap Some found.2

-- each number that was live names what it named
pub numbers-more : (old new : List (ℕ × Row)) → AreNamedApart (rows_in new) → ((id : ℕ) → is_some (node_at (nodes old) id) ≡ true → node_at (nodes new) id ≡ node_at (nodes old) id) → KeepsNumbers old new
numbers-more old new own kept = record {
  keys = λ id before after first second.
      let both : Some before ≡ Some after = sym (key_at-kept old new id before (kept id) first) ∙ second in
      cc;
  numbers = λ key before after first second. one-number new before after key own (key_at-kept old new before key (kept before) first) second;
}

pub numbers-same : (es : List (ℕ × Row)) → AreNamedApart (rows_in es) → KeepsNumbers es es
numbers-same es own = numbers-fewer es es own (λ id row there. there)

pub numbers-equal : (es fs : List (ℕ × Row)) → AreNamedApart (rows_in es) → fs ≡ es → KeepsNumbers es fs
numbers-equal es fs own same = subst (λ (gs : List (ℕ × Row)). KeepsNumbers es gs) (sym same) (numbers-same es own)

-- another client's rows are the same where those of all others are
pub own_rows-others : (client other : ℕ) (a b : List Row) → nat_eq client other ≡ false → rows_of_others client a ≡ rows_of_others client b → own_rows other a ≡ own_rows other b
own_rows-others client other a b differ same =
    let others : (row : Row) → nat_eq other row.client ≡ true → not (nat_eq client row.client) ≡ true = λ row e. rw (← eqb-true other row.client e, differ) refl in
    sym (filter-within (λ (row : Row). not (nat_eq client row.client)) (λ (row : Row). nat_eq other row.client) others a)
    ∙ ap (own_rows other) same
    ∙ filter-within (λ (row : Row). not (nat_eq client row.client)) (λ (row : Row). nat_eq other row.client) others b

-- the number of a named row
pub number-named : (w : Widgets) (row : Row) → IsWidgets w → row_named (rows_of w) row.client row.name ≡ Some row → (id : ℕ) × (row_at w.entries id ≡ Some row)
number-named w row valid named =
    let place = find-element (has_name row.client row.name) (rows_of w) row named in
    listed_number w.entries place.0 row valid.numbered.own_numbers place.1

-- Where a client's command leaves the others' rows and the places of what is there, theirs are the places that are due.
pub others-due : (client : ℕ) (old new : Widgets) → IsWidgets old → IsWidgets new → HaveDuePlaces old → KeepsNumbers old.entries new.entries
    → ((id : ℕ) (row : Row) → row_at new.entries id ≡ Some row → place_at new id ≡ place_at old id)
    → rows_of_others client (rows_of new) ≡ rows_of_others client (rows_of old)
    → (id : ℕ) (row : Row) → row_at new.entries id ≡ Some row → nat_eq client row.client ≡ false → place_at new id ≡ due_place (rows_of new) row
others-due client old new valid sound due numbers places others id row there differ =
    places id row there ∙ due.each id row before ∙ sym (due_place-agree (rows_of new) (rows_of old) row rows)
  where
    rows : own_rows row.client (rows_of new) ≡ own_rows row.client (rows_of old)
    rows = own_rows-others client row.client (rows_of new) (rows_of old) differ others

    was : row_named (rows_of old) row.client row.name ≡ Some row
    was = sym (row_named-agree row.client row.name (rows_of new) (rows_of old) rows) ∙ row_named-row new.entries id row sound.numbered.own_numbers sound.rows.names there

    number : (n : ℕ) × (row_at old.entries n ≡ Some row)
    number = number-named old row valid was

    before : row_at old.entries id ≡ Some row
    before = ap (row_at old.entries) (sym (numbers.numbers (key_of row) number.0 id (ap (option_map key_of) number.1) (ap (option_map key_of) there))) ∙ number.1
