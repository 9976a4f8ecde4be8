-- Keys of live numbers: they name their rows, and two numbers have one key only where they are one.
use Rattle.std.proofs.Common.{ℕ, ◌≡◌, Bool, true, false, nat_eq, List, [], Option, Some, is_some, refl, sym, ap, ◌∙◌}
use Rattle.std.specs.Option.{option_map, option_and_then, unwrap_or}
use Rattle.std.specs.Str.{bytes_eq}
use Rattle.std.specs.Cmp.{nat_eq_equiv}
use Rattle.std.proofs.lemmas.Bool.{true≢false, eqb-true, eq-eqb, and_parts}
use Rattle.std.proofs.lemmas.Slice.Eq.{bytes_eq-Decides}
use Rattle.widget_model.specs.Rows.{Row}
use Rattle.widget_model.specs.Nodes.{id_named}
use Rattle.widget_model.specs.Widgets.{Widgets, row_at, rows_of, nodes, key_at}
use Rattle.widget_model.specs.Forest.{IsWidgets}
use Rattle.widget_model.specs.Keys.{key_of, same_key, row_of, root_key}
use Rattle.widget_model.specs.Trees.{root_of}
use Rattle.widget_model.specs.Relatives.{root_id}
use Rattle.widget_model.proofs.Naming.{row_named-found, row_named-parts, id_named-row}
use Rattle.tree_core.proofs.Listed.{row_named-row}
use Rattle.tree_core.specs.declared.id.Id.{Id}
use Rattle.input_core.specs.Numbered.{numbered}
use Rattle.input_core.specs.Seen.{key_seen}
use Rattle.input_core.proofs.Numbers.{numbered_row}

-- what contracts see of a live number is its row's key
pub key_at-numbered : (es : List (ℕ × Row)) (id : ℕ) → is_some (row_at es id) ≡ true → key_at es id ≡ Some (key_of (numbered es id))
key_at-numbered es id live = ap (option_map key_of) (numbered_row es id live)

pub key_seen-numbered : (es : List (ℕ × Row)) (id : Id) → is_some (row_at es id.key) ≡ true → key_seen es id ≡ key_of (numbered es id.key)
key_seen-numbered es id live = ap (λ (key : Option (ℕ × List ℕ)). unwrap_or key (0, [])) (key_at-numbered es id.key live)

-- that key names the row
pub row_of-numbered : (w : Widgets) (id : ℕ) → IsWidgets w → is_some (row_at w.entries id) ≡ true → row_of (rows_of w) (key_of (numbered w.entries id)) ≡ Some (numbered w.entries id)
row_of-numbered w id kept live = row_named-row w.entries id (numbered w.entries id) kept.numbered.own_numbers kept.rows.names (numbered_row w.entries id live)

-- the key of a number that a name has
pub key_seen-named : (w : Widgets) (client : ℕ) (name : List ℕ) (id : Id) → IsWidgets w → is_some (row_at w.entries id.key) ≡ true → id_named (nodes w.entries) client name ≡ Some id.key → key_seen w.entries id ≡ (client, name)
key_seen-named w client name id kept live named =
    let there = row_named-found w.entries client name id.key kept.numbered.own_numbers named ∙ numbered_row w.entries id.key live in
    let parts = row_named-parts (rows_of w) client name (numbered w.entries id.key) there in
    key_seen-numbered w.entries id live ∙ (λ i. (parts.0 i, parts.1 i))

-- the root's key
pub key_seen-root : (w : Widgets) (id : ℕ) (root : Id) → IsWidgets w → is_some (row_at w.entries id) ≡ true → is_some (row_at w.entries root.key) ≡ true → root_id w id ≡ Some root.key → key_seen w.entries root ≡ root_key (rows_of w) (key_of (numbered w.entries id))
key_seen-root w id root kept live there is =
    let row = numbered w.entries id in
    key_seen-named w row.client (root_of (rows_of w) row.client row.name) root kept there (sym (ap (option_and_then (λ (r : Row). id_named (nodes w.entries) r.client (root_of (rows_of w) r.client r.name))) (numbered_row w.entries id live)) ∙ is)

-- two live numbers have one key only where they are one
pub same_key-numbered : (w : Widgets) (a b : ℕ) → IsWidgets w → is_some (row_at w.entries a) ≡ true → is_some (row_at w.entries b) ≡ true → same_key (key_of (numbered w.entries a)) (key_of (numbered w.entries b)) ≡ nat_eq a b
same_key-numbered w a b kept at_a at_b = by (same_key (key_of (numbered w.entries a)) (key_of (numbered w.entries b))) refl (nat_eq a b) refl
  where
    one : same_key (key_of (numbered w.entries a)) (key_of (numbered w.entries b)) ≡ true → a ≡ b
    one same =
        let parts = and_parts (nat_eq (numbered w.entries a).client (numbered w.entries b).client) (bytes_eq (numbered w.entries a).name (numbered w.entries b).name) same in
        let client = eqb-true (numbered w.entries a).client (numbered w.entries b).client parts.0 in
        let name = (bytes_eq-Decides (numbered w.entries a).name (numbered w.entries b).name).0 parts.1 in
        let number_a = id_named-row w.entries a (numbered w.entries a) kept.rows.names (numbered_row w.entries a at_a) in
        let number_b = id_named-row w.entries b (numbered w.entries b) kept.rows.names (numbered_row w.entries b at_b) in
        let same_number : Some a ≡ Some b = sym number_a ∙ ap (λ (n : ℕ). id_named (nodes w.entries) n (numbered w.entries a).name) client ∙ ap (id_named (nodes w.entries) (numbered w.entries b).client) name ∙ number_b in
        cc

    apart : a ≡ b → same_key (key_of (numbered w.entries a)) (key_of (numbered w.entries b)) ≡ true
    apart same =
        let own : same_key (key_of (numbered w.entries b)) (key_of (numbered w.entries b)) ≡ true = rw (nat_eq_equiv.refl (numbered w.entries b).client) ((bytes_eq-Decides (numbered w.entries b).name (numbered w.entries b).name).1 refl) in
        ap (λ (n : ℕ). same_key (key_of (numbered w.entries n)) (key_of (numbered w.entries b))) same ∙ own

    by : (x : Bool) → same_key (key_of (numbered w.entries a)) (key_of (numbered w.entries b)) ≡ x → (y : Bool) → nat_eq a b ≡ y → x ≡ y
    by true p true q = refl
    by true p false q = absurd (true≢false (sym (eq-eqb a b (one p)) ∙ q))
    by false p true q = absurd (true≢false (sym (apart (eqb-true a b q)) ∙ p))
    by false p false q = refl
