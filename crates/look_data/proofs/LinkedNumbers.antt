-- A widget that is linked: what it is linked to is a Variable of the same client, and so its number is one of that
-- client's.
use Rattle.std.proofs.Common.{◌≡◌, ℕ, ◌≤◌, Bool, true, false, ◌+◌, ◌&&◌, nat_eq, nat_le, nat_lt, List, Option, Some, None, is_some, refl, sym, ap, ◌∙◌, subst}
use Rattle.std.proofs.lemmas.Bool.{true≢false, eqb-true, and_parts}
use Rattle.std.specs.Option.{option_map, option_map_or, option_and_then}
use Rattle.widget_model.specs.Rows.{Row}
use Rattle.widget_model.specs.Kinds.{is_variable_kind}
use Rattle.widget_model.specs.Named.{row_named, is_kind_of}
use Rattle.widget_model.specs.Nodes.{first_number, id_named, is_number_of}
use Rattle.widget_model.specs.Widgets.{Widgets, nodes, rows_of, row_at, row_client}
use Rattle.widget_model.specs.RowFacts.{links_right}
use Rattle.widget_model.specs.Forest.{IsWidgets}
use Rattle.widget_model.proofs.Hanging.{all_at}
use Rattle.widget_model.proofs.Naming.{row_named-found, row_named-parts, row_at-named}
use Rattle.tree_core.proofs.Listed.{numbered_place}
use Rattle.tree_core.proofs.TreeKept.{row-owned}
use Rattle.look_data.specs.Watched.{is_linked_to}

-- a widget's client is 1 to 16
pub client-in-range : (widgets : Widgets) (id client : ℕ) → IsWidgets widgets → row_client widgets.entries id ≡ Some client → (1 ≤ client) × (client ≤ 16)
client-in-range widgets id client valid owner = by (row_at widgets.entries id) refl owner
  where
    by : (o : Option Row) → row_at widgets.entries id ≡ o → option_map (λ (row : Row). row.client) o ≡ Some client → (1 ≤ client) × (client ≤ 16)
    by None e is = absurd (cc)
    by (Some row) e is =
        let same : row.client ≡ client = cc in
        let own = row-owned widgets id row valid e in
        subst (λ (c : ℕ). (1 ≤ c) × (c ≤ 16)) same (own.low, own.high)

-- The numbered widget is linked to the other one.
pub record IsLink (widgets : Widgets) (variable id : ℕ) : Type 0 where
  pub row : Row
  pub other : Row
  pub row_there : row_at widgets.entries id ≡ Some row
  pub other_there : row_at widgets.entries variable ≡ Some other
  pub client : other.client ≡ row.client
  pub kind : is_variable_kind other.kind ≡ true

pub IsLink-from : (widgets : Widgets) (variable id : ℕ) → IsWidgets widgets → is_linked_to widgets variable id ≡ true → IsLink widgets variable id
IsLink-from widgets variable id valid linked = by (row_at widgets.entries id) refl linked
  where
    es : List (ℕ × Row)
    es = widgets.entries

    found : (row : Row) (name : List ℕ) → row_at es id ≡ Some row → row.link ≡ Some name → (other : Option Row) → row_at es variable ≡ other → id_named (nodes es) row.client name ≡ Some variable → IsLink widgets variable id
    found row name there link None e named = absurd (true≢false (sym (row_at-named es row.client name variable named) ∙ ap is_some e))
    found row name there link (Some other) e named =
        let is : row_named (rows_of widgets) row.client name ≡ Some other = row_named-found es row.client name variable valid.numbered.own_numbers named ∙ e in
        let place = numbered_place es id row there in
        record {
          row = row;
          other = other;
          row_there = there;
          other_there = e;
          client = (row_named-parts (rows_of widgets) row.client name other is).0;
          kind = sym (ap (is_kind_of is_variable_kind) is)
              ∙ sym (ap (λ (o : Option (List ℕ)). option_map_or (λ (name : List ℕ). is_kind_of is_variable_kind (row_named (rows_of widgets) row.client name)) o true) link)
              ∙ all_at (links_right (rows_of widgets)) (rows_of widgets) place.0 row valid.rows.linked place.1;
        }

    at : (row : Row) (name : List ℕ) → row_at es id ≡ Some row → row.link ≡ Some name → (o : Option ℕ) → id_named (nodes es) row.client name ≡ o → option_map_or (nat_eq variable) o false ≡ true → IsLink widgets variable id
    at row name there link None e is = absurd (true≢false (sym is))
    at row name there link (Some n) e is = found row name there link (row_at es variable) refl (e ∙ ap Some (sym (eqb-true variable n is)))

    of_row : (row : Row) → row_at es id ≡ Some row → (o : Option (List ℕ)) → row.link ≡ o → option_map_or (nat_eq variable) (option_and_then (id_named (nodes es) row.client) o) false ≡ true → IsLink widgets variable id
    of_row row there None e is = absurd (true≢false (sym is))
    of_row row there (Some name) e is = at row name there e (id_named (nodes es) row.client name) refl is

    by : (o : Option Row) → row_at es id ≡ o → option_map_or (nat_eq variable) (option_and_then (λ (row : Row). option_and_then (id_named (nodes es) row.client) row.link) o) false ≡ true → IsLink widgets variable id
    by None e is = absurd (true≢false (sym is))
    by (Some row) e is = of_row row e row.link refl is

-- so its number is one of the Variable's client
pub linked-number : (widgets : Widgets) (variable client id : ℕ) → IsWidgets widgets → row_client widgets.entries variable ≡ Some client → is_linked_to widgets variable id ≡ true → is_number_of client id ≡ true
linked-number widgets variable client id valid owner linked =
    let link = IsLink-from widgets variable id valid linked in
    let clients : Some link.other.client ≡ Some client = sym (ap (option_map (λ (row : Row). row.client)) link.other_there) ∙ owner in
    let same : link.other.client ≡ client = cc in
    ap (λ (c : ℕ). is_number_of c id) (sym same ∙ link.client) ∙ (row-owned widgets id link.row valid link.row_there).own

-- and nothing is linked to what is no Variable
pub linked-none : (widgets : Widgets) (variable id : ℕ) → IsWidgets widgets → is_kind_of is_variable_kind (row_at widgets.entries variable) ≡ false → is_linked_to widgets variable id ≡ false
linked-none widgets variable id valid none = by (is_linked_to widgets variable id) refl
  where
    by : (b : Bool) → is_linked_to widgets variable id ≡ b → b ≡ false
    by false e = refl
    by true e =
        let link = IsLink-from widgets variable id valid e in
        absurd (true≢false (sym link.kind ∙ sym (ap (is_kind_of is_variable_kind) link.other_there) ∙ none))

-- and stands among so many from the client's first one on
pub linked-within : (widgets : Widgets) (variable client first count id : ℕ) → IsWidgets widgets → row_client widgets.entries variable ≡ Some client → first ≡ first_number client → count ≡ 128 → is_linked_to widgets variable id ≡ true → (nat_le first id && nat_lt id (first + count)) ≡ true
linked-within widgets variable client first count id valid owner is all linked =
    let own = linked-number widgets variable client id valid owner linked in
    rw (is, all) (and_parts (nat_le 1 client) (nat_le (first_number client) id && nat_lt id (first_number client + 128)) own).1
