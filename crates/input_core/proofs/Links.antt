-- A link by number is the link by name.
use Rattle.std.proofs.Common.{ℕ, ◌≡◌, true, List, Option, Some, None, is_some, refl, sym, ap, ◌∙◌}
use Rattle.std.specs.Option.{option_map, option_map_or, option_and_then}
use Rattle.std.proofs.lemmas.Bool.{true≢false}
use Rattle.kind_core.specs.declared.kinds.Attr.TheVariants.{Value}
use Rattle.widget_model.specs.Rows.{Row}
use Rattle.widget_model.specs.Nodes.{id_named}
use Rattle.widget_model.specs.Kinds.{is_variable_kind}
use Rattle.widget_model.specs.Named.{row_named, is_kind_of}
use Rattle.widget_model.specs.Widgets.{Widgets, row_at, rows_of, nodes}
use Rattle.widget_model.specs.Links.{linked_id}
use Rattle.widget_model.specs.RowFacts.{links_right}
use Rattle.widget_model.specs.Forest.{IsWidgets}
use Rattle.widget_model.specs.Keys.{key_of}
use Rattle.widget_model.proofs.Naming.{row_named-found, row_named-none}
use Rattle.scene_model.specs.Values.{number_of, linked_value}
use Rattle.desk_model.specs.InputValues.{value_key}
use Rattle.tree_core.specs.declared.id.Id.{Id}
use Rattle.input_core.specs.Numbered.{numbered}
use Rattle.input_core.specs.Seen.{key_seen}
use Rattle.input_core.proofs.Numbers.{all_numbered, numbered_row}
use Rattle.input_core.proofs.Keys.{key_seen-named, key_seen-numbered}

-- the number of a live row's link
link_number : (w : Widgets) (id : ℕ) → is_some (row_at w.entries id) ≡ true → linked_id w id ≡ option_and_then (id_named (nodes w.entries) (numbered w.entries id).client) (numbered w.entries id).link
link_number w id live = ap (option_and_then (λ (row : Row). option_and_then (id_named (nodes w.entries) row.client) row.link)) (numbered_row w.entries id live)

pub linked_value-some : (w : Widgets) (id variable : ℕ) → IsWidgets w → is_some (row_at w.entries id) ≡ true → is_some (row_at w.entries variable) ≡ true → linked_id w id ≡ Some variable → linked_value (rows_of w) (numbered w.entries id) ≡ Some (number_of Value (numbered w.entries variable))
unfolding linked_value
linked_value-some w id variable kept live there linked = by (numbered w.entries id).link (sym (link_number w id live) ∙ linked)
  where
    by : (link : Option (List ℕ)) → option_and_then (id_named (nodes w.entries) (numbered w.entries id).client) link ≡ Some variable → option_map (number_of Value) (option_and_then (row_named (rows_of w) (numbered w.entries id).client) link) ≡ Some (number_of Value (numbered w.entries variable))
    by None h = absurd (cc)
    by (Some name) h = ap (option_map (number_of Value)) (row_named-found w.entries (numbered w.entries id).client name variable kept.numbered.own_numbers h ∙ numbered_row w.entries variable there)

pub value_key-some : (w : Widgets) (id : ℕ) (variable : Id) → IsWidgets w → is_some (row_at w.entries id) ≡ true → is_some (row_at w.entries variable.key) ≡ true → linked_id w id ≡ Some variable.key → key_seen w.entries variable ≡ value_key (numbered w.entries id)
value_key-some w id variable kept live there linked = by (numbered w.entries id).link (sym (link_number w id live) ∙ linked)
  where
    by : (link : Option (List ℕ)) → option_and_then (id_named (nodes w.entries) (numbered w.entries id).client) link ≡ Some variable.key → key_seen w.entries variable ≡ option_map_or (λ (name : List ℕ). ((numbered w.entries id).client, name)) link (key_of (numbered w.entries id))
    by None h = absurd (cc)
    by (Some name) h = key_seen-named w (numbered w.entries id).client name variable kept there h

-- a row has no link where there is no number
unlinked : (w : Widgets) (id : ℕ) → IsWidgets w → is_some (row_at w.entries id) ≡ true → linked_id w id ≡ None → (numbered w.entries id).link ≡ None
unlinked w id kept live none = by (numbered w.entries id).link (all_numbered (links_right (rows_of w)) w id kept.rows.linked live) (sym (link_number w id live) ∙ none)
  where
    client : ℕ
    client = (numbered w.entries id).client

    by : (link : Option (List ℕ)) → option_map_or (λ (name : List ℕ). is_kind_of is_variable_kind (row_named (rows_of w) client name)) link true ≡ true → option_and_then (id_named (nodes w.entries) client) link ≡ None → link ≡ None
    by None right h = refl
    by (Some name) right h = absurd (true≢false (sym right ∙ ap (is_kind_of is_variable_kind) (row_named-none w.entries client name h)))

pub linked_value-none : (w : Widgets) (id : ℕ) → IsWidgets w → is_some (row_at w.entries id) ≡ true → linked_id w id ≡ None → linked_value (rows_of w) (numbered w.entries id) ≡ None
unfolding linked_value
linked_value-none w id kept live none = ap (λ (link : Option (List ℕ)). option_map (number_of Value) (option_and_then (row_named (rows_of w) (numbered w.entries id).client) link)) (unlinked w id kept live none)

pub value_key-none : (w : Widgets) (id : Id) → IsWidgets w → is_some (row_at w.entries id.key) ≡ true → linked_id w id.key ≡ None → key_seen w.entries id ≡ value_key (numbered w.entries id.key)
value_key-none w id kept live none = key_seen-numbered w.entries id live ∙ sym (ap (λ (link : Option (List ℕ)). option_map_or (λ (name : List ℕ). ((numbered w.entries id.key).client, name)) link (key_of (numbered w.entries id.key))) (unlinked w id.key kept live none))
