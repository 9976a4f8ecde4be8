-- What a row is linked to, and when its link changes.
use Rattle.std.proofs.Common.{◌≡◌, ℕ, true, List, Option, Some, None, refl, sym, ap, ◌∙◌}
use Rattle.std.proofs.lemmas.Bool.{false≢true}
use Rattle.std.specs.Option.{option_map_or, option_and_then}
use Rattle.kind_core.specs.declared.kinds.Kind.{Kind}
use Rattle.widget_model.specs.Rows.{Row}
use Rattle.widget_model.specs.Nodes.{id_named}
use Rattle.widget_model.specs.Named.{row_named, is_kind_of}
use Rattle.widget_model.specs.Kinds.{is_variable_kind}
use Rattle.widget_model.specs.RowFacts.{links_right}
use Rattle.widget_model.specs.Links.{linked_id}
use Rattle.widget_model.specs.Widgets.{Widgets, nodes, rows_of, row_at}
use Rattle.widget_model.specs.Forest.{IsWidgets}
use Rattle.widget_model.proofs.Hanging.{all_at}
use Rattle.widget_model.proofs.Naming.{row_named-found, row_named-none, row_named-parts}
use Rattle.tree_core.proofs.Listed.{numbered_place}
use Rattle.desk_commands.specs.Lookup.{IsFound}
use Rattle.desk_commands.proofs.Effects.{found-parts}

-- a link that is right leads to a Variable
pub leads_right : (rows : List Row) (row : Row) (name : List ℕ) → links_right rows row ≡ true → row.link ≡ Some name → is_kind_of is_variable_kind (row_named rows row.client name) ≡ true
leads_right rows row name right is = sym (ap (λ (o : Option (List ℕ)). option_map_or (λ (n : List ℕ). is_kind_of is_variable_kind (row_named rows row.client n)) o true) is) ∙ right

-- the number of the Variable that the row is linked to
row_link : (w : Widgets) (key : ℕ) (row : Row) → row_at w.entries key ≡ Some row → linked_id w key ≡ option_and_then (id_named (nodes w.entries) row.client) row.link
row_link w key row there = rw there refl

-- the row is linked to the Variable whose number that is
pub link_was : (w : Widgets) (client : ℕ) (name variable : List ℕ) (key other : ℕ) (kind kind' : Kind) (found : IsFound w client name key kind) → IsFound w client variable other kind' → found.row.link ≡ Some variable → linked_id w key ≡ Some other
link_was w client name variable key other kind kind' found found' link =
    row_link w key found.row found.there ∙ ap (option_and_then (id_named (nodes w.entries) found.row.client)) link ∙ ap (λ (c : ℕ). id_named (nodes w.entries) c variable) (found-parts w client name key kind found).0 ∙ found'.id

pub link_is : (w : Widgets) (client : ℕ) (name variable : List ℕ) (key other : ℕ) (kind kind' : Kind) → IsWidgets w → (found : IsFound w client name key kind) → IsFound w client variable other kind' → linked_id w key ≡ Some other → found.row.link ≡ Some variable
link_is w client name variable key other kind kind' kept found found' linked = by found.row.link (sym (row_link w key found.row found.there) ∙ linked)
  where
    by : (o : Option (List ℕ)) → option_and_then (id_named (nodes w.entries) found.row.client) o ≡ Some other → o ≡ Some variable
    by None h = absurd (cc)
    by (Some u) h =
        let there = row_named-found w.entries found.row.client u other kept.numbered.own_numbers h ∙ found'.there in
        let name_is : found'.row.name ≡ u = (row_named-parts (rows_of w) found.row.client u found'.row there).1 in
        ap Some (sym name_is ∙ (found-parts w client variable other kind' found').1)

-- a row has no link where there is no number
pub unlinked_is : (w : Widgets) (key : ℕ) (row : Row) → IsWidgets w → row_at w.entries key ≡ Some row → linked_id w key ≡ None → row.link ≡ None
unlinked_is w key row kept there none = by row.link refl (sym (row_link w key row there) ∙ none)
  where
    right : links_right (rows_of w) row ≡ true
    right = let place = numbered_place w.entries key row there in all_at (links_right (rows_of w)) (rows_of w) place.0 row kept.rows.linked place.1

    by : (o : Option (List ℕ)) → row.link ≡ o → option_and_then (id_named (nodes w.entries) row.client) o ≡ None → o ≡ None
    by None p h = refl
    by (Some name) p h = absurd (false≢true (sym (ap (is_kind_of is_variable_kind) (row_named-none w.entries row.client name h)) ∙ leads_right (rows_of w) row name right p))

pub unlinked_was : (w : Widgets) (key : ℕ) (row : Row) → row_at w.entries key ≡ Some row → row.link ≡ None → linked_id w key ≡ None
unlinked_was w key row there none = row_link w key row there ∙ ap (option_and_then (id_named (nodes w.entries) row.client)) none
