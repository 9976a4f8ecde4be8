-- The look of a widget that isn't watched stays through an event that keeps to its scope.
use Rattle.std.proofs.Common.{◌≡◌, ℕ, Bool, true, false, nat_eq, List, Option, Some, None, refl, sym, ap, subst, ◌∙◌}
use Rattle.std.proofs.lemmas.Bool.{true≢false, eq-eqb, or_parts}
use Rattle.std.specs.List.{list_any}
use Rattle.std.specs.Option.{option_map, option_map_or, option_and_then}
use Rattle.kind_core.specs.declared.kinds.Attr.TheVariants.{Value}
use Rattle.widget_model.specs.Rows.{Row}
use Rattle.widget_model.specs.Keys.{key_of, row_of}
use Rattle.widget_model.specs.Kinds.{is_variable_kind}
use Rattle.widget_model.specs.Links.{linked_id}
use Rattle.widget_model.specs.Named.{has_name, row_named, is_kind_of}
use Rattle.widget_model.specs.Nodes.{id_named}
use Rattle.widget_model.specs.Widgets.{Widgets, nodes, rows_of, row_at}
use Rattle.widget_model.specs.Forest.{IsWidgets}
use Rattle.widget_model.specs.RowFacts.{links_right}
use Rattle.widget_model.proofs.Hanging.{all_at, find-element}
use Rattle.widget_model.proofs.Naming.{row_named-parts, id_named-row}
use Rattle.tree_core.proofs.Listed.{listed_number, numbered_place}
use Rattle.scene_model.specs.Scene.{Scene}
use Rattle.scene_model.specs.LookOf.{look_of}
use Rattle.scene_model.specs.Values.{number_of, linked_value}
use Rattle.desk_model.specs.Desk.{Desk}
use Rattle.desk_model.specs.Seen.{scene_of}
use Rattle.desk_model.specs.Scope.{Scope, StaysBut, is_among}
use Rattle.look_data.specs.Watched.{is_linked_to, is_watched}
use Rattle.touch_rules.specs.Touched.{Numbered}
use Rattle.touch_rules.specs.Laws.{IsNumbered, KeepsKeys, WatchesScope}
use Rattle.touch_rules.proofs.SameLooks.{look_of-same, named-row}

-- the Variable that a link leads to
record LeadsTo (widgets : Widgets) (client : ℕ) (name : List ℕ) : Type 0 where
  id : ℕ
  row : Row
  at : row_at widgets.entries id ≡ Some row
  key : key_of row ≡ (client, name)
  found : id_named (nodes widgets.entries) client name ≡ Some id

linked-row : (widgets : Widgets) (id : ℕ) (row : Row) (name : List ℕ) → IsWidgets widgets → row_at widgets.entries id ≡ Some row → row.link ≡ Some name → LeadsTo widgets row.client name
linked-row widgets id row name valid there is = by (row_named (rows_of widgets) row.client name) refl leads
  where
    leads : is_kind_of is_variable_kind (row_named (rows_of widgets) row.client name) ≡ true
    leads =
        let place = numbered_place widgets.entries id row there in
        sym (ap (λ (link : Option (List ℕ)). option_map_or (λ (variable : List ℕ). is_kind_of is_variable_kind (row_named (rows_of widgets) row.client variable)) link true) is)
        ∙ all_at (links_right (rows_of widgets)) (rows_of widgets) place.0 row valid.rows.linked place.1

    by : (o : Option Row) → row_named (rows_of widgets) row.client name ≡ o → is_kind_of is_variable_kind o ≡ true → LeadsTo widgets row.client name
    by None e variable = absurd (true≢false (sym variable))
    by (Some target) e variable =
        let place = find-element (has_name row.client name) (rows_of widgets) target e in
        let number = listed_number widgets.entries place.0 target valid.numbered.own_numbers place.1 in
        let parts = row_named-parts (rows_of widgets) row.client name target e in
        let key : key_of target ≡ (row.client, name) = ap (λ (c : ℕ). (c, target.name)) parts.0 ∙ ap (λ (n : List ℕ). (row.client, n)) parts.1 in
        record {
          id = number.0;
          row = target;
          at = number.1;
          key = key;
          found = sym (ap (λ (k : ℕ × List ℕ). id_named (nodes widgets.entries) k.0 k.1) key) ∙ id_named-row widgets.entries number.0 target valid.rows.names number.1;
        }

-- what would be in a list is in none where it isn't in the list
outside : (b c : Bool) → (b ≡ true → c ≡ true) → c ≡ false → b ≡ false
outside false c listed none = refl
outside true c listed none = absurd (true≢false (sym (listed refl) ∙ none))

-- the scenes around an event are those of the desks around it
pub stays-between : (scope : Scope) (old new : Desk) (s s' : Scene) → s ≡ scene_of old → s' ≡ scene_of new → StaysBut scope (scene_of old) (scene_of new) → StaysBut scope s s'
stays-between scope old new s s' is is' stays = subst (λ (t : Scene). StaysBut scope t s') (sym is) (subst (StaysBut scope (scene_of old)) (sym is') stays)

module _ (scope : Scope) (named : List ℕ) (variable : Option ℕ) (before after : Numbered) (valid : IsNumbered before) (valid' : IsNumbered after) (keys : KeepsKeys before after)
    (stays : StaysBut scope before.scene after.scene) (watches : WatchesScope scope named variable before) where
  unwatched-parts : (id : ℕ) → is_watched before.widgets named variable id ≡ false → (list_any (nat_eq id) named ≡ false) × (option_map_or (λ one. is_linked_to before.widgets one id) variable false ≡ false)
  unfolding is_watched
  unwatched-parts id none = or_parts (list_any (nat_eq id) named) (option_map_or (λ one. is_linked_to before.widgets one id) variable false) none

  row-unwatched : (id : ℕ) (a b : Row) → is_watched before.widgets named variable id ≡ false → row_at before.widgets.entries id ≡ Some a → row_at after.widgets.entries id ≡ Some b → b ≡ a
  row-unwatched id a b none at_a at_b =
      let out : is_among scope.rows (key_of a) ≡ false = outside (is_among scope.rows (key_of a)) (list_any (nat_eq id) named) (watches.rows id a at_a) (unwatched-parts id none).0 in
      let one : Some b ≡ Some a =
      sym (named-row after id b valid' at_b)
      ∙ ap (row_of after.scene.rows) (sym (keys.each id a b at_a at_b))
      ∙ stays.rows (key_of a) out
      ∙ named-row before id a valid at_a in
      cc

  -- a widget whose Variable may change is watched
  value-unwatched : (id : ℕ) (a : Row) → is_watched before.widgets named variable id ≡ false → row_at before.widgets.entries id ≡ Some a → linked_value after.scene.rows a ≡ linked_value before.scene.rows a
  unfolding linked_value
  value-unwatched id a none at_a = by a.link refl
    where
      out : (name : List ℕ) → a.link ≡ Some name → (b : Bool) → is_among scope.values (a.client, name) ≡ b → b ≡ false
      out name is false e = refl
      out name is true e =
          let leads = linked-row before.widgets id a name valid.widgets at_a is in
          let changes : variable ≡ Some leads.id = watches.values leads.id leads.row leads.at (ap (is_among scope.values) leads.key ∙ e) in
          let linked : linked_id before.widgets id ≡ Some leads.id =
          ap (option_and_then (λ (row : Row). option_and_then (id_named (nodes before.widgets.entries) row.client) row.link)) at_a ∙ ap (option_and_then (id_named (nodes before.widgets.entries) a.client)) is ∙ leads.found in
          let watched : option_map_or (λ one. is_linked_to before.widgets one id) variable false ≡ true =
          ap (λ (v : Option ℕ). option_map_or (λ one. is_linked_to before.widgets one id) v false) changes
          ∙ ap (λ (o : Option ℕ). option_map_or (nat_eq leads.id) o false) linked
          ∙ eq-eqb leads.id leads.id refl in
          absurd (true≢false (sym watched ∙ (unwatched-parts id none).1))

      by : (link : Option (List ℕ)) → a.link ≡ link → option_map (number_of Value) (option_and_then (row_named after.scene.rows a.client) link) ≡ option_map (number_of Value) (option_and_then (row_named before.scene.rows a.client) link)
      by None is = refl
      by (Some name) is = stays.values (a.client, name) (out name is (is_among scope.values (a.client, name)) refl)

  pub look-unwatched : (id : ℕ) (a b : Row) → is_watched before.widgets named variable id ≡ false → row_at before.widgets.entries id ≡ Some a → row_at after.widgets.entries id ≡ Some b → look_of after.scene b ≡ look_of before.scene a
  look-unwatched id a b none at_a at_b =
      let out : is_among scope.held (key_of a) ≡ false = outside (is_among scope.held (key_of a)) (list_any (nat_eq id) named) (watches.held id a at_a) (unwatched-parts id none).0 in
      look_of-same before.scene after.scene a b (row-unwatched id a b none at_a at_b) (value-unwatched id a none at_a) (stays.grab (key_of a) out) (stays.focus (key_of a) out)
