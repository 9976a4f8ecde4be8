-- The admitted VScreens by their numbers: what they are while widgets change.
use Rattle.std.proofs.Common.{◌≡◌, ℕ, true, false, List, [], ◌∷◌, Option, Some, None, is_some, refl, sym, ap, ap₂, ◌∙◌}
use Rattle.std.proofs.lemmas.Bool.{true≢false, and_parts, and_from}
use Rattle.std.specs.List.{list_all}
use Rattle.std.specs.Option.{option_map, option_map_or}
use Rattle.widget_model.specs.Rows.{Row}
use Rattle.widget_model.specs.Nodes.{Node, node_of, node_at}
use Rattle.widget_model.specs.Trees.{is_admitted}
use Rattle.widget_model.specs.Widgets.{nodes, row_at}
use Rattle.tree_core.proofs.ForestLemmas.{node_at-nodes}
use Rattle.desk_model.specs.Desk.{Admission}
use Rattle.desk_commands.specs.Parts.{admission_at, admissions_at, names_admitted, is_live_entry}

-- a number that names one is a widget's
pub admitted-node : (es : List (ℕ × Row)) (entry : ℕ × ℕ) → names_admitted es entry ≡ true → is_some (node_at (nodes es) entry.0) ≡ true
admitted-node es entry there = ap is_some (node_at-nodes es entry.0) ∙ by (row_at es entry.0) there
  where
    by : (o : Option Row) → option_map_or is_admitted o false ≡ true → is_some (option_map node_of o) ≡ true
    by None h = absurd (true≢false (sym h))
    by (Some row) h = refl

live-node : (es : List (ℕ × Row)) (id : ℕ) → is_some (row_at es id) ≡ is_some (node_at (nodes es) id)
live-node es id = by (row_at es id) ∙ sym (ap is_some (node_at-nodes es id))
  where
    by : (o : Option Row) → is_some o ≡ is_some (option_map node_of o)
    by None = refl
    by (Some row) = refl

-- where their nodes stay, their admissions do, and the numbers are widgets' still
module _ (old new : List (ℕ × Row)) (stay : (entry : ℕ × ℕ) → names_admitted old entry ≡ true → node_at (nodes new) entry.0 ≡ node_at (nodes old) entry.0) where
  pub admissions-kept : (entries : List (ℕ × ℕ)) → list_all (names_admitted old) entries ≡ true → admissions_at (nodes new) entries ≡ admissions_at (nodes old) entries
  admissions-kept [] all = refl
  admissions-kept (entry ∷ entries) all =
      let parts = and_parts (names_admitted old entry) (list_all (names_admitted old) entries) all in
      let here : admission_at (nodes new) entry ≡ admission_at (nodes old) entry =
      ap (λ (o : Option Node). let t : ℕ × List ℕ = option_map_or (λ (node : Node). (node.client, node.name)) o (0, []) in let a : Admission = record { client = t.0; name = t.1; share = entry.1 } in a) (stay entry parts.0) in
      ap₂ (λ (a : Admission) (rest : List Admission). a ∷ rest) here (admissions-kept entries parts.1)

  pub entries-live : (entries : List (ℕ × ℕ)) → list_all (names_admitted old) entries ≡ true → list_all (is_live_entry new) entries ≡ true
  entries-live [] all = refl
  entries-live (entry ∷ entries) all =
      let parts = and_parts (names_admitted old entry) (list_all (names_admitted old) entries) all in
      let here : is_live_entry new entry ≡ true = live-node new entry.0 ∙ ap is_some (stay entry parts.0) ∙ admitted-node old entry parts.0 in
      and_from _ _ here (entries-live entries parts.1)
