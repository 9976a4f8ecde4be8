-- The roster by numbers: what is listed is admitted, and what is left where a client leaves.
use Rattle.std.proofs.Common.{◌≡◌, ℕ, Bool, true, false, cond, not, ◌&&◌, nat_lt, nat_eq, List, [], ◌∷◌, Option, Some, None, is_some, refl, sym, ap, ap₂, ◌∙◌}
use Rattle.std.proofs.lemmas.Bool.{true≢false, and_parts, and_from, not-true}
use Rattle.std.specs.List.{list_all, filter}
use Rattle.std.specs.Option.{option_map, option_map_or, option_and_then}
use Rattle.admit_core.specs.Roster.{RosterState}
use Rattle.vscreen_core.specs.FilmState.{FilmState}
use Rattle.vscreen_core.specs.Band.{share_of}
use Rattle.widget_model.specs.Rows.{Row}
use Rattle.widget_model.specs.Nodes.{Node, node_of, node_at}
use Rattle.widget_model.specs.Named.{row_named}
use Rattle.widget_model.specs.Trees.{is_admitted}
use Rattle.widget_model.specs.Widgets.{Widgets, nodes, rows_of, row_at}
use Rattle.widget_model.specs.Forest.{IsWidgets}
use Rattle.tree_core.proofs.Listed.{row_named-row}
use Rattle.tree_core.proofs.ForestLemmas.{node_at-nodes}
use Rattle.desk_model.specs.Desk.{Admission}
use Rattle.desk_model.specs.DeskFacts.{has_its_share}
use Rattle.desk_commands.specs.Parts.{title_at, admission_at, admissions_at, names_admitted, is_live_entry, is_others, AreListed, ListsAdmitted}
use Rattle.desk_commands.proofs.OthersLists.{node_at-others}

-- a listed number whose admission has its share is that of an admitted VScreen
share-admitted : (o : Option FilmState) (share : ℕ) → option_map_or (λ (film : FilmState). nat_lt 0 film.period && nat_eq share (share_of film.width film.height film.period)) o false ≡ true → option_map_or (λ (film : FilmState). nat_lt 0 film.period) o false ≡ true
share-admitted None share h = h
share-admitted (Some film) share h = (and_parts (nat_lt 0 film.period) (nat_eq share (share_of film.width film.height film.period)) h).0

entry-admitted : (w : Widgets) (entry : ℕ × ℕ) → IsWidgets w → is_live_entry w.entries entry ≡ true → has_its_share (rows_of w) (admission_at (nodes w.entries) entry) ≡ true → names_admitted w.entries entry ≡ true
entry-admitted w entry valid live share = by (row_at w.entries entry.0) refl live
  where
    by : (o : Option Row) → row_at w.entries entry.0 ≡ o → is_some o ≡ true → names_admitted w.entries entry ≡ true
    by None p h = absurd (true≢false (sym h))
    by (Some row) p h =
        let node : node_at (nodes w.entries) entry.0 ≡ Some (node_of row) = node_at-nodes w.entries entry.0 ∙ ap (option_map node_of) p in
        let title : title_at (nodes w.entries) entry.0 ≡ (row.client, row.name) = ap (λ (o : Option Node). option_map_or (λ (n : Node). (n.client, n.name)) o (0, [])) node in
        let own : row_named (rows_of w) row.client row.name ≡ Some row = row_named-row w.entries entry.0 row valid.numbered.own_numbers valid.rows.names p in
        let film : option_map_or (λ (f : FilmState). nat_lt 0 f.period && nat_eq entry.1 (share_of f.width f.height f.period)) row.film false ≡ true =
        sym (ap (λ (o : Option Row). option_map_or (λ (f : FilmState). nat_lt 0 f.period && nat_eq entry.1 (share_of f.width f.height f.period)) (option_and_then (λ (r : Row). r.film) o) false) own)
        ∙ sym (ap (λ (t : ℕ × List ℕ). let a : Admission = record { client = t.0; name = t.1; share = entry.1 } in has_its_share (rows_of w) a) title)
        ∙ share in
        ap (λ (o : Option Row). option_map_or is_admitted o false) p ∙ share-admitted row.film entry.1 film

entries-admitted : (w : Widgets) (entries : List (ℕ × ℕ)) → IsWidgets w → list_all (is_live_entry w.entries) entries ≡ true → list_all (has_its_share (rows_of w)) (admissions_at (nodes w.entries) entries) ≡ true → list_all (names_admitted w.entries) entries ≡ true
entries-admitted w [] valid live shares = refl
entries-admitted w (entry ∷ entries) valid live shares =
    let lives = and_parts (is_live_entry w.entries entry) (list_all (is_live_entry w.entries) entries) live in
    let parts = and_parts (has_its_share (rows_of w) (admission_at (nodes w.entries) entry)) (list_all (has_its_share (rows_of w)) (admissions_at (nodes w.entries) entries)) shares in
    and_from _ _ (entry-admitted w entry valid lives.0 parts.0) (entries-admitted w entries valid lives.1 parts.1)

pub lists-admitted : (w : Widgets) (roster : RosterState) → IsWidgets w → AreListed w.entries roster → list_all (has_its_share (rows_of w)) (admissions_at (nodes w.entries) roster.entries) ≡ true → ListsAdmitted w.entries roster
lists-admitted w roster valid listed shares = record { valid = listed.valid; admitted = entries-admitted w roster.entries valid listed.live shares }

-- where a client leaves, its numbers go, and those of the others stay
module _ (es : List (ℕ × Row)) (client : ℕ) where
  abbrev left : List (ℕ × Row)
  left = filter (λ (e : ℕ × Row). not (nat_eq client e.1.client)) es

  abbrev is_others_entry : ℕ × ℕ → Bool
  is_others_entry entry = is_others (nodes es) client entry.0

  -- the node of another's live number stays
  others_node : (entry : ℕ × ℕ) → is_live_entry es entry ≡ true → is_others_entry entry ≡ true → node_at (nodes left) entry.0 ≡ node_at (nodes es) entry.0
  others_node entry live other = by (row_at es entry.0) refl live
    where
      by : (o : Option Row) → row_at es entry.0 ≡ o → is_some o ≡ true → node_at (nodes left) entry.0 ≡ node_at (nodes es) entry.0
      by None p h = absurd (true≢false (sym h))
      by (Some row) p h =
          let node : node_at (nodes es) entry.0 ≡ Some (node_of row) = node_at-nodes es entry.0 ∙ ap (option_map node_of) p in
          let owner : not (nat_eq client row.client) ≡ true = sym (ap (λ (o : Option Node). let t : ℕ × List ℕ = option_map_or (λ (n : Node). (n.client, n.name)) o (0, []) in not (nat_eq client t.0)) node) ∙ other in
          node_at-others es client entry.0 (node_of row) node (not-true (nat_eq client row.client) owner) ∙ sym node

  pub admissions-departed : (entries : List (ℕ × ℕ)) → list_all (is_live_entry es) entries ≡ true → admissions_at (nodes left) (filter is_others_entry entries) ≡ filter (λ (a : Admission). not (nat_eq client a.client)) (admissions_at (nodes es) entries)
  admissions-departed [] live = refl
  admissions-departed (entry ∷ entries) live = by (admissions-departed entries parts.1) (is_others_entry entry) refl
    where
      parts : (is_live_entry es entry ≡ true) × (list_all (is_live_entry es) entries ≡ true)
      parts = and_parts (is_live_entry es entry) (list_all (is_live_entry es) entries) live

      by : admissions_at (nodes left) (filter is_others_entry entries) ≡ filter (λ (a : Admission). not (nat_eq client a.client)) (admissions_at (nodes es) entries) → (b : Bool) → is_others_entry entry ≡ b → admissions_at (nodes left) (cond b (entry ∷ filter is_others_entry entries) (filter is_others_entry entries)) ≡ cond b (admission_at (nodes es) entry ∷ filter (λ (a : Admission). not (nat_eq client a.client)) (admissions_at (nodes es) entries)) (filter (λ (a : Admission). not (nat_eq client a.client)) (admissions_at (nodes es) entries))
      by rest false q = rest
      by rest true q =
          ap₂ (λ (o : Option Node) (rest : List Admission). let t : ℕ × List ℕ = option_map_or (λ (n : Node). (n.client, n.name)) o (0, []) in let a : Admission = record { client = t.0; name = t.1; share = entry.1 } in a ∷ rest) (others_node entry parts.0 q) rest

  pub live-departed : (entries : List (ℕ × ℕ)) → list_all (is_live_entry es) entries ≡ true → list_all (is_live_entry left) (filter is_others_entry entries) ≡ true
  live-departed [] live = refl
  live-departed (entry ∷ entries) live = by (live-departed entries parts.1) (is_others_entry entry) refl
    where
      parts : (is_live_entry es entry ≡ true) × (list_all (is_live_entry es) entries ≡ true)
      parts = and_parts (is_live_entry es entry) (list_all (is_live_entry es) entries) live

      live-node : (fs : List (ℕ × Row)) → is_some (row_at fs entry.0) ≡ is_some (node_at (nodes fs) entry.0)
      live-node fs = some (row_at fs entry.0) ∙ sym (ap is_some (node_at-nodes fs entry.0))
        where
          some : (o : Option Row) → is_some o ≡ is_some (option_map node_of o)
          some None = refl
          some (Some row) = refl

      by : list_all (is_live_entry left) (filter is_others_entry entries) ≡ true → (b : Bool) → is_others_entry entry ≡ b → list_all (is_live_entry left) (cond b (entry ∷ filter is_others_entry entries) (filter is_others_entry entries)) ≡ true
      by rest false q = rest
      by rest true q = and_from _ _ (live-node left ∙ ap is_some (others_node entry parts.0 q) ∙ sym (live-node es) ∙ parts.0) rest
