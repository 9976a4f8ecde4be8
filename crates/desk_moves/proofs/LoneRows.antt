-- A widget that hangs in no other and in which none hangs, and to which no other is linked: with it and without it all
-- others are due the same places.
use Rattle.std.proofs.Common.{◌≡◌, ℕ, zero, suc, Bool, true, false, cond, not, ◌&&◌, nat_eq, List, [], ◌∷◌, slice_get, Option, Some, None, is_some, refl, sym, ap, ap₂, ◌∙◌}
use Rattle.std.proofs.lemmas.Bool.{true≢false, false≢true, and_parts, and_from}
use Rattle.std.specs.Cmp.{nat_eq_equiv}
use Rattle.std.specs.Cmp.Lexicographic.{nat_list_eq_equiv}
use Rattle.std.specs.List.{filter, list_any}
use Rattle.std.specs.Option.{option_map, option_map_or, option_and_then}
use Rattle.std.specs.Str.{bytes_eq}
use Rattle.geom_core.specs.declared.rectangle.Rect.{Rect}
use Rattle.kind_core.specs.declared.kinds.Attr.TheVariants.{Value}
use Rattle.widget_model.specs.Rows.{Row}
use Rattle.widget_model.specs.Named.{has_name, row_named, without_named, is_kind_of}
use Rattle.widget_model.specs.Keys.{key_of, same_key, row_of, root_key}
use Rattle.widget_model.specs.Kinds.{is_window_kind}
use Rattle.widget_model.specs.Trees.{links_to, parent_of, root_in, root_of, most_levels}
use Rattle.widget_model.proofs.Hanging.{find-element, none_at, parent_in, parent_in-loose, row_named-filter}
use Rattle.widget_model.proofs.Naming.{has_name-parts}
use Rattle.widget_model.proofs.Planting.{row_named-root}
use Rattle.scene_model.specs.Values.{number_of, linked_value}
use Rattle.scene_model.specs.Placing.{place_in}
use Rattle.scene_model.specs.DuePlaces.{due_place}
use Rattle.scene_model.specs.WindowRows.{is_in_window, window_rows, AreHung}
use Rattle.scene_model.proofs.WindowRows.{places_stay}
use Rattle.scene_model.proofs.Parents.{row_of-own}
use Rattle.scene_core.proofs.Finds.{same_key-true}
use Rattle.desk_model.proofs.OthersRows.{filter-within}
use Rattle.desk_commands.proofs.DropSteps.{unnamed}
use Rattle.desk_commands.proofs.InWindows.{root_in-alone}

filter-alike : {X : Type 0} (p q : X → Bool) → ((x : X) → p x ≡ q x) → (xs : List X) → filter p xs ≡ filter q xs
filter-alike p q same [] = refl
filter-alike p q same (x ∷ xs) = ap₂ (λ (b : Bool) (ys : List _). cond b (x ∷ ys) ys) (same x) (filter-alike p q same xs)

-- what isn't filtered out was there, and passes
filter-from : {X : Type 0} (p : X → Bool) (xs : List X) (i : ℕ) (x : X) → slice_get (filter p xs) i ≡ Some x → (j : ℕ) × (slice_get xs j ≡ Some x) × (p x ≡ true)
filter-from p [] i x there = absurd (cc)
filter-from {X} p (y ∷ ys) i x there = by (λ k at. filter-from p ys k x at) (p y) refl i there
  where
    by : ((k : ℕ) → slice_get (filter p ys) k ≡ Some x → (j : ℕ) × (slice_get ys j ≡ Some x) × (p x ≡ true)) → (b : Bool) → p y ≡ b → (k : ℕ) → slice_get (cond b (y ∷ filter p ys) (filter p ys)) k ≡ Some x → (j : ℕ) × (slice_get (y ∷ ys) j ≡ Some x) × (p x ≡ true)
    by rest true q zero at = let same : y ≡ x = cc in (zero, at, ap p (sym same) ∙ q)
    by rest true q (suc k) at = let r = rest k at in (suc r.0, r.1, r.2)
    by rest false q k at = let r = rest k at in (suc r.0, r.1, r.2)

filter-to : {X : Type 0} (p : X → Bool) (xs : List X) (j : ℕ) (x : X) → slice_get xs j ≡ Some x → p x ≡ true → (i : ℕ) × (slice_get (filter p xs) i ≡ Some x)
filter-to p [] j x there passes = absurd (cc)
filter-to p (y ∷ ys) zero x there passes =
    let same : y ≡ x = cc in
    (zero, ap (λ (b : Bool). slice_get (cond b (y ∷ filter p ys) (filter p ys)) zero) (ap p same ∙ passes) ∙ there)
filter-to {X} p (y ∷ ys) (suc j) x there passes = by (filter-to p ys j x there passes) (p y)
  where
    by : (i : ℕ) × (slice_get (filter p ys) i ≡ Some x) → (b : Bool) → (i : ℕ) × (slice_get (cond b (y ∷ filter p ys) (filter p ys)) i ≡ Some x)
    by rest true = (suc rest.0, rest.1)
    by rest false = rest

module _ (rows : List Row) (client : ℕ) (name : List ℕ) (lone : Row) (found : row_named rows client name ≡ Some lone) (loose : lone.attached ≡ None) (unlinked : list_any (links_to client name) rows ≡ false) where
  abbrev less : List Row
  less = without_named client name rows

  -- whether it is the key of the lone widget
  abbrev is_its : ℕ → List ℕ → Bool
  is_its owner other = nat_eq client owner && bytes_eq name other

  its-own : (owner : ℕ) (other : List ℕ) → is_its owner other ≡ true → ◌≡◌ {A = ℕ × List ℕ} (client, name) (owner, other)
  its-own owner other is = same_key-true (client, name) (owner, other) is

  gone : (owner : ℕ) (other : List ℕ) → is_its owner other ≡ true → row_named less owner other ≡ None
  gone owner other is = ap (λ (key : ℕ × List ℕ). row_named less key.0 key.1) (sym (its-own owner other is)) ∙ unnamed rows client name

  left : (owner : ℕ) (other : List ℕ) → is_its owner other ≡ false → row_named less owner other ≡ row_named rows owner other
  left owner other is = row_named-filter (λ (c : ℕ) (n : List ℕ). not (is_its c n)) rows owner other (ap not is)

  apart : (owner : ℕ) (other : List ℕ) (row : Row) → row_named less owner other ≡ Some row → is_its owner other ≡ false
  apart owner other row there = by (is_its owner other) refl
    where
      by : (b : Bool) → is_its owner other ≡ b → b ≡ false
      by false q = refl
      by true q = let both : None ≡ Some row = sym (gone owner other q) ∙ there in absurd (cc)

  pub named-with : (owner : ℕ) (other : List ℕ) (row : Row) → row_named less owner other ≡ Some row → row_named rows owner other ≡ Some row
  named-with owner other row there = sym (left owner other (apart owner other row there)) ∙ there

  alone : parent_of rows client name ≡ None
  alone = ap parent_in found ∙ parent_in-loose lone loose

  -- the lone widget is its own root
  pub own-root : root_of rows client name ≡ name
  own-root = root_in-alone most_levels rows client name alone

  parent_of-less : (owner : ℕ) (other : List ℕ) → parent_of less owner other ≡ parent_of rows owner other
  parent_of-less owner other = by (is_its owner other) refl
    where
      by : (b : Bool) → is_its owner other ≡ b → parent_of less owner other ≡ parent_of rows owner other
      by false q = ap parent_in (left owner other q)
      by true q = ap parent_in (gone owner other q) ∙ sym (ap (λ (key : ℕ × List ℕ). parent_of rows key.0 key.1) (sym (its-own owner other q)) ∙ alone)

  root_in-less : (most owner : ℕ) (other : List ℕ) → root_in most less owner other ≡ root_in most rows owner other
  root_in-less zero owner other = refl
  root_in-less (suc most) owner other =
      ap (λ (o : Option (List ℕ)). option_map_or (root_in most less owner) o other) (parent_of-less owner other)
      ∙ by (λ parent. root_in-less most owner parent) (parent_of rows owner other)
    where
      by : ((parent : List ℕ) → root_in most less owner parent ≡ root_in most rows owner parent) → (o : Option (List ℕ)) → option_map_or (root_in most less owner) o other ≡ option_map_or (root_in most rows owner) o other
      by rest None = refl
      by rest (Some parent) = rest parent

  root-less : (row : Row) → root_key less (key_of row) ≡ root_key rows (key_of row)
  root-less row = ap (λ (n : List ℕ). (row.client, n)) (root_in-less most_levels row.client row.name)

  -- the lone widget is in no other's window
  out : (window : ℕ × List ℕ) → is_its window.0 window.1 ≡ false → (row : Row) → is_in_window rows window row ≡ true → not (has_name client name row) ≡ true
  out window other row inside = by (has_name client name row) refl
    where
      by : (b : Bool) → has_name client name row ≡ b → not b ≡ true
      by false q = refl
      by true q =
          let parts = has_name-parts client name row q in
          let own_key : ℕ × List ℕ = (client, name) in
          let root : root_key rows (key_of row) ≡ own_key =
          ap₂ (λ (c : ℕ) (n : List ℕ). root_key rows (c, n)) parts.0 parts.1 ∙ ap (λ (n : List ℕ). (client, n)) own-root in
          let same : window ≡ own_key = same_key-true window own_key (ap (same_key window) (sym root) ∙ inside) in
          let own : is_its client name ≡ true = and_from (nat_eq client client) (bytes_eq name name) (nat_eq_equiv.refl client) (nat_list_eq_equiv.refl name) in
          absurd (true≢false (sym own ∙ ap (λ (key : ℕ × List ℕ). is_its key.0 key.1) (sym same) ∙ other))

  window-less : (window : ℕ × List ℕ) → is_its window.0 window.1 ≡ false → window_rows rows window ≡ window_rows less window
  unfolding window_rows
  window-less window other =
      sym (filter-within (λ (row : Row). not (has_name client name row)) (is_in_window rows window) (out window other) rows)
      ∙ filter-alike (is_in_window rows window) (is_in_window less window) (λ row. ap (same_key window) (sym (root-less row))) less

  linked-less : (i : ℕ) (row : Row) → slice_get less i ≡ Some row → linked_value rows row ≡ linked_value less row
  unfolding linked_value
  linked-less i row there = by row.link refl
    where
      from : (j : ℕ) × (slice_get rows j ≡ Some row) × (not (has_name client name row) ≡ true)
      from = filter-from (λ (r : Row). not (has_name client name r)) rows i row there

      other : (to : List ℕ) → row.link ≡ Some to → (b : Bool) → is_its row.client to ≡ b → b ≡ false
      other to q false is = refl
      other to q true is =
          let none = none_at (links_to client name) rows from.0 row unlinked from.1 in
          let parts = and_parts (nat_eq client row.client) (bytes_eq name to) is in
          let linked : option_map_or (bytes_eq name) row.link false ≡ true = ap (λ (o : Option (List ℕ)). option_map_or (bytes_eq name) o false) q ∙ parts.1 in
          let differs : not (bytes_eq name row.name) ≡ true = sym (ap (λ (b : Bool). not (b && bytes_eq name row.name)) parts.0) ∙ from.2 in
          absurd (true≢false (sym (and_from (nat_eq client row.client) (option_map_or (bytes_eq name) row.link false && not (bytes_eq name row.name)) parts.0 (and_from (option_map_or (bytes_eq name) row.link false) (not (bytes_eq name row.name)) linked differs)) ∙ none))

      by : (o : Option (List ℕ)) → row.link ≡ o → option_map (number_of Value) (option_and_then (row_named rows row.client) o) ≡ option_map (number_of Value) (option_and_then (row_named less row.client) o)
      by None q = refl
      by (Some to) q = ap (option_map (number_of Value)) (sym (left row.client to (other to q (is_its row.client to) refl)))

  module _ (hung : AreHung rows) (still : AreHung less) where
    place-less : (j : ℕ) (row top : Row) → slice_get less j ≡ Some row → row_of less (root_key less (key_of row)) ≡ Some top → place_in rows row ≡ place_in less row
    unfolding window_rows
    place-less j row top there root =
        let window = root_key less (key_of row) in
        let own : same_key window window ≡ true = and_from (nat_eq window.0 window.0) (bytes_eq window.1 window.1) (nat_eq_equiv.refl window.0) (nat_list_eq_equiv.refl window.1) in
        let at = filter-to (is_in_window less window) less j row there own in
        places_stay window less rows still hung
        (record {
          rows = window-less window (apart window.0 window.1 top root);
          values = λ i other inside. let from = filter-from (is_in_window less window) less i other inside in linked-less from.0 other from.1;
        })
        at.0 row at.1

    pub due-less : (key : ℕ × List ℕ) (row : Row) → row_of less key ≡ Some row → due_place less row ≡ due_place rows row
    unfolding due_place
    due-less key row there = by (row_of less (root_key less (key_of row))) refl
      where
        own : row_of less (key_of row) ≡ Some row
        own = row_of-own less key row there

        by : (o : Option Row) → row_of less (root_key less (key_of row)) ≡ o → due_place less row ≡ due_place rows row
        by None p = absurd (false≢true (sym (ap is_some p) ∙ row_named-root most_levels less row.client row.name still.planted (ap is_some own)))
        by (Some top) p =
            let at = find-element (has_name row.client row.name) less row own in
            let root : row_of rows (root_key rows (key_of row)) ≡ Some top = ap (row_of rows) (sym (root-less row)) ∙ named-with row.client (root_of less row.client row.name) top p in
            ap₂ (λ (o : Option Row) (place : Rect). cond (is_kind_of is_window_kind o) (Some place) None) (p ∙ sym root) (sym (place-less at.0 row top at.1 p))
