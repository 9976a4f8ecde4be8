-- A new widget that is no Window moves nothing: it hangs in no other, none hangs in it, and no other is linked to it.
use Rattle.std.proofs.Common.{◌≡◌, ℕ, Bool, true, false, cond, not, ◌&&◌, nat_eq, List, [], ◌∷◌, ◌++◌, slice_get, append-nil, Option, Some, None, refl, sym, ap, ap₂, ◌∙◌, subst}
use Rattle.std.proofs.lemmas.Bool.{false≢true, and_parts, or_from, eqb-true, false_from_ne_true}
use Rattle.std.proofs.lemmas.List.Elements.{filter-append}
use Rattle.std.proofs.lemmas.List.Folds.{find-append, list_any-append}
use Rattle.std.proofs.lemmas.Slice.Eq.{bytes_eq-Decides}
use Rattle.std.specs.Cmp.{nat_eq_equiv}
use Rattle.std.specs.List.{list_all, list_any}
use Rattle.std.specs.Option.{option_map_or, option_and_then}
use Rattle.std.specs.Str.{bytes_eq}
use Rattle.widget_model.specs.RowFacts.{links_right}
use Rattle.widget_model.specs.Rows.{Row}
use Rattle.widget_model.specs.Named.{has_name, row_named, without_named, is_kind_of}
use Rattle.widget_model.specs.Keys.{key_of, row_of, root_key}
use Rattle.widget_model.specs.Kinds.{is_window_kind, is_variable_kind}
use Rattle.widget_model.specs.Trees.{links_to}
use Rattle.widget_model.proofs.Hanging.{has_name-own, all_at}
use Rattle.widget_model.proofs.Naming.{without_named-absent}
use Rattle.tree_core.proofs.Listed.{any_place}
use Rattle.scene_model.specs.Placing.{place_in}
use Rattle.scene_model.specs.DuePlaces.{due_place}
use Rattle.scene_model.specs.WindowRows.{AreHung}
use Rattle.desk_model.specs.InPlace.{due_of}
use Rattle.desk_commands.proofs.LinkChanges.{leads_right}
use Rattle.desk_moves.specs.Stays.{MoveNothing}
use Rattle.desk_moves.proofs.LoneRows.{own-root, due-less}

module _ (rows : List Row) (row : Row) (alone : row.attached ≡ None) (loose : row.link ≡ None) (fresh : row_named rows row.client row.name ≡ None) (linked : list_all (links_right rows) rows ≡ true) where
  abbrev more : List Row
  more = rows ++ row ∷ []

  named-there : (client : ℕ) (name : List ℕ) (r : Row) → row_named rows client name ≡ Some r → row_named more client name ≡ Some r
  named-there client name r there = find-append (has_name client name) rows (row ∷ []) ∙ rw there refl

  named-last : (client : ℕ) (name : List ℕ) → row_named rows client name ≡ None → row_named more client name ≡ cond (has_name client name row) (Some row) None
  named-last client name none = find-append (has_name client name) rows (row ∷ []) ∙ rw none refl

  own : row_named more row.client row.name ≡ Some row
  own = named-last row.client row.name fresh ∙ ap (λ (b : Bool). cond b (Some row) None) (has_name-own row)

  -- the others are those that were there
  without : without_named row.client row.name more ≡ rows
  without =
      filter-append (λ (other : Row). not (has_name row.client row.name other)) rows (row ∷ [])
      ∙ ap₂ (λ (others : List Row) (b : Bool). others ++ cond (not b) (row ∷ []) []) (without_named-absent rows row.client row.name fresh) (has_name-own row)
      ∙ append-nil rows

  -- links lead to names that were there, and this one wasn't
  no_link : (i : ℕ) (other : Row) → slice_get rows i ≡ Some other → links_to row.client row.name other ≡ true → ⊥
  no_link i other there h = by other.link refl (and_parts (option_map_or (bytes_eq row.name) other.link false) (not (bytes_eq row.name other.name)) parts.1).0
    where
      parts : (nat_eq row.client other.client ≡ true) × ((option_map_or (bytes_eq row.name) other.link false && not (bytes_eq row.name other.name)) ≡ true)
      parts = and_parts (nat_eq row.client other.client) (option_map_or (bytes_eq row.name) other.link false && not (bytes_eq row.name other.name)) h

      by : (o : Option (List ℕ)) → other.link ≡ o → option_map_or (bytes_eq row.name) o false ≡ true → ⊥
      by None is k = false≢true k
      by (Some name) is k =
          let none : row_named rows other.client name ≡ None = ap₂ (row_named rows) (sym (eqb-true row.client other.client parts.0)) (sym ((bytes_eq-Decides row.name name).0 k)) ∙ fresh in
          false≢true (sym (ap (is_kind_of is_variable_kind) none) ∙ leads_right rows other name (all_at (links_right rows) rows i other linked there) is)

  unlinked : list_any (links_to row.client row.name) more ≡ false
  unlinked =
      let itself : links_to row.client row.name row ≡ false = rw (loose, nat_eq_equiv.refl row.client) refl in
      list_any-append (links_to row.client row.name) rows (row ∷ [])
      ∙ or_from _ _ (false_from_ne_true _ (λ any. let place = any_place (links_to row.client row.name) rows any in no_link place.0 place.1 place.2 place.3)) (or_from _ _ itself refl)

  module _ (hung : AreHung rows) (still : AreHung more) (kind : is_window_kind row.kind ≡ false) where
    due-more : (key : ℕ × List ℕ) (r : Row) → row_of rows key ≡ Some r → due_place rows r ≡ due_place more r
    due-more key r there =
        subst (λ (others : List Row). due_place others r ≡ due_place more r) without
        (due-less more row.client row.name row own alone unlinked still (subst (λ (others : List Row). AreHung others) (sym without) hung) key r (ap (λ (others : List Row). row_of others key) without ∙ there))

    due-new : due_place more row ≡ None
    unfolding due_place
    due-new =
        let root : row_of more (root_key more (key_of row)) ≡ Some row = ap (λ (name : List ℕ). row_named more row.client name) (own-root more row.client row.name row own alone unlinked) ∙ own in
        ap (λ (o : Option Row). cond (is_kind_of is_window_kind o) (Some (place_in more row)) None) root
        ∙ ap (λ (b : Bool). cond b (Some (place_in more row)) None) kind

    pub unmoved-more : MoveNothing rows more
    unmoved-more = record { each = λ key r there. by key r there (row_of rows key) refl }
      where
        last : (b : Bool) (r : Row) → cond b (Some row) None ≡ Some r → row ≡ r
        last true r h = cc
        last false r h = absurd (cc)

        by : (key : ℕ × List ℕ) (r : Row) → row_of more key ≡ Some r → (o : Option Row) → row_of rows key ≡ o → due_place more r ≡ due_of rows key
        by key r there (Some before) p =
            let both : Some before ≡ Some r = sym (named-there key.0 key.1 before p) ∙ there in
            let same : before ≡ r = cc in
            sym (due-more key r (p ∙ ap Some same)) ∙ ap (due_place rows) (sym same) ∙ sym (ap (option_and_then (due_place rows)) p)
        by key r there None p =
            let same : row ≡ r = last (has_name key.0 key.1 row) r (sym (named-last key.0 key.1 p) ∙ there) in
            ap (due_place more) (sym same) ∙ due-new ∙ sym (ap (option_and_then (due_place rows)) p)
