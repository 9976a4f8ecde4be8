-- What is left where a row that isn't used is taken out, or all rows of a client.
use Rattle.std.proofs.Common.{◌≡◌, ◌≤◌, ◌<◌, ◌+◌, ◌-◌, ◌*◌, ◌⊎◌, inl, inr, ℕ, suc, Bool, true, false, cond, not, ◌&&◌, nat_eq, length, get_or, List, [], ◌∷◌, Option, Some, None, refl, sym, ap, ◌∙◌, slice_get, arith}
use Rattle.std.proofs.lemmas.Bool.{true≢false, eqb-true, eq-eqb, and_parts, and_from, cases_lt}
use Rattle.std.proofs.lemmas.Bool.Decides.{nat_tests}
use Rattle.std.specs.Cmp.Lexicographic.{nat_list_eq_equiv}
use Rattle.std.specs.List.{find, filter}
use Rattle.std.specs.Option.{option_map_or, option_and_then}
use Rattle.std.specs.Str.{bytes_eq}
use Rattle.kind_core.specs.declared.shapes.Cell.{Cell}
use Rattle.widget_model.specs.Rows.{Row, IsIndex}
use Rattle.widget_model.specs.Nodes.{id_named, is_number_of}
use Rattle.widget_model.specs.Named.{has_name}
use Rattle.widget_model.specs.Trees.{is_child, stands_at, child_in}
use Rattle.widget_model.specs.Relatives.{child_id}
use Rattle.widget_model.specs.Widgets.{row_at, nodes, without_row}
use Rattle.widget_model.proofs.Cells.{child_in-stands}
use Rattle.widget_model.proofs.Hanging.{none_at, IsNamed-from, row_named-only}
use Rattle.widget_model.proofs.Naming.{rows-filter_others}
use Rattle.widget_model.proofs.LeftRows.{IsFree}
use Rattle.row_store.specs.CellTable.{cell_offset}
use Rattle.row_store.proofs.UnderNumbers.{row_at-without_row, row_at-filter}
use Rattle.row_store.proofs.UnderNames.{id_named-without, id_named-others}
use Rattle.widget_model.specs.Widgets.{rows_in}
use Rattle.tree_core.specs.Children.{widgets_in, HasChildren}
use Rattle.tree_core.specs.Kept.{IsGrove}
use Rattle.tree_core.proofs.Listed.{row_named-row, find_place}
use Rattle.tree_core.proofs.Children.{own_number, child_in-number}
use Rattle.tree_core.proofs.ForestLemmas.{rows_but, number-client}
use Rattle.tree_core.proofs.Groves.{rows_in-without_row}
use Rattle.tree_core.proofs.Moves.{HasChildren-left, child_id-row, child_id-none}

-- a search among the rows that are left, where those that it passes are left
find-left : {X : Type 0} (p stays : X → Bool) (xs : List X) → ((i : ℕ) (x : X) → slice_get xs i ≡ Some x → p x ≡ true → stays x ≡ true) → find p (filter stays xs) ≡ find p xs
find-left p stays [] each = refl
find-left p stays (y ∷ ys) each = by (stays y) refl (p y) refl (find-left p stays ys (λ i x there. each (suc i) x there))
  where
    by : (b : Bool) → stays y ≡ b → (d : Bool) → p y ≡ d → find p (filter stays ys) ≡ find p ys → find p (cond b (y ∷ filter stays ys) (filter stays ys)) ≡ cond d (Some y) (find p ys)
    by true q true r rest = rw r refl
    by true q false r rest = rw r rest
    by false q true r rest = absurd (true≢false (sym (each 0 y refl r) ∙ q))
    by false q false r rest = rest

module _ (es : List (ℕ × Row)) (cells : List (Option ℕ)) (id : ℕ) (row : Row) (grove : IsGrove es) (there : row_at es id ≡ Some row) (free : IsFree (rows_in es) row) where
  -- a row with its name is it
  only : (i : ℕ) (r : Row) → slice_get (rows_in es) i ≡ Some r → has_name row.client row.name r ≡ true → r ≡ row
  only i r at named = row_named-only (rows_in es) i r row row.client row.name grove.own_names (row_named-row es id row grove.own_numbers grove.own_names there) at named

  pub children-without : HasChildren es cells → HasChildren (without_row id es) cells
  children-without h =
      HasChildren-left es (without_row id es) cells cells
      (record {
        stays = λ above upper at. (was above upper (nat_eq id above) refl (sym (row_at-without_row es id above) ∙ at)).1;
        found = λ above column line upper at. ap (find (stands_at upper.client upper.name column line)) (rows_in-without_row es id row grove there) ∙ find-left (stands_at upper.client upper.name column line) (λ (r : Row). not (has_name row.client row.name r)) (rows_in es) (λ i r there hung. other_than upper.client upper.name column line i r there hung);
        number = λ above column line upper child at q. id_named-without es id row child.client child.name grove.own_numbers grove.own_names there ∙ ap (λ (b : Bool). cond b None (id_named (nodes es) child.client child.name)) (another upper.client upper.name column line child q);
        cell = λ above column line upper c l at. refl;
        empty = λ above column line c l at. h.each above column line c l ∙ gone above column line (nat_eq id above) refl (sym (row_at-without_row es id above) ∙ at);
      })
      h
    where
      was : (above : ℕ) (upper : Row) (b : Bool) → nat_eq id above ≡ b → cond b None (row_at es above) ≡ Some upper → (nat_eq id above ≡ false) × (row_at es above ≡ Some upper)
      was above upper true q at = absurd (cc)
      was above upper false q at = (q, at)

      -- what hangs in a cell isn't it
      other_than : (client : ℕ) (name : List ℕ) (column line i : ℕ) (r : Row) → slice_get (rows_in es) i ≡ Some r → stands_at client name column line r ≡ true → not (has_name row.client row.name r) ≡ true
      other_than client name column line i r at hung = by (has_name row.client row.name r) refl
        where
          by : (b : Bool) → has_name row.client row.name r ≡ b → not b ≡ true
          by false q = refl
          by true q =
              let same = only i r at q in
              let none : r.attached ≡ None = ap (λ (x : Row). x.attached) same ∙ free.alone in
              absurd (loose (nat_eq client r.client) (sym hung ∙ ap (λ (o : Option (List ℕ × Cell)). nat_eq client r.client && option_map_or (λ (s : List ℕ × Cell). bytes_eq name s.0 && (nat_eq column s.1.column && nat_eq line s.1.row)) o false) none))
            where
              loose : (b : Bool) → true ≡ (b && false) → ⊥
              loose true k = true≢false k
              loose false k = true≢false k

      another : (client : ℕ) (name : List ℕ) (column line : ℕ) (child : Row) → child_in (rows_in es) client name column line ≡ Some child → has_name child.client child.name row ≡ false
      another client name column line child q = by (has_name child.client child.name row) refl
        where
          by : (b : Bool) → has_name child.client child.name row ≡ b → b ≡ false
          by false r = refl
          by true r =
              let number = child_in-number es client name column line child grove q in
              let is = IsNamed-from child.client child.name row r in
              let same = own_number es id number.0 row child grove there number.1 is.client_is is.name_is in
              let one : Some row ≡ Some child = sym there ∙ ap (row_at es) same ∙ number.1 in
              let stands = child_in-stands (rows_in es) client name column line child q in
              absurd (let none : None ≡ Some (name, stands.cell) = sym free.alone ∙ (let it : row ≡ child = cc in ap (λ (x : Row). x.attached) it) ∙ stands.attached in cc)

      -- nothing hung in it
      gone : (above column line : ℕ) (b : Bool) → nat_eq id above ≡ b → cond b None (row_at es above) ≡ None → child_id (widgets_in es) above column line ≡ None
      gone above column line false q none = child_id-none es above column line none
      gone above column line true q none = child_id-row es above column line row (ap (row_at es) (sym (eqb-true id above q)) ∙ there) ∙ ap (option_and_then (λ (child : Row). id_named (nodes es) child.client child.name)) (by (child_in (rows_in es) row.client row.name column line) refl)
        where
          by : (o : Option Row) → child_in (rows_in es) row.client row.name column line ≡ o → o ≡ None
          by None p = refl
          by (Some child) p =
              let stands = child_in-stands (rows_in es) row.client row.name column line child p in
              let place = find_place (stands_at row.client row.name column line) (rows_in es) child p in
              let no : (nat_eq row.client child.client && option_map_or (λ (s : List ℕ × Cell). bytes_eq row.name s.0) child.attached false) ≡ false = none_at (is_child row.client row.name) (rows_in es) place.0 child free.childless place.1 in
              let hung : option_map_or (λ (s : List ℕ × Cell). bytes_eq row.name s.0) child.attached false ≡ true = ap (λ (o : Option (List ℕ × Cell)). option_map_or (λ (s : List ℕ × Cell). bytes_eq row.name s.0) o false) stands.attached ∙ nat_list_eq_equiv.refl row.name in
              absurd (true≢false (sym (and_from _ _ (eq-eqb row.client child.client (sym stands.owner)) hung) ∙ no))

-- the cells of a client's widgets are emptied, and no others
pub record IsEmptied (client : ℕ) (cells new_cells : List (Option ℕ)) : Type 0 where
  pub inside : (place : ℕ) → 32768 * (client - 1) ≤ place → place < 32768 * client → get_or new_cells place None ≡ None
  pub under : (place : ℕ) → place < 32768 * (client - 1) → get_or new_cells place None ≡ get_or cells place None
  pub above : (place : ℕ) → 32768 * client ≤ place → get_or new_cells place None ≡ get_or cells place None
  pub len : length new_cells ≡ length cells

module _ (es : List (ℕ × Row)) (gone : ℕ) (grove : IsGrove es) where
  module _ (cells new_cells : List (Option ℕ)) (low : 1 ≤ gone) (owned : (id : ℕ) (row : Row) → row_at es id ≡ Some row → is_number_of row.client id ≡ true) (emptied : IsEmptied gone cells new_cells) where
    was : (above : ℕ) (upper : Row) → row_at (rows_but gone es) above ≡ Some upper → (row_at es above ≡ Some upper) × (nat_eq gone upper.client ≡ false)
    was above upper at = by (row_at es above) refl (sym (row_at-filter (λ (e : ℕ × Row). not (nat_eq gone e.1.client)) es above grove.own_numbers) ∙ at)
      where
        kept : (row : Row) (b : Bool) → nat_eq gone row.client ≡ b → row_at es above ≡ Some row → cond (not b) (Some row) None ≡ Some upper → (row_at es above ≡ Some upper) × (nat_eq gone upper.client ≡ false)
        kept row true q p k = absurd (cc)
        kept row false q p k = let same : row ≡ upper = cc in (p ∙ k, ap (λ (r : Row). nat_eq gone r.client) (sym same) ∙ q)

        by : (o : Option Row) → row_at es above ≡ o → option_and_then (λ (row : Row). cond (not (nat_eq gone row.client)) (Some row) None) o ≡ Some upper → (row_at es above ≡ Some upper) × (nat_eq gone upper.client ≡ false)
        by None p k = absurd (cc)
        by (Some row) p k = kept row (nat_eq gone row.client) refl p k

    -- a cell is the client's exactly where its row's number is
    cell_kept : (above column line : ℕ) → IsIndex column → IsIndex line → is_number_of gone above ≡ false → get_or new_cells (cell_offset above column line) None ≡ get_or cells (cell_offset above column line) None
    cell_kept above column line c l out = by (cases_lt (cell_offset above column line) (32768 * gone))
      where
        less : (place : ℕ) → above * 256 ≤ place → place < above * 256 + 256 → is_number_of gone above ≡ false → place < 32768 * gone → place < 32768 * (gone - 1)
        less place a b out under = grind (arith, nat_tests)

        by : (cell_offset above column line < 32768 * gone) ⊎ (32768 * gone ≤ cell_offset above column line) → get_or new_cells (cell_offset above column line) None ≡ get_or cells (cell_offset above column line) None
        by (inl under) = emptied.under (cell_offset above column line) (less (cell_offset above column line) (omega (arith, c, l)) (omega (arith, c, l)) out under)
        by (inr more) = emptied.above (cell_offset above column line) more

    cell_emptied : (above column line : ℕ) → IsIndex column → IsIndex line → is_number_of gone above ≡ true → get_or new_cells (cell_offset above column line) None ≡ None
    cell_emptied above column line c l own = emptied.inside (cell_offset above column line) (from (cell_offset above column line) (omega (arith, c, l)) own) (to (cell_offset above column line) (omega (arith, c, l)) own)
      where
        from : (place : ℕ) → above * 256 ≤ place → is_number_of gone above ≡ true → 32768 * (gone - 1) ≤ place
        from place a own = grind (arith, nat_tests)

        to : (place : ℕ) → place < above * 256 + 256 → is_number_of gone above ≡ true → place < 32768 * gone
        to place a own = grind (arith, nat_tests)

    pub children-others : HasChildren es cells → HasChildren (rows_but gone es) new_cells
    children-others h =
        HasChildren-left es (rows_but gone es) cells new_cells
        (record {
          stays = λ above upper at. (was above upper at).0;
          found = λ above column line upper at. ap (find (stands_at upper.client upper.name column line)) (rows-filter_others es gone) ∙ find-left (stands_at upper.client upper.name column line) (λ (r : Row). not (nat_eq gone r.client)) (rows_in es) (λ i r there hung. ap (λ (client : ℕ). not (nat_eq gone client)) (sym (owner upper.client r upper.name column line hung)) ∙ ap not (was above upper at).1);
          number = λ above column line upper child at q. id_named-others es gone child.client child.name ∙ ap (λ (b : Bool). cond b None (id_named (nodes es) child.client child.name)) (ap (nat_eq gone) (child_in-stands (rows_in es) upper.client upper.name column line child q).owner ∙ (was above upper at).1);
          cell = λ above column line upper c l at. cell_kept above column line c l (number-client gone upper.client above low (owned above upper (was above upper at).0) ∙ (was above upper at).1);
          empty = λ above column line c l at. by above column line c l (is_number_of gone above) refl (row_at es above) refl (sym (row_at-filter (λ (e : ℕ × Row). not (nat_eq gone e.1.client)) es above grove.own_numbers) ∙ at);
        })
        h
      where
        owner : (client : ℕ) (r : Row) (name : List ℕ) (column line : ℕ) → stands_at client name column line r ≡ true → client ≡ r.client
        owner client r name column line hung = eqb-true client r.client (and_parts (nat_eq client r.client) (option_map_or (λ (s : List ℕ × Cell). bytes_eq name s.0 && (nat_eq column s.1.column && nat_eq line s.1.row)) r.attached false) hung).0

        by : (above column line : ℕ) → IsIndex column → IsIndex line → (b : Bool) → is_number_of gone above ≡ b → (o : Option Row) → row_at es above ≡ o → option_and_then (λ (row : Row). cond (not (nat_eq gone row.client)) (Some row) None) (row_at es above) ≡ None → get_or new_cells (cell_offset above column line) None ≡ None
        by above column line c l true q o p k = cell_emptied above column line c l q
        by above column line c l false q None p k = cell_kept above column line c l q ∙ h.each above column line c l ∙ child_id-none es above column line p
        by above column line c l false q (Some row) p k =
            let other : nat_eq gone row.client ≡ false = sym (number-client gone row.client above low (owned above row p)) ∙ q in
            absurd (let some : Some row ≡ None = sym (ap (option_and_then (λ (r : Row). cond (not (nat_eq gone r.client)) (Some r) None)) p ∙ ap (λ (b : Bool). cond (not b) (Some row) None) other) ∙ k in cc)
