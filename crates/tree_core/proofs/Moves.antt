-- What a change of the rows is to the table of children: one row changes, or hangs in another cell, a row is put last,
-- and rows are taken out.
use Rattle.std.proofs.Common.{◌≡◌, ◌≢◌, ℕ, ◌<◌, ◌⊎◌, inl, inr, Bool, true, false, cond, ◌&&◌, nat_eq, List, [], ◌∷◌, ◌++◌, length, get_or, Option, Some, None, refl, sym, ap, ◌∙◌, arith}
use Rattle.std.proofs.Math.ListN.{set}
use Rattle.std.proofs.lemmas.Bool.{eqb-true, and_parts, cases_eq, false_from_ne_true}
use Rattle.std.proofs.lemmas.List.{get_or-set_same, get_or-set_other}
use Rattle.std.proofs.lemmas.List.Folds.{find-append}
use Rattle.std.proofs.lemmas.Option.{same_Some}
use Rattle.std.proofs.lemmas.Slice.Eq.{bytes_eq-Decides}
use Rattle.std.specs.List.{find}
use Rattle.std.specs.Option.{option_map, option_map_or, option_and_then, option_or}
use Rattle.std.specs.Str.{bytes_eq}
use Rattle.kind_core.specs.declared.shapes.Cell.{Cell}
use Rattle.widget_model.specs.Rows.{Row, with_attached, IsIndex}
use Rattle.widget_model.specs.Keys.{key_of}
use Rattle.widget_model.specs.Nodes.{Node, node_of, node_at, id_named}
use Rattle.widget_model.specs.Named.{with_named, row_named}
use Rattle.widget_model.specs.Relatives.{child_id}
use Rattle.widget_model.specs.Trees.{child_in, stands_at}
use Rattle.widget_model.specs.Widgets.{row_at, with_row, nodes}
use Rattle.widget_model.proofs.Cells.{child_in-stands, child_in-attach_same, child_in-attach_other, child_in-detach_same, child_in-detach_other, CanHang}
use Rattle.widget_model.proofs.Hanging.{all_at, hangs_right-at}
use Rattle.widget_model.proofs.Naming.{rows-push, rows-with_row, id_named-row}
use Rattle.row_store.specs.CellTable.{cell_offset}
use Rattle.row_store.proofs.UnderNumbers.{node_at-nodes, nodes-push, nodes-with_row, row_at-push, row_at-last}
use Rattle.row_store.proofs.UnderNames.{id_named-push}
use Rattle.widget_model.specs.Widgets.{rows_in}
use Rattle.tree_core.specs.Children.{widgets_in, HasChildren}
use Rattle.tree_core.specs.Kept.{IsGrove}
use Rattle.tree_core.proofs.Listed.{find_place, row_named-row}
use Rattle.tree_core.proofs.Children.{child_in-number, own_number}

-- the number of a row that was found
abbrev pub number_in : List (ℕ × Node) → Option Row → Option ℕ
number_in ns found = option_and_then (λ (child : Row). id_named ns child.client child.name) found

number_in-key : (ns : List (ℕ × Node)) (new old : Option Row) → option_map key_of new ≡ option_map key_of old → number_in ns new ≡ number_in ns old
number_in-key ns None None same = refl
number_in-key ns None (Some r) same = absurd (cc)
number_in-key ns (Some r) None same = absurd (cc)
number_in-key ns (Some r) (Some s) same = ap (λ (key : ℕ × List ℕ). id_named ns key.0 key.1) (same_Some (key_of r) (key_of s) same)

-- who is in a cell of a row, and that none is in one of a number without a row
pub child_id-row : (es : List (ℕ × Row)) (above column line : ℕ) (upper : Row) → row_at es above ≡ Some upper → child_id (widgets_in es) above column line ≡ number_in (nodes es) (child_in (rows_in es) upper.client upper.name column line)
child_id-row es above column line upper there = ap (option_and_then (λ (row : Row). number_in (nodes es) (child_in (rows_in es) row.client row.name column line))) there

pub child_id-none : (es : List (ℕ × Row)) (above column line : ℕ) → row_at es above ≡ None → child_id (widgets_in es) above column line ≡ None
child_id-none es above column line absent = ap (option_and_then (λ (row : Row). number_in (nodes es) (child_in (rows_in es) row.client row.name column line))) absent

-- rows with the nodes of others: who is in a cell of a row of theirs
module _ (es new : List (ℕ × Row)) (same : nodes new ≡ nodes es) (above column line : ℕ) where
  nodes_same : option_map node_of (row_at new above) ≡ option_map node_of (row_at es above)
  nodes_same = sym (node_at-nodes new above) ∙ ap (λ (ns : List (ℕ × Node)). node_at ns above) same ∙ node_at-nodes es above

  child_id-renewed : (upper : Row) → row_at es above ≡ Some upper → child_id (widgets_in new) above column line ≡ number_in (nodes es) (child_in (rows_in new) upper.client upper.name column line)
  child_id-renewed upper there = by (row_at new above) refl (nodes_same ∙ ap (option_map node_of) there)
    where
      by : (o : Option Row) → row_at new above ≡ o → option_map node_of (row_at new above) ≡ Some (node_of upper) → child_id (widgets_in new) above column line ≡ number_in (nodes es) (child_in (rows_in new) upper.client upper.name column line)
      by None p eq = absurd (let none : None ≡ Some (node_of upper) = sym (ap (option_map node_of) p) ∙ eq in cc)
      by (Some row) p eq =
          let node : node_of row ≡ node_of upper = same_Some (node_of row) (node_of upper) (sym (ap (option_map node_of) p) ∙ eq) in
          child_id-row new above column line row p
          ∙ ap (λ (n : Node). number_in (nodes new) (child_in (rows_in new) n.client n.name column line)) node
          ∙ ap (λ (ns : List (ℕ × Node)). number_in ns (child_in (rows_in new) upper.client upper.name column line)) same

  child_id-same : ((upper : Row) → row_at es above ≡ Some upper → option_map key_of (child_in (rows_in new) upper.client upper.name column line) ≡ option_map key_of (child_in (rows_in es) upper.client upper.name column line)) → child_id (widgets_in new) above column line ≡ child_id (widgets_in es) above column line
  child_id-same found = by (row_at es above) refl
    where
      gone : (o : Option Row) → row_at new above ≡ o → option_map node_of o ≡ None → row_at new above ≡ None
      gone None p eq = p
      gone (Some row) p eq = absurd (cc)

      by : (o : Option Row) → row_at es above ≡ o → child_id (widgets_in new) above column line ≡ child_id (widgets_in es) above column line
      by None p = child_id-none new above column line (gone (row_at new above) refl (nodes_same ∙ ap (option_map node_of) p)) ∙ sym (child_id-none es above column line p)
      by (Some upper) p = child_id-renewed upper p ∙ number_in-key (nodes es) _ _ (found upper p) ∙ sym (child_id-row es above column line upper p)

-- a change that leaves where rows hang leaves who is in a cell
module _ (id : ℕ) (change : Row → Row) (node : (row : Row) → node_of (change row) ≡ node_of row) (still : (row : Row) → (change row).attached ≡ row.attached) where
  child_in-still : (client : ℕ) (name : List ℕ) (column line : ℕ) (es : List (ℕ × Row)) → option_map key_of (child_in (rows_in (with_row id change es)) client name column line) ≡ option_map key_of (child_in (rows_in es) client name column line)
  child_in-still client name column line [] = refl
  child_in-still client name column line (e ∷ es) = by (nat_eq id e.0) (child_in-still client name column line es)
    where
      stands : stands_at client name column line (change e.1) ≡ stands_at client name column line e.1
      stands = rw (still e.1, ap (λ (n : Node). n.client) (node e.1)) refl

      first : (b : Bool) (row : Row) (rest : Option Row) → key_of row ≡ key_of e.1 → option_map key_of rest ≡ option_map key_of (child_in (rows_in es) client name column line) → option_map key_of (cond b (Some row) rest) ≡ option_map key_of (cond b (Some e.1) (child_in (rows_in es) client name column line))
      first true row rest key h = ap Some key
      first false row rest key h = h

      by : (b : Bool) → option_map key_of (child_in (rows_in (with_row id change es)) client name column line) ≡ option_map key_of (child_in (rows_in es) client name column line) → option_map key_of (child_in (rows_in (cond b (e.0, change e.1) e ∷ with_row id change es)) client name column line) ≡ option_map key_of (child_in (rows_in (e ∷ es)) client name column line)
      by true rest =
          ap (λ (b : Bool). option_map key_of (cond b (Some (change e.1)) (child_in (rows_in (with_row id change es)) client name column line))) stands
          ∙ first (stands_at client name column line e.1) (change e.1) _ (ap (λ (n : Node). (n.client, n.name)) (node e.1)) rest
      by false rest = first (stands_at client name column line e.1) e.1 _ refl rest

  pub HasChildren-still : (es : List (ℕ × Row)) (cells : List (Option ℕ)) → HasChildren es cells → HasChildren (with_row id change es) cells
  HasChildren-still es cells h =
      record {
        each = λ above column line c l.
            h.each above column line c l
            ∙ sym (child_id-same es (with_row id change es) (nodes-with_row es id change node) above column line (λ upper there. child_in-still upper.client upper.name column line es));
      }

-- one place is one cell
cell_offset-same : (id other column other_column line other_line : ℕ) → IsIndex column → IsIndex other_column → IsIndex line → IsIndex other_line → cell_offset id column line ≡ cell_offset other other_column other_line → (id ≡ other) × (column ≡ other_column) × (line ≡ other_line)
cell_offset-same id other column other_column line other_line c oc l ol same = (omega (arith, c, oc, l, ol, same), omega (arith, c, oc, l, ol, same), omega (arith, c, oc, l, ol, same))

-- whether that is another cell than the named one
abbrev is_cell_of : Row → Cell → ℕ → List ℕ → ℕ → ℕ → Bool
is_cell_of upper cell client name column line = nat_eq client upper.client && (bytes_eq name upper.name && (nat_eq column cell.column && nat_eq line cell.row))

-- one cell of a row is filled or emptied, and the others aren't touched
pub record IsPutIn (es new : List (ℕ × Row)) (upper : Row) (cell : Cell) (child : Option ℕ) : Type 0 where
  pub same : nodes new ≡ nodes es
  pub here : number_in (nodes es) (child_in (rows_in new) upper.client upper.name cell.column cell.row) ≡ child
  pub others : (client : ℕ) (name : List ℕ) (column line : ℕ) → is_cell_of upper cell client name column line ≡ false → child_in (rows_in new) client name column line ≡ child_in (rows_in es) client name column line

pub HasChildren-put : (es new : List (ℕ × Row)) (cells : List (Option ℕ)) (above : ℕ) (upper : Row) (cell : Cell) (child : Option ℕ) → IsGrove es → HasChildren es cells → row_at es above ≡ Some upper → IsIndex cell.column → IsIndex cell.row → cell_offset above cell.column cell.row < length cells → IsPutIn es new upper cell child → HasChildren new (set cells (cell_offset above cell.column cell.row) child)
HasChildren-put es new cells above upper cell child grove h there column_in line_in within put =
    record { each = λ a column line c l. by a column line c l (cases_eq (cell_offset a column line) (cell_offset above cell.column cell.row)) }
  where
    differs : (a column line : ℕ) → cell_offset a column line ≢ cell_offset above cell.column cell.row → (row : Row) → row_at es a ≡ Some row → is_cell_of upper cell row.client row.name column line ≡ false
    differs a column line apart row at = false_from_ne_true (is_cell_of upper cell row.client row.name column line) (λ is. here is)
      where
        here : is_cell_of upper cell row.client row.name column line ≡ true → ⊥
        here is =
            let owner = and_parts (nat_eq row.client upper.client) (bytes_eq row.name upper.name && (nat_eq column cell.column && nat_eq line cell.row)) is in
            let named = and_parts (bytes_eq row.name upper.name) (nat_eq column cell.column && nat_eq line cell.row) owner.1 in
            let lines = and_parts (nat_eq column cell.column) (nat_eq line cell.row) named.1 in
            let number = own_number es a above row upper grove at there (eqb-true row.client upper.client owner.0) ((bytes_eq-Decides row.name upper.name).0 named.0) in
            apart (rw (number, eqb-true column cell.column lines.0, eqb-true line cell.row lines.1) refl)

    by : (a column line : ℕ) → IsIndex column → IsIndex line → (cell_offset a column line ≡ cell_offset above cell.column cell.row) ⊎ (cell_offset a column line ≡ cell_offset above cell.column cell.row → ⊥) → get_or (set cells (cell_offset above cell.column cell.row) child) (cell_offset a column line) None ≡ child_id (widgets_in new) a column line
    by a column line c l (inl same) =
        let parts = cell_offset-same a above column cell.column line cell.row c column_in l line_in same in
        let here : child_id (widgets_in new) a column line ≡ child = rw (parts.0, parts.1, parts.2) (child_id-renewed es new put.same above cell.column cell.row upper there ∙ put.here) in
        ap (λ (n : ℕ). get_or (set cells (cell_offset above cell.column cell.row) child) n None) same ∙ get_or-set_same cells (cell_offset above cell.column cell.row) child None within ∙ sym here
    by a column line c l (inr apart) =
        get_or-set_other cells (cell_offset above cell.column cell.row) (cell_offset a column line) child None apart
        ∙ h.each a column line c l
        ∙ sym (child_id-same es new put.same a column line (λ row at. ap (option_map key_of) (put.others row.client row.name column line (differs a column line apart row at))))

-- a widget is hung in a cell, or taken out of it
module _ (es : List (ℕ × Row)) (below : ℕ) (upper lower : Row) (cell : Cell) (grove : IsGrove es) (lower_there : row_at es below ≡ Some lower) (owner : lower.client ≡ upper.client) where
  named_lower : row_named (rows_in es) upper.client lower.name ≡ Some lower
  named_lower = ap (λ (client : ℕ). row_named (rows_in es) client lower.name) (sym owner) ∙ row_named-row es below lower grove.own_numbers grove.own_names lower_there

  rows_new : (change : Row → Row) → rows_in (with_row below change es) ≡ with_named upper.client lower.name change (rows_in es)
  rows_new change =
      rows-with_row es lower.client lower.name below change grove.own_numbers grove.own_names (id_named-row es below lower grove.own_names lower_there)
      ∙ ap (λ (client : ℕ). with_named client lower.name change (rows_in es)) owner

  seen : (change : Row → Row) (client : ℕ) (name : List ℕ) (column line : ℕ) → child_in (rows_in (with_row below change es)) client name column line ≡ child_in (with_named upper.client lower.name change (rows_in es)) client name column line
  seen change client name column line = ap (λ (rows : List Row). child_in rows client name column line) (rows_new change)

  pub IsPutIn-hang : CanHang (rows_in es) upper.client upper.name lower.name cell upper lower → IsPutIn es (with_row below (with_attached (Some (upper.name, cell))) es) upper cell (Some below)
  IsPutIn-hang can =
      let change = with_attached (Some (upper.name, cell)) in
      let apart = grove.own_names in
      record {
        same = nodes-with_row es below change (λ row. refl);
        here = ap (number_in (nodes es)) (seen change upper.client upper.name cell.column cell.row ∙ child_in-attach_same (rows_in es) upper.client upper.name lower.name cell upper lower apart can) ∙ id_named-row es below lower grove.own_names lower_there;
        others = λ client name column line differs. seen change client name column line ∙ child_in-attach_other (rows_in es) upper.client upper.name lower.name cell upper lower apart can client name column line differs;
      }

  pub IsPutIn-unhang : lower.attached ≡ Some (upper.name, cell) → IsPutIn es (with_row below (with_attached None) es) upper cell None
  IsPutIn-unhang attached =
      let apart = grove.own_names in
      record {
        same = nodes-with_row es below (with_attached None) (λ row. refl);
        here = ap (number_in (nodes es)) (seen (with_attached None) upper.client upper.name cell.column cell.row ∙ child_in-detach_same (rows_in es) upper.client lower.name upper.name cell lower apart grove.planted.own_cells named_lower attached);
        others = λ client name column line differs. seen (with_attached None) client name column line ∙ child_in-detach_other (rows_in es) upper.client lower.name upper.name cell lower apart named_lower attached client name column line differs;
      }

-- a new row, which hangs nowhere
module _ (es : List (ℕ × Row)) (id : ℕ) (row : Row) (absent : row_at es id ≡ None) (alone : row.attached ≡ None) (unnamed : row_named (rows_in es) row.client row.name ≡ None) (grove : IsGrove es) where
  child_in-more : (client : ℕ) (name : List ℕ) (column line : ℕ) → child_in (rows_in (es ++ (id, row) ∷ [])) client name column line ≡ child_in (rows_in es) client name column line
  child_in-more client name column line =
      ap (find (stands_at client name column line)) (rows-push es id row)
      ∙ find-append (stands_at client name column line) (rows_in es) (row ∷ [])
      ∙ ap (λ (b : Bool). option_or (child_in (rows_in es) client name column line) (cond b (Some row) None)) (stands_not (nat_eq client row.client))
      ∙ or_none (child_in (rows_in es) client name column line)
    where
      stands_not : (b : Bool) → (b && option_map_or (λ (s : List ℕ × Cell). bytes_eq name s.0 && (nat_eq column s.1.column && nat_eq line s.1.row)) row.attached false) ≡ false
      stands_not true = rw alone refl
      stands_not false = refl

      or_none : (o : Option Row) → option_or o None ≡ o
      or_none None = refl
      or_none (Some r) = refl

  -- nothing hangs in it, since no row has its name
  no_child : (column line : ℕ) (o : Option Row) → child_in (rows_in es) row.client row.name column line ≡ o → o ≡ None
  no_child column line None q = refl
  no_child column line (Some child) q =
      let stands = child_in-stands (rows_in es) row.client row.name column line child q in
      let place = find_place (stands_at row.client row.name column line) (rows_in es) child q in
      let right = hangs_right-at (rows_in es) child row.name stands.cell (all_at _ (rows_in es) place.0 child grove.planted.hang place.1) stands.attached in
      let none : row_named (rows_in es) child.client row.name ≡ None = rw stands.owner unnamed in
      absurd (let both : None ≡ Some right.upper = sym none ∙ right.found in cc)

  same_number : (client : ℕ) (name : List ℕ) (column line : ℕ) (o : Option Row) → child_in (rows_in es) client name column line ≡ o → number_in (nodes (es ++ (id, row) ∷ [])) o ≡ number_in (nodes es) o
  same_number client name column line None q = refl
  same_number client name column line (Some child) q =
      let number = child_in-number es client name column line child grove q in
      ap (λ (ns : List (ℕ × Node)). id_named ns child.client child.name) (nodes-push es id row) ∙ id_named-push (nodes es) (id, node_of row) child.client child.name ∙ rw number.2 refl

  pub HasChildren-push : (cells : List (Option ℕ)) → HasChildren es cells → HasChildren (es ++ (id, row) ∷ []) cells
  HasChildren-push cells h = record { each = λ above column line c l. h.each above column line c l ∙ by above column line (nat_eq above id) refl (row_at es above) refl }
    where
      by : (above column line : ℕ) (b : Bool) → nat_eq above id ≡ b → (o : Option Row) → row_at es above ≡ o → child_id (widgets_in es) above column line ≡ child_id (widgets_in (es ++ (id, row) ∷ [])) above column line
      by above column line true q o p =
          let here : row_at (es ++ (id, row) ∷ []) above ≡ Some row = ap (row_at (es ++ (id, row) ∷ [])) (eqb-true above id q) ∙ row_at-last es id row absent in
          child_id-none es above column line (ap (row_at es) (eqb-true above id q) ∙ absent)
          ∙ sym (child_id-row (es ++ (id, row) ∷ []) above column line row here ∙ ap (number_in (nodes (es ++ (id, row) ∷ []))) (child_in-more row.client row.name column line ∙ no_child column line (child_in (rows_in es) row.client row.name column line) refl))
      by above column line false q None p = child_id-none es above column line p ∙ sym (child_id-none (es ++ (id, row) ∷ []) above column line (row_at-push es id row above q ∙ p))
      by above column line false q (Some upper) p =
          child_id-row es above column line upper p
          ∙ sym (child_id-row (es ++ (id, row) ∷ []) above column line upper (row_at-push es id row above q ∙ p) ∙ ap (number_in (nodes (es ++ (id, row) ∷ []))) (child_in-more upper.client upper.name column line) ∙ same_number upper.client upper.name column line (child_in (rows_in es) upper.client upper.name column line) refl)

-- rows are taken out, and with each one its children
pub record IsLeftOf (es left : List (ℕ × Row)) (cells new_cells : List (Option ℕ)) : Type 0 where
  pub stays : (above : ℕ) (upper : Row) → row_at left above ≡ Some upper → row_at es above ≡ Some upper
  pub found : (above column line : ℕ) (upper : Row) → row_at left above ≡ Some upper → child_in (rows_in left) upper.client upper.name column line ≡ child_in (rows_in es) upper.client upper.name column line
  pub number : (above column line : ℕ) (upper child : Row) → row_at left above ≡ Some upper → child_in (rows_in es) upper.client upper.name column line ≡ Some child → id_named (nodes left) child.client child.name ≡ id_named (nodes es) child.client child.name
  pub cell : (above column line : ℕ) (upper : Row) → IsIndex column → IsIndex line → row_at left above ≡ Some upper → get_or new_cells (cell_offset above column line) None ≡ get_or cells (cell_offset above column line) None
  pub empty : (above column line : ℕ) → IsIndex column → IsIndex line → row_at left above ≡ None → get_or new_cells (cell_offset above column line) None ≡ None

pub HasChildren-left : (es left : List (ℕ × Row)) (cells new_cells : List (Option ℕ)) → IsLeftOf es left cells new_cells → HasChildren es cells → HasChildren left new_cells
HasChildren-left es left cells new_cells is h = record { each = λ above column line c l. by above column line c l (row_at left above) refl }
  where
    same_number : (above column line : ℕ) (upper : Row) → row_at left above ≡ Some upper → (o : Option Row) → child_in (rows_in es) upper.client upper.name column line ≡ o → number_in (nodes left) o ≡ number_in (nodes es) o
    same_number above column line upper p None q = refl
    same_number above column line upper p (Some child) q = is.number above column line upper child p q

    by : (above column line : ℕ) → IsIndex column → IsIndex line → (o : Option Row) → row_at left above ≡ o → get_or new_cells (cell_offset above column line) None ≡ child_id (widgets_in left) above column line
    by above column line c l None p = is.empty above column line c l p ∙ sym (child_id-none left above column line p)
    by above column line c l (Some upper) p =
        is.cell above column line upper c l p
        ∙ h.each above column line c l
        ∙ child_id-row es above column line upper (is.stays above upper p)
        ∙ sym (child_id-row left above column line upper p ∙ ap (number_in (nodes left)) (is.found above column line upper p) ∙ same_number above column line upper p (child_in (rows_in es) upper.client upper.name column line) refl)
