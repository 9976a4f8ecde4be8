-- Who is in a cell, and that no two are in one, after rows were put last, changed or left out.
use Rattle.std.proofs.Common.{◌≡◌, ℕ, zero, suc, Bool, true, false, cond, ◌&&◌, nat_eq, nat_lt, ◌+◌, List, [], ◌∷◌, ◌++◌, map, Option, Some, None, is_none, refl, sym, ap, ◌∙◌, slice_get, ◌⊎◌, inl, inr}
use Rattle.std.proofs.lemmas.Bool.{true≢false, eqb-true, and_parts, and_from, cond-true, cond-false, false_from_ne_true}
use Rattle.std.proofs.lemmas.Option.{some_pair_parts}
use Rattle.std.proofs.lemmas.Slice.Eq.{bytes_eq-Decides}
use Rattle.std.specs.Cmp.{nat_eq_equiv}
use Rattle.std.specs.Cmp.Lexicographic.{nat_list_eq_equiv}
use Rattle.std.specs.List.{find, filter}
use Rattle.std.specs.Option.{option_map_or}
use Rattle.std.specs.Str.{bytes_eq}
use Rattle.kind_core.specs.declared.shapes.Cell.{Cell}
use Rattle.widget_model.specs.Rows.{Row, with_attached}
use Rattle.widget_model.specs.Named.{has_name, row_named, with_named}
use Rattle.widget_model.specs.Trees.{hangs, has_children, can_be_child, child_in, stands_at, depth_of, height_of, is_above, most_levels}
use Rattle.widget_model.specs.Planted.{has_cell, is_alone, HaveOwnCells}
use Rattle.widget_model.specs.Named.{AreNamedApart}
use Rattle.widget_model.proofs.Leaves.{LeavesNode}
use Rattle.widget_model.proofs.Hanging.{find-passes, find-element, find_none_at, find_none_from, find-map_none, find-map_same, find-filter_none, find-push_none, none_at, IsNamed, IsNamed-from, IsNamed-row_named, changed, row_named-only}

-- the child in a cell hangs there
pub record StandsIn (client : ℕ) (name : List ℕ) (column line : ℕ) (child : Row) : Type 0 where
  pub cell : Cell
  pub owner : child.client ≡ client
  pub attached : child.attached ≡ Some (name, cell)
  pub column_is : cell.column ≡ column
  pub line_is : cell.row ≡ line

StandsIn-from : (client : ℕ) (name : List ℕ) (column line : ℕ) (row : Row) → stands_at client name column line row ≡ true → StandsIn client name column line row
StandsIn-from client name column line row h = by row.attached refl (and_parts (nat_eq client row.client) (option_map_or (λ (attached : List ℕ × Cell). bytes_eq name attached.0 && (nat_eq column attached.1.column && nat_eq line attached.1.row)) row.attached false) h)
  where
    by : (o : Option (List ℕ × Cell)) → row.attached ≡ o → (nat_eq client row.client ≡ true) × (option_map_or (λ (attached : List ℕ × Cell). bytes_eq name attached.0 && (nat_eq column attached.1.column && nat_eq line attached.1.row)) o false ≡ true) → StandsIn client name column line row
    by None is parts = absurd (true≢false (sym parts.1))
    by (Some attached) is parts =
        let named = and_parts (bytes_eq name attached.0) (nat_eq column attached.1.column && nat_eq line attached.1.row) parts.1 in
        let lines = and_parts (nat_eq column attached.1.column) (nat_eq line attached.1.row) named.1 in
        record {
          cell = attached.1;
          owner = sym (eqb-true client row.client parts.0);
          attached = is ∙ ap (λ (above : List ℕ). Some (above, attached.1)) (sym ((bytes_eq-Decides name attached.0).0 named.0));
          column_is = sym (eqb-true column attached.1.column lines.0);
          line_is = sym (eqb-true line attached.1.row lines.1);
        }

stands_at-from : (client : ℕ) (name : List ℕ) (column line : ℕ) (row : Row) → StandsIn client name column line row → stands_at client name column line row ≡ true
stands_at-from client name column line row is =
    rw (is.attached, is.owner, is.column_is, is.line_is)
    (and_from _ _ (nat_eq_equiv.refl client) (and_from _ _ (nat_list_eq_equiv.refl name) (and_from _ _ (nat_eq_equiv.refl column) (nat_eq_equiv.refl line))))

stands_at-alone : (client : ℕ) (name : List ℕ) (column line : ℕ) (row : Row) → row.attached ≡ None → stands_at client name column line row ≡ false
stands_at-alone client name column line row alone = by (nat_eq client row.client)
  where
    by : (b : Bool) → (b && option_map_or (λ (attached : List ℕ × Cell). bytes_eq name attached.0 && (nat_eq column attached.1.column && nat_eq line attached.1.row)) row.attached false) ≡ false
    by true = rw alone refl
    by false = refl

pub child_in-stands : (rows : List Row) (client : ℕ) (name : List ℕ) (column line : ℕ) (child : Row) → child_in rows client name column line ≡ Some child → StandsIn client name column line child
child_in-stands rows client name column line child found = StandsIn-from client name column line child (find-passes (stands_at client name column line) rows child found)

-- a row that is alone in its cell
is_alone-at : (later : List Row) (row : Row) (name : List ℕ) (cell : Cell) → is_alone later row ≡ true → row.attached ≡ Some (name, cell) → child_in later row.client name cell.column cell.row ≡ None
is_alone-at later row name cell alone is = by (child_in later row.client name cell.column cell.row) (sym (ap (λ (o : Option (List ℕ × Cell)). option_map_or (λ (attached : List ℕ × Cell). is_none (child_in later row.client attached.0 attached.1.column attached.1.row)) o true) is) ∙ alone)
  where
    by : (o : Option Row) → is_none o ≡ true → o ≡ None
    by None h = refl
    by (Some child) h = absurd (true≢false (sym h))

is_alone-from : (later : List Row) (row : Row) → ((name : List ℕ) (cell : Cell) → row.attached ≡ Some (name, cell) → child_in later row.client name cell.column cell.row ≡ None) → is_alone later row ≡ true
is_alone-from later row each = by row.attached refl
  where
    by : (o : Option (List ℕ × Cell)) → row.attached ≡ o → option_map_or (λ (attached : List ℕ × Cell). is_none (child_in later row.client attached.0 attached.1.column attached.1.row)) o true ≡ true
    by None is = refl
    by (Some attached) is = ap is_none (each attached.0 attached.1 is)

-- and every row that hangs somewhere is the child in its cell
pub child_in-own : (rows : List Row) (i : ℕ) (row : Row) (name : List ℕ) (cell : Cell) → HaveOwnCells rows → slice_get rows i ≡ Some row → row.attached ≡ Some (name, cell) → child_in rows row.client name cell.column cell.row ≡ Some row
child_in-own [] i row name cell own there attached = absurd (cc)
child_in-own (first ∷ rows) zero row name cell own there attached =
    let same : first ≡ row = cc in
    let is : StandsIn row.client name cell.column cell.row first = record { cell = cell; owner = ap (λ (r : Row). r.client) same; attached = ap (λ (r : Row). r.attached) same ∙ attached; column_is = refl; line_is = refl } in
    cond-true (stands_at row.client name cell.column cell.row first) (Some first) (child_in rows row.client name cell.column cell.row) (stands_at-from row.client name cell.column cell.row first is) ∙ ap Some same
child_in-own (first ∷ rows) (suc i) row name cell own there attached = by (stands_at row.client name cell.column cell.row first) refl (child_in-own rows i row name cell own.1 there attached)
  where
    by : (b : Bool) → stands_at row.client name cell.column cell.row first ≡ b → child_in rows row.client name cell.column cell.row ≡ Some row → cond b (Some first) (child_in rows row.client name cell.column cell.row) ≡ Some row
    by true stands rest =
        let is = StandsIn-from row.client name cell.column cell.row first stands in
        let free : child_in rows first.client name is.cell.column is.cell.row ≡ None = is_alone-at rows first name is.cell own.0 is.attached in
        absurd (cc (rest, free, is.owner, is.column_is, is.line_is))
    by false stands rest = rest

-- A change that leaves a row as it is, or cuts it loose.
pub record Lessens (change : Row → Row) : Type 0 where
  pub leaves : LeavesNode change
  pub attached : (row : Row) → ((change row).attached ≡ None) ⊎ ((change row).attached ≡ row.attached)

stands_at-less : (change : Row → Row) (client : ℕ) (name : List ℕ) (column line : ℕ) (row : Row) → Lessens change → stands_at client name column line row ≡ false → stands_at client name column line (change row) ≡ false
stands_at-less change client name column line row less h = by (less.attached row)
  where
    by : ((change row).attached ≡ None) ⊎ ((change row).attached ≡ row.attached) → stands_at client name column line (change row) ≡ false
    by (inl alone) = stands_at-alone client name column line (change row) alone
    by (inr same) = rw (less.leaves.client row, same) h

is_alone-map : (change : Row → Row) (later : List Row) (row : Row) → Lessens change → is_alone later row ≡ true → is_alone (map change later) (change row) ≡ true
is_alone-map change later row less alone = is_alone-from (map change later) (change row) (λ name cell is. by name cell is (less.attached row))
  where
    by : (name : List ℕ) (cell : Cell) → (change row).attached ≡ Some (name, cell) → ((change row).attached ≡ None) ⊎ ((change row).attached ≡ row.attached) → child_in (map change later) (change row).client name cell.column cell.row ≡ None
    by name cell is (inl loose) = absurd (cc)
    by name cell is (inr same) =
        let free = is_alone-at later row name cell alone (sym same ∙ is) in
        rw (less.leaves.client row)
        (find-map_none (stands_at row.client name cell.column cell.row) change later (λ i other there. stands_at-less change row.client name cell.column cell.row other less (find_none_at (stands_at row.client name cell.column cell.row) later i other free there)))

pub HaveOwnCells-map : (change : Row → Row) (rows : List Row) → Lessens change → HaveOwnCells rows → HaveOwnCells (map change rows)
HaveOwnCells-map change [] less own = tt
HaveOwnCells-map change (row ∷ rows) less own = (is_alone-map change rows row less own.0, HaveOwnCells-map change rows less own.1)

pub HaveOwnCells-filter : (kept : Row → Bool) (rows : List Row) → HaveOwnCells rows → HaveOwnCells (filter kept rows)
HaveOwnCells-filter kept [] own = tt
HaveOwnCells-filter kept (row ∷ rows) own = by (HaveOwnCells-filter kept rows own.1) (kept row)
  where
    alone : is_alone (filter kept rows) row ≡ true
    alone = is_alone-from (filter kept rows) row (λ name cell is. find-filter_none (stands_at row.client name cell.column cell.row) kept rows (is_alone-at rows row name cell own.0 is))

    by : HaveOwnCells (filter kept rows) → (b : Bool) → HaveOwnCells (cond b (row ∷ filter kept rows) (filter kept rows))
    by rest true = (alone, rest)
    by rest false = rest

pub HaveOwnCells-push : (rows : List Row) (row : Row) → row.attached ≡ None → HaveOwnCells rows → HaveOwnCells (rows ++ row ∷ [])
HaveOwnCells-push [] row alone own = (is_alone-from [] row (λ name cell is. refl), tt)
HaveOwnCells-push (first ∷ rows) row alone own = (is_alone-from (rows ++ row ∷ []) first (λ name cell is. find-push_none (stands_at first.client name cell.column cell.row) rows row (is_alone-at rows first name cell own.0 is) (stands_at-alone first.client name cell.column cell.row row alone)), HaveOwnCells-push rows row alone own.1)

-- the row, hung in that cell of the parent
abbrev pub hung_in : List ℕ → Cell → Row → Row
hung_in parent cell row = with_attached (Some (parent, cell)) row

-- a row hung there stands in no other cell
stands_at-hung : (client : ℕ) (name : List ℕ) (column line : ℕ) (parent : List ℕ) (cell : Cell) (row : Row) → (StandsIn client name column line (hung_in parent cell row) → ⊥) → stands_at client name column line (hung_in parent cell row) ≡ false
stands_at-hung client name column line parent cell row elsewhere = false_from_ne_true (stands_at client name column line (hung_in parent cell row)) (λ h. elsewhere (StandsIn-from client name column line (hung_in parent cell row) h))

stands_at-changed : (client : ℕ) (name : List ℕ) (column line : ℕ) (target : ℕ) (child : List ℕ) (change : Row → Row) (row : Row) → stands_at client name column line row ≡ false → (IsNamed target child row → stands_at client name column line (change row) ≡ false) → stands_at client name column line (changed target child change row) ≡ false
stands_at-changed client name column line target child change row old new = by (has_name target child row) refl
  where
    by : (b : Bool) → has_name target child row ≡ b → stands_at client name column line (cond b (change row) row) ≡ false
    by true named = new (IsNamed-from target child row named)
    by false named = old

-- Where no row stands in the cell, a row can be hung in it.
pub HaveOwnCells-attach : (rows : List Row) (client : ℕ) (parent child : List ℕ) (cell : Cell) → AreNamedApart rows → child_in rows client parent cell.column cell.row ≡ None → HaveOwnCells rows → HaveOwnCells (with_named client child (hung_in parent cell) rows)
HaveOwnCells-attach [] client parent child cell apart free own = tt
HaveOwnCells-attach (row ∷ rows) client parent child cell apart free own = (by (has_name client child row) refl, HaveOwnCells-attach rows client parent child cell apart.1 free_later own.1)
  where
    here : stands_at client parent cell.column cell.row row ≡ false
    here = find_none_at (stands_at client parent cell.column cell.row) (row ∷ rows) zero row free refl

    free_later : child_in rows client parent cell.column cell.row ≡ None
    free_later = find_none_from (stands_at client parent cell.column cell.row) rows (λ i other there. find_none_at (stands_at client parent cell.column cell.row) (row ∷ rows) (suc i) other free there)

    -- a row hung in the cell isn't in the one of this row
    elsewhere : (other : Row) (name : List ℕ) (attached : Cell) → row.attached ≡ Some (name, attached) → IsNamed client child other → StandsIn row.client name attached.column attached.row (hung_in parent cell other) → ⊥
    elsewhere other name attached is named stands =
        let place : (parent ≡ name) × (cell ≡ stands.cell) = some_pair_parts parent name cell stands.cell stands.attached in
        let there : StandsIn client parent cell.column cell.row row = record {
          cell = attached;
          owner = sym stands.owner ∙ named.client_is;
          attached = is ∙ ap (λ (above : List ℕ). Some (above, attached)) (sym place.0);
          column_is = sym stands.column_is ∙ ap (λ (c : Cell). c.column) (sym place.1);
          line_is = sym stands.line_is ∙ ap (λ (c : Cell). c.row) (sym place.1);
        } in
        true≢false (sym (stands_at-from client parent cell.column cell.row row there) ∙ here)

    -- no later row has this one's name
    unlike : (i : ℕ) (other : Row) → slice_get rows i ≡ Some other → IsNamed client child row → IsNamed client child other → ⊥
    unlike i other there is twice =
        let same : has_name row.client row.name other ≡ true = rw (is.client_is, is.name_is, twice.client_is, twice.name_is) (and_from _ _ (nat_eq_equiv.refl client) (nat_list_eq_equiv.refl child)) in
        true≢false (sym same ∙ none_at (has_name row.client row.name) rows i other apart.0 there)

    -- no later row comes into the cell
    free_still : IsNamed client child row → child_in (with_named client child (hung_in parent cell) rows) client parent cell.column cell.row ≡ None
    free_still is = find-map_none (stands_at client parent cell.column cell.row) (changed client child (hung_in parent cell)) rows each
      where
        each : (i : ℕ) (other : Row) → slice_get rows i ≡ Some other → stands_at client parent cell.column cell.row (changed client child (hung_in parent cell) other) ≡ false
        each i other there =
            let old = find_none_at (stands_at client parent cell.column cell.row) rows i other free_later there in
            stands_at-changed client parent cell.column cell.row client child (hung_in parent cell) other old (λ twice. absurd (unlike i other there is twice))

    -- nor into one in which another row stands
    own_still : (name : List ℕ) (attached : Cell) → row.attached ≡ Some (name, attached) → child_in (with_named client child (hung_in parent cell) rows) row.client name attached.column attached.row ≡ None
    own_still name attached is = find-map_none (stands_at row.client name attached.column attached.row) (changed client child (hung_in parent cell)) rows each
      where
        each : (i : ℕ) (other : Row) → slice_get rows i ≡ Some other → stands_at row.client name attached.column attached.row (changed client child (hung_in parent cell) other) ≡ false
        each i other there =
            let old = find_none_at (stands_at row.client name attached.column attached.row) rows i other (is_alone-at rows row name attached own.0 is) there in
            stands_at-changed row.client name attached.column attached.row client child (hung_in parent cell) other old (λ named. stands_at-hung row.client name attached.column attached.row parent cell other (elsewhere other name attached is named))

    by : (b : Bool) → has_name client child row ≡ b → is_alone (with_named client child (hung_in parent cell) rows) (cond b (hung_in parent cell row) row) ≡ true
    by true named = is_alone-from (with_named client child (hung_in parent cell) rows) (hung_in parent cell row) each
      where
        each : (name : List ℕ) (attached : Cell) → (hung_in parent cell row).attached ≡ Some (name, attached) → child_in (with_named client child (hung_in parent cell) rows) row.client name attached.column attached.row ≡ None
        each name attached where_is =
            let is = IsNamed-from client child row named in
            let place : (parent ≡ name) × (cell ≡ attached) = some_pair_parts parent name cell attached where_is in
            rw (is.client_is, ← place.0, ← place.1) (free_still is)
    by false named = is_alone-from (with_named client child (hung_in parent cell) rows) row own_still

-- what `place` asks of the two widgets and the cell
pub record CanHang (rows : List Row) (client : ℕ) (parent child : List ℕ) (cell : Cell) (upper lower : Row) : Type 0 where
  pub upper_there : row_named rows client parent ≡ Some upper
  pub lower_there : row_named rows client child ≡ Some lower
  pub has_children : has_children upper.kind ≡ true
  pub can_be_child : can_be_child lower.kind ≡ true
  pub has_cell : has_cell upper.kind cell ≡ true
  pub stands_alone : hangs lower ≡ false
  pub no_cycle : is_above rows client child parent ≡ false
  pub not_deep : nat_lt most_levels (depth_of rows client parent + height_of rows client child) ≡ false
  pub cell_free : child_in rows client parent cell.column cell.row ≡ None

pub attached_of_alone : (row : Row) → hangs row ≡ false → row.attached ≡ None
attached_of_alone row alone = by row.attached alone
  where
    by : (o : Option (List ℕ × Cell)) → option_map_or (λ (attached : List ℕ × Cell). true) o false ≡ false → o ≡ None
    by None h = refl
    by (Some attached) h = absurd (true≢false h)

child_in-hung : (rows : List Row) (client : ℕ) (parent child : List ℕ) (cell : Cell) (lower : Row) → row_named rows client child ≡ Some lower → child_in rows client parent cell.column cell.row ≡ None → child_in (with_named client child (hung_in parent cell) rows) client parent cell.column cell.row ≡ Some (hung_in parent cell lower)
child_in-hung [] client parent child cell lower found free = absurd (cc)
child_in-hung (first ∷ rows) client parent child cell lower found free =
    by (child_in-hung rows client parent child cell lower) (has_name client child first) refl found
  where
    free_later : child_in rows client parent cell.column cell.row ≡ None
    free_later = find_none_from (stands_at client parent cell.column cell.row) rows (λ i other there. find_none_at (stands_at client parent cell.column cell.row) (first ∷ rows) (suc i) other free there)

    by : (row_named rows client child ≡ Some lower → child_in rows client parent cell.column cell.row ≡ None → child_in (with_named client child (hung_in parent cell) rows) client parent cell.column cell.row ≡ Some (hung_in parent cell lower)) → (b : Bool) → has_name client child first ≡ b → cond b (Some first) (row_named rows client child) ≡ Some lower → find (stands_at client parent cell.column cell.row) (cond b (hung_in parent cell first) first ∷ with_named client child (hung_in parent cell) rows) ≡ Some (hung_in parent cell lower)
    by rest true named h =
        let same : first ≡ lower = cc in
        let is = IsNamed-from client child first named in
        let stands : StandsIn client parent cell.column cell.row (hung_in parent cell first) = record { cell = cell; owner = is.client_is; attached = refl; column_is = refl; line_is = refl } in
        cond-true (stands_at client parent cell.column cell.row (hung_in parent cell first)) (Some (hung_in parent cell first)) (child_in (with_named client child (hung_in parent cell) rows) client parent cell.column cell.row) (stands_at-from client parent cell.column cell.row (hung_in parent cell first) stands)
        ∙ ap (λ (r : Row). Some (hung_in parent cell r)) same
    by rest false named h =
        cond-false (stands_at client parent cell.column cell.row first) (Some first) (child_in (with_named client child (hung_in parent cell) rows) client parent cell.column cell.row) (find_none_at (stands_at client parent cell.column cell.row) (first ∷ rows) zero first free refl)
        ∙ rest h free_later

-- who is in a cell after a widget was hung there, or elsewhere
pub child_in-attach_same : (rows : List Row) (client : ℕ) (parent child : List ℕ) (cell : Cell) (upper lower : Row) → AreNamedApart rows → CanHang rows client parent child cell upper lower → child_in (with_named client child (with_attached (Some (parent, cell))) rows) client parent cell.column cell.row ≡ Some (with_attached (Some (parent, cell)) lower)
child_in-attach_same rows client parent child cell upper lower apart can = child_in-hung rows client parent child cell lower can.lower_there can.cell_free

-- a change of the named row is seen only in cells in which it was or is
child_in-changed : (rows : List Row) (client : ℕ) (child : List ℕ) (change : Row → Row) (lower : Row) → AreNamedApart rows → row_named rows client child ≡ Some lower → (other : ℕ) (name : List ℕ) (column line : ℕ) → stands_at other name column line lower ≡ false → stands_at other name column line (change lower) ≡ false → child_in (with_named client child change rows) other name column line ≡ child_in rows other name column line
child_in-changed rows client child change lower apart found other name column line old new =
    find-map_same (stands_at other name column line) (changed client child change) rows (λ i row there. by i row there (has_name client child row) refl)
  where
    by : (i : ℕ) (row : Row) → slice_get rows i ≡ Some row → (b : Bool) → has_name client child row ≡ b → (cond b (change row) row ≡ row) ⊎ ((stands_at other name column line (cond b (change row) row) ≡ false) × (stands_at other name column line row ≡ false))
    by i row there true named =
        let same : row ≡ lower = row_named-only rows i row lower client child apart found there named in
        inr (rw same new, rw same old)
    by i row there false named = inl refl

pub child_in-attach_other : (rows : List Row) (client : ℕ) (parent child : List ℕ) (cell : Cell) (upper lower : Row) → AreNamedApart rows → CanHang rows client parent child cell upper lower → (other : ℕ) (name : List ℕ) (column line : ℕ) → (nat_eq other client && (bytes_eq name parent && (nat_eq column cell.column && nat_eq line cell.row))) ≡ false → child_in (with_named client child (with_attached (Some (parent, cell))) rows) other name column line ≡ child_in rows other name column line
child_in-attach_other rows client parent child cell upper lower apart can other name column line differs =
    let is = IsNamed-row_named rows client child lower can.lower_there in
    let new : stands_at other name column line (hung_in parent cell lower) ≡ false = rw is.client_is differs in
    child_in-changed rows client child (hung_in parent cell) lower apart can.lower_there other name column line (stands_at-alone other name column line lower (attached_of_alone lower can.stands_alone)) new

-- who is in a cell after a widget was taken out of it, or out of another
pub child_in-detach_same : (rows : List Row) (client : ℕ) (child parent : List ℕ) (cell : Cell) (lower : Row) → AreNamedApart rows → HaveOwnCells rows → row_named rows client child ≡ Some lower → lower.attached ≡ Some (parent, cell) → child_in (with_named client child (with_attached None) rows) client parent cell.column cell.row ≡ None
child_in-detach_same rows client child parent cell lower apart own found attached =
    find-map_none (stands_at client parent cell.column cell.row) (changed client child (with_attached None)) rows (λ i row there. by i row there (has_name client child row) refl)
  where
    is : IsNamed client child lower
    is = IsNamed-row_named rows client child lower found

    lower_in : child_in rows client parent cell.column cell.row ≡ Some lower
    lower_in =
        let place = find-element (has_name client child) rows lower found in
        rw (← is.client_is) (child_in-own rows place.0 lower parent cell own place.1 attached)

    by : (i : ℕ) (row : Row) → slice_get rows i ≡ Some row → (b : Bool) → has_name client child row ≡ b → stands_at client parent cell.column cell.row (cond b (with_attached None row) row) ≡ false
    by i row there true named = stands_at-alone client parent cell.column cell.row (with_attached None row) refl
    by i row there false named = false_from_ne_true (stands_at client parent cell.column cell.row row) not_there
      where
        not_there : stands_at client parent cell.column cell.row row ≡ true → ⊥
        not_there h =
            let stands = StandsIn-from client parent cell.column cell.row row h in
            let row_in = child_in-own rows i row parent stands.cell own there stands.attached in
            let same : row ≡ lower = cc (row_in, lower_in, stands.owner, stands.column_is, stands.line_is) in
            let named_too : has_name client child row ≡ true = rw same (find-passes (has_name client child) rows lower found) in
            true≢false (sym named_too ∙ named)

pub child_in-detach_other : (rows : List Row) (client : ℕ) (child parent : List ℕ) (cell : Cell) (lower : Row) → AreNamedApart rows → row_named rows client child ≡ Some lower → lower.attached ≡ Some (parent, cell) → (other : ℕ) (name : List ℕ) (column line : ℕ) → (nat_eq other client && (bytes_eq name parent && (nat_eq column cell.column && nat_eq line cell.row))) ≡ false → child_in (with_named client child (with_attached None) rows) other name column line ≡ child_in rows other name column line
child_in-detach_other rows client child parent cell lower apart found attached other name column line differs =
    let is = IsNamed-row_named rows client child lower found in
    let old : stands_at other name column line lower ≡ false = rw (is.client_is, attached) differs in
    child_in-changed rows client child (with_attached None) lower apart found other name column line old (stands_at-alone other name column line (with_attached None lower) refl)
