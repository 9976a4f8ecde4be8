-- What changes of rows leave of how widgets hang in one another.
use Rattle.std.proofs.Common.{◌≡◌, ℕ, zero, suc, ◌+◌, Bool, true, false, cond, ◌&&◌, not, nat_eq, is_some, List, [], ◌∷◌, ◌++◌, map, Option, Some, None, refl, sym, ap, ◌∙◌, slice_get, ◌⊎◌, inl, inr}
use Rattle.std.proofs.lemmas.Bool.{eqb-true, ltb-false, or_parts, and_from}
use Rattle.std.proofs.lemmas.List.Folds.{find-append, list_all-append, list_all-map}
use Rattle.std.proofs.lemmas.Option.{some_pair_parts}
use Rattle.std.specs.List.{filter, list_any}
use Rattle.std.specs.Option.{option_map, option_map_or}
use Rattle.std.specs.Str.{bytes_eq}
use Rattle.kind_core.specs.declared.shapes.Cell.{Cell}
use Rattle.widget_model.specs.Rows.{Row, with_attached}
use Rattle.widget_model.specs.Named.{has_name, row_named, with_named, without_named, rows_of_others}
use Rattle.widget_model.specs.Trees.{hangs, parent_of, is_child, depth_of, height_of, ends_within, root_in, is_used, most_levels}
use Rattle.widget_model.specs.Planted.{hangs_right, IsPlanted}
use Rattle.widget_model.specs.Named.{AreNamedApart}
use Rattle.widget_model.proofs.Hanging.{find-element, all_at, all_from, none_at, all-filter, IsNamed-row_named, LeavesNames, changed, row_named-map, row_named-only, row_named-changed_other, row_named-filter, LeavesNames-changed, parent_in, parent_in-loose, parent_in-same, HangsIn-from, IsHungRight, hangs_right-at, hangs_right-from}
use Rattle.widget_model.proofs.Leaves.{LeavesNode, LeavesNode-changed}
use Rattle.widget_model.proofs.Levels.{ends_within-fewer, ends_within-hung, IsHung-attach, some_levels, ends_within-alone, parent_of-push, parent_of-push_alone}
use Rattle.widget_model.proofs.Cells.{Lessens, HaveOwnCells-map, HaveOwnCells-filter, HaveOwnCells-push, HaveOwnCells-attach, hung_in, CanHang}

pub IsPlanted-push : (rows : List Row) (row : Row) → row.attached ≡ None → row_named rows row.client row.name ≡ None → IsPlanted rows → IsPlanted (rows ++ row ∷ [])
IsPlanted-push rows row loose absent planted =
    record {
      hang = list_all-append (hangs_right (rows ++ row ∷ [])) rows (row ∷ []) ∙ and_from _ _ (all_from (hangs_right (rows ++ row ∷ [])) rows (λ i other there. hangs i other there)) (and_from _ _ last refl);
      own_cells = HaveOwnCells-push rows row loose planted.own_cells;
      low = list_all-append low_enough rows (row ∷ []) ∙ and_from _ _ (all_from low_enough rows (λ i other there. low i other there)) (and_from _ _ low_last refl);
    }
  where
    low_enough : Row → Bool
    low_enough other = ends_within most_levels (rows ++ row ∷ []) other.client other.name

    hangs : (i : ℕ) (other : Row) → slice_get rows i ≡ Some other → hangs_right (rows ++ row ∷ []) other ≡ true
    hangs i other there = hangs_right-from (rows ++ row ∷ []) other each
      where
        each : (name : List ℕ) (cell : Cell) → other.attached ≡ Some (name, cell) → IsHungRight (rows ++ row ∷ []) other name cell
        each name cell is =
            let right = hangs_right-at rows other name cell (all_at (hangs_right rows) rows i other planted.hang there) is in
            let found : row_named (rows ++ row ∷ []) other.client name ≡ Some right.upper = find-append (has_name other.client name) rows (row ∷ []) ∙ rw right.found refl in
            record { upper = right.upper; can_be_child = right.can_be_child; found = found; has_cell = right.has_cell }

    last : hangs_right (rows ++ row ∷ []) row ≡ true
    last = hangs_right-from (rows ++ row ∷ []) row (λ name cell is. absurd (cc (is, loose)))

    low : (i : ℕ) (other : Row) → slice_get rows i ≡ Some other → ends_within most_levels (rows ++ row ∷ []) other.client other.name ≡ true
    low i other there =
        ends_within-fewer rows (rows ++ row ∷ []) other.client (λ name. Unit {0}) (λ name on. parent_of-push rows row other.client name loose) (λ name parent on up. tt) most_levels other.name tt
        (all_at (λ (r : Row). ends_within most_levels rows r.client r.name) rows i other planted.low there)

    low_last : ends_within most_levels (rows ++ row ∷ []) row.client row.name ≡ true
    low_last = ends_within-alone most_levels (rows ++ row ∷ []) row.client row.name some_levels (parent_of-push_alone rows row row.client row.name loose absent)

-- a change that leaves rows as they are, or cuts them loose, made of each row
pub IsPlanted-map : (rows : List Row) (change : Row → Row) → Lessens change → IsPlanted rows → IsPlanted (map change rows)
IsPlanted-map rows change less planted =
    record {
      hang = list_all-map (hangs_right (map change rows)) change rows ∙ all_from (λ (row : Row). hangs_right (map change rows) (change row)) rows (λ i row there. hang i row there);
      own_cells = HaveOwnCells-map change rows less planted.own_cells;
      low = list_all-map (λ (row : Row). ends_within most_levels (map change rows) row.client row.name) change rows ∙ all_from (λ (row : Row). ends_within most_levels (map change rows) (change row).client (change row).name) rows (λ i row there. low i row there);
    }
  where
    leaves : LeavesNames change
    leaves = record { client = less.leaves.client; name = less.leaves.name }

    hang : (i : ℕ) (row : Row) → slice_get rows i ≡ Some row → hangs_right (map change rows) (change row) ≡ true
    hang i row there = hangs_right-from (map change rows) (change row) (λ name cell is. by name cell is (less.attached row))
      where
        by : (name : List ℕ) (cell : Cell) → (change row).attached ≡ Some (name, cell) → ((change row).attached ≡ None) ⊎ ((change row).attached ≡ row.attached) → IsHungRight (map change rows) (change row) name cell
        by name cell is (inl loose) = absurd (cc (is, loose))
        by name cell is (inr same) =
            let right = hangs_right-at rows row name cell (all_at (hangs_right rows) rows i row planted.hang there) (sym same ∙ is) in
            let found : row_named (map change rows) (change row).client name ≡ Some (change right.upper) = rw (less.leaves.client row) (row_named-map rows change row.client name leaves ∙ ap (option_map change) right.found) in
            record {
              upper = change right.upper;
              can_be_child = rw (less.leaves.kind row) right.can_be_child;
              found = found;
              has_cell = rw (less.leaves.kind right.upper) right.has_cell;
            }

    parents : (client : ℕ) (name : List ℕ) → (parent_of (map change rows) client name ≡ None) ⊎ (parent_of (map change rows) client name ≡ parent_of rows client name)
    parents client name = by (row_named rows client name) refl
      where
        inside : (row : Row) → row_named rows client name ≡ Some row → row_named (map change rows) client name ≡ Some (change row) → ((change row).attached ≡ None) ⊎ ((change row).attached ≡ row.attached) → (parent_of (map change rows) client name ≡ None) ⊎ (parent_of (map change rows) client name ≡ parent_of rows client name)
        inside row old new (inl loose) = inl (ap parent_in new ∙ parent_in-loose (change row) loose)
        inside row old new (inr same) = inr (ap parent_in new ∙ parent_in-same (change row) row same ∙ sym (ap parent_in old))

        by : (o : Option Row) → row_named rows client name ≡ o → (parent_of (map change rows) client name ≡ None) ⊎ (parent_of (map change rows) client name ≡ parent_of rows client name)
        by None old = inl (ap parent_in (row_named-map rows change client name leaves ∙ ap (option_map change) old))
        by (Some row) old = inside row old (row_named-map rows change client name leaves ∙ ap (option_map change) old) (less.attached row)

    low : (i : ℕ) (row : Row) → slice_get rows i ≡ Some row → ends_within most_levels (map change rows) (change row).client (change row).name ≡ true
    low i row there =
        rw (less.leaves.client row, less.leaves.name row)
        (ends_within-fewer rows (map change rows) row.client (λ name. Unit {0}) (λ name on. parents row.client name) (λ name parent on up. tt) most_levels row.name tt
        (all_at (λ (r : Row). ends_within most_levels rows r.client r.name) rows i row planted.low there))

Lessens-changed : (client : ℕ) (name : List ℕ) (change : Row → Row) → Lessens change → Lessens (changed client name change)
Lessens-changed client name change less =
    record { leaves = LeavesNode-changed client name change less.leaves; attached = λ row. by row (has_name client name row) }
  where
    by : (row : Row) (b : Bool) → ((cond b (change row) row).attached ≡ None) ⊎ ((cond b (change row) row).attached ≡ row.attached)
    by row true = less.attached row
    by row false = inr refl

-- a change that leaves these is no change of how widgets hang
pub record LeavesPlace (change : Row → Row) : Type 0 where
  pub leaves : LeavesNode change
  pub attached : (row : Row) → (change row).attached ≡ row.attached

pub IsPlanted-change : (rows : List Row) (client : ℕ) (name : List ℕ) (change : Row → Row) → LeavesPlace change → IsPlanted rows → IsPlanted (with_named client name change rows)
IsPlanted-change rows client name change leaves planted =
    let less : Lessens change = record { leaves = leaves.leaves; attached = λ row. inr (leaves.attached row) } in
    IsPlanted-map rows (changed client name change) (Lessens-changed client name change less) planted

pub IsPlanted-detach : (rows : List Row) (client : ℕ) (child : List ℕ) → IsPlanted rows → IsPlanted (with_named client child (with_attached None) rows)
IsPlanted-detach rows client child planted =
    let less : Lessens (with_attached None) = record { leaves = record { client = λ row. refl; name = λ row. refl; kind = λ row. refl }; attached = λ row. inl refl } in
    IsPlanted-map rows (changed client child (with_attached None)) (Lessens-changed client child (with_attached None) less) planted

-- rows left out by their names, where the parent of each row that is kept is kept
IsPlanted-filter : (test : ℕ → List ℕ → Bool) (rows : List Row) → ((i : ℕ) (row : Row) (name : List ℕ) (cell : Cell) → slice_get rows i ≡ Some row → test row.client row.name ≡ true → row.attached ≡ Some (name, cell) → test row.client name ≡ true) → IsPlanted rows → IsPlanted (filter (λ (row : Row). test row.client row.name) rows)
IsPlanted-filter test rows closed planted =
    record {
      hang = all-filter (hangs_right (filter keeps rows)) keeps rows (λ i row there kept. hang i row there kept);
      own_cells = HaveOwnCells-filter keeps rows planted.own_cells;
      low = all-filter (λ (row : Row). ends_within most_levels (filter keeps rows) row.client row.name) keeps rows (λ i row there kept. low i row there kept);
    }
  where
    keeps : Row → Bool
    keeps row = test row.client row.name

    hang : (i : ℕ) (row : Row) → slice_get rows i ≡ Some row → keeps row ≡ true → hangs_right (filter keeps rows) row ≡ true
    hang i row there kept = hangs_right-from (filter keeps rows) row each
      where
        each : (name : List ℕ) (cell : Cell) → row.attached ≡ Some (name, cell) → IsHungRight (filter keeps rows) row name cell
        each name cell is =
            let right = hangs_right-at rows row name cell (all_at (hangs_right rows) rows i row planted.hang there) is in
            let found : row_named (filter keeps rows) row.client name ≡ Some right.upper = row_named-filter test rows row.client name (closed i row name cell there kept is) ∙ right.found in
            record { upper = right.upper; can_be_child = right.can_be_child; found = found; has_cell = right.has_cell }

    goes_on : (client : ℕ) (name parent : List ℕ) → test client name ≡ true → parent_of rows client name ≡ Some parent → test client parent ≡ true
    goes_on client name parent kept up =
        let lower = HangsIn-from rows client name parent up in
        let kept_row : test lower.row.client lower.row.name ≡ true = rw (lower.named.client_is, lower.named.name_is) kept in
        rw (← lower.named.client_is) (closed lower.i lower.row parent lower.cell lower.there kept_row lower.attached)

    low : (i : ℕ) (row : Row) → slice_get rows i ≡ Some row → keeps row ≡ true → ends_within most_levels (filter keeps rows) row.client row.name ≡ true
    low i row there kept =
        ends_within-fewer rows (filter keeps rows) row.client (λ name. test row.client name ≡ true) (λ name on. inr (ap parent_in (row_named-filter test rows row.client name on))) (λ name parent on up. goes_on row.client name parent on up) most_levels row.name kept
        (all_at (λ (r : Row). ends_within most_levels rows r.client r.name) rows i row planted.low there)

pub IsPlanted-remove : (rows : List Row) (client : ℕ) (name : List ℕ) (row : Row) → row_named rows client name ≡ Some row → is_used rows row ≡ false → IsPlanted rows → IsPlanted (without_named client name rows)
IsPlanted-remove rows client name row found unused planted =
    IsPlanted-filter (λ owner other. not (nat_eq client owner && bytes_eq name other)) rows (λ i other parent cell there kept attached. closed i other parent cell there attached) planted
  where
    no_children : list_any (is_child row.client row.name) rows ≡ false
    no_children = (or_parts (list_any (is_child row.client row.name) rows) _ (or_parts (hangs row) _ unused).1).0

    closed : (i : ℕ) (other : Row) (parent : List ℕ) (cell : Cell) → slice_get rows i ≡ Some other → other.attached ≡ Some (parent, cell) → not (nat_eq client other.client && bytes_eq name parent) ≡ true
    closed i other parent cell there attached =
        let is = IsNamed-row_named rows client name row found in
        let childless : is_child row.client row.name other ≡ false = none_at (is_child row.client row.name) rows i other no_children there in
        let below : is_child row.client row.name other ≡ (nat_eq row.client other.client && bytes_eq row.name parent) = ap (λ (o : Option (List ℕ × Cell)). nat_eq row.client other.client && option_map_or (λ (s : List ℕ × Cell). bytes_eq row.name s.0) o false) attached in
        rw (← is.client_is, ← is.name_is) (ap not (sym below ∙ childless))

pub IsPlanted-others : (rows : List Row) (client : ℕ) → IsPlanted rows → IsPlanted (rows_of_others client rows)
IsPlanted-others rows client planted = IsPlanted-filter (λ owner name. not (nat_eq client owner)) rows (λ i row name cell there kept attached. kept) planted

pub IsPlanted-attach : (rows : List Row) (client : ℕ) (parent child : List ℕ) (cell : Cell) (upper lower : Row) → AreNamedApart rows → CanHang rows client parent child cell upper lower → IsPlanted rows → IsPlanted (with_named client child (with_attached (Some (parent, cell))) rows)
IsPlanted-attach rows client parent child cell upper lower apart can planted =
    record {
      hang = list_all-map (hangs_right others) hang_it rows ∙ all_from (λ (row : Row). hangs_right others (hang_it row)) rows (λ i row there. hang i row there);
      own_cells = HaveOwnCells-attach rows client parent child cell apart can.cell_free planted.own_cells;
      low = list_all-map (λ (row : Row). ends_within most_levels others row.client row.name) hang_it rows ∙ all_from (λ (row : Row). ends_within most_levels others (hang_it row).client (hang_it row).name) rows (λ i row there. low i row there);
    }
  where
    hang_it : Row → Row
    hang_it = changed client child (hung_in parent cell)

    others : List Row
    others = with_named client child (hung_in parent cell) rows

    leaves_one : LeavesNames (hung_in parent cell)
    leaves_one = record { client = λ row. refl; name = λ row. refl }

    leaves : LeavesNames hang_it
    leaves = LeavesNames-changed client child (hung_in parent cell) leaves_one

    kind : (row : Row) → (hang_it row).kind ≡ row.kind
    kind row = by (has_name client child row)
      where
        by : (b : Bool) → (cond b (hung_in parent cell row) row).kind ≡ row.kind
        by true = refl
        by false = refl

    -- a row that was found before is found, with the kind that it had
    found_still : (owner : ℕ) (name : List ℕ) (row : Row) → row_named rows owner name ≡ Some row → row_named others owner name ≡ Some (hang_it row)
    found_still owner name row found = row_named-map rows hang_it owner name leaves ∙ ap (option_map hang_it) found

    right_old : (i : ℕ) (row : Row) → slice_get rows i ≡ Some row → (name : List ℕ) (attached : Cell) → row.attached ≡ Some (name, attached) → IsHungRight others row name attached
    right_old i row there name attached is =
        let right = hangs_right-at rows row name attached (all_at (hangs_right rows) rows i row planted.hang there) is in
        let found = found_still row.client name right.upper right.found in
        record { upper = hang_it right.upper; can_be_child = right.can_be_child; found = found; has_cell = rw (kind right.upper) right.has_cell }

    right_new : (row : Row) → row ≡ lower → (name : List ℕ) (attached : Cell) → (hung_in parent cell row).attached ≡ Some (name, attached) → IsHungRight others (hung_in parent cell row) name attached
    right_new row same name attached where_is =
        let is = IsNamed-row_named rows client child lower can.lower_there in
        let place : (parent ≡ name) × (cell ≡ attached) = some_pair_parts parent name cell attached where_is in
        let found : row_named others row.client name ≡ Some (hang_it upper) = rw (same, is.client_is, ← place.0) (found_still client parent upper can.upper_there) in
        record { upper = hang_it upper; can_be_child = rw same can.can_be_child; found = found; has_cell = rw (kind upper, ← place.1) can.has_cell }

    hang : (i : ℕ) (row : Row) → slice_get rows i ≡ Some row → hangs_right others (hang_it row) ≡ true
    hang i row there = by (has_name client child row) refl
      where
        by : (b : Bool) → has_name client child row ≡ b → hangs_right others (cond b (hung_in parent cell row) row) ≡ true
        by true named = hangs_right-from others (hung_in parent cell row) (right_new row (row_named-only rows i row lower client child apart can.lower_there there named))
        by false named = hangs_right-from others row (right_old i row there)

    was_low : (i : ℕ) (row : Row) → slice_get rows i ≡ Some row → ends_within most_levels rows row.client row.name ≡ true
    was_low i row there = all_at (λ (r : Row). ends_within most_levels rows r.client r.name) rows i row planted.low there

    upper_low : ends_within most_levels rows client parent ≡ true
    upper_low =
        let place = find-element (has_name client parent) rows upper can.upper_there in
        let is = IsNamed-row_named rows client parent upper can.upper_there in
        rw (← is.client_is, ← is.name_is) (was_low place.0 upper place.1)

    low : (i : ℕ) (row : Row) → slice_get rows i ≡ Some row → ends_within most_levels others (hang_it row).client (hang_it row).name ≡ true
    low i row there = rw (leaves.client row, leaves.name row) (by (nat_eq client row.client) refl)
      where
        by : (b : Bool) → nat_eq client row.client ≡ b → ends_within most_levels others row.client row.name ≡ true
        by true own =
            let same : client ≡ row.client = eqb-true client row.client own in
            let was : ends_within most_levels rows client row.name ≡ true = rw same (was_low i row there) in
            rw (← same) (ends_within-hung rows others client child parent most_levels (IsHung-attach rows client parent child cell upper lower can) upper_low can.no_cycle (ltb-false most_levels (depth_of rows client parent + height_of rows client child) can.not_deep) row.name was)
        by false own =
            ends_within-fewer rows others row.client (λ name. Unit {0}) (λ name on. inr (ap parent_in (row_named-changed_other rows client child (hung_in parent cell) row.client name leaves_one (rw own refl)))) (λ name parent on up. tt) most_levels row.name tt (was_low i row there)

-- a parent is a widget
pub row_named-parent : (rows : List Row) (client : ℕ) (name parent : List ℕ) → IsPlanted rows → parent_of rows client name ≡ Some parent → is_some (row_named rows client parent) ≡ true
row_named-parent rows client name parent planted up =
    let lower = HangsIn-from rows client name parent up in
    let right = hangs_right-at rows lower.row parent lower.cell (all_at (hangs_right rows) rows lower.i lower.row planted.hang lower.there) lower.attached in
    ap (λ (owner : ℕ). is_some (row_named rows owner parent)) (sym lower.named.client_is) ∙ ap is_some right.found

-- so is the root of a widget
pub row_named-root : (most : ℕ) (rows : List Row) (client : ℕ) (name : List ℕ) → IsPlanted rows → is_some (row_named rows client name) ≡ true → is_some (row_named rows client (root_in most rows client name)) ≡ true
row_named-root zero rows client name planted found = found
row_named-root (suc most) rows client name planted found = by (λ parent h. row_named-root most rows client parent planted h) (parent_of rows client name) refl
  where
    by : ((parent : List ℕ) → is_some (row_named rows client parent) ≡ true → is_some (row_named rows client (root_in most rows client parent)) ≡ true) → (o : Option (List ℕ)) → parent_of rows client name ≡ o → is_some (row_named rows client (option_map_or (root_in most rows client) o name)) ≡ true
    by rest None up = found
    by rest (Some parent) up = rest parent (row_named-parent rows client name parent planted up)
