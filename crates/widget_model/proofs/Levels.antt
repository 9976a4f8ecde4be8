-- How far going up from a widget goes, after widgets were hung in others, taken out or left out; and how deep a tree is.
use Rattle.std.proofs.Common.{◌≡◌, ℕ, zero, suc, ◌+◌, ◌<◌, ◌≤◌, max, Bool, true, false, cond, ◌&&◌, nat_eq, List, [], ◌∷◌, ◌++◌, Option, Some, None, refl, sym, ap, ◌∙◌, arith, slice_get, ◌⊎◌, inl, inr}
use Rattle.std.proofs.lemmas.Bool.{true≢false, or_parts, cond-true}
use Rattle.std.proofs.lemmas.List.Folds.{find-append}
use Rattle.std.proofs.lemmas.Slice.Eq.{bytes_eq-Decides}
use Rattle.std.specs.Option.{option_map_or, option_map, option_or}
use Rattle.std.specs.Str.{bytes_eq}
use Rattle.kind_core.specs.declared.shapes.Cell.{Cell}
use Rattle.widget_model.specs.Rows.{Row}
use Rattle.widget_model.specs.Named.{has_name, row_named, with_named}
use Rattle.widget_model.specs.Trees.{parent_of, is_child, depth_in, height_in, is_above_in, greatest_child, ends_within, most_levels}
use Rattle.widget_model.proofs.Hanging.{find-passes, LeavesNames, changed, row_named-map, LeavesNames-changed, row_named-changed_other, parent_in, parent_in-loose, HangsIn-from, HangsIn-child}
use Rattle.widget_model.proofs.Cells.{hung_in, CanHang, attached_of_alone}

-- the greatest child is no less than each, and no greater than what bounds them all
pub greatest_child-each : (measure : List ℕ → ℕ) (client : ℕ) (name : List ℕ) (rows : List Row) (i : ℕ) (row : Row) → slice_get rows i ≡ Some row → is_child client name row ≡ true → measure row.name ≤ greatest_child measure client name rows
greatest_child-each measure client name [] i row there child = absurd (cc)
greatest_child-each measure client name (first ∷ rows) zero row there child =
    let same : row ≡ first = cc in
    let own : is_child client name first ≡ true = rw (← same) child in
    rw (own, same) (omega arith)
greatest_child-each measure client name (first ∷ rows) (suc i) row there child =
    let rest = greatest_child-each measure client name rows i row there child in
    omega arith

pub greatest_child-most : (measure : List ℕ → ℕ) (client : ℕ) (name : List ℕ) (rows : List Row) (most : ℕ) → ((i : ℕ) (row : Row) → slice_get rows i ≡ Some row → is_child client name row ≡ true → measure row.name ≤ most) → greatest_child measure client name rows ≤ most
greatest_child-most measure client name [] most each = omega arith
greatest_child-most measure client name (first ∷ rows) most each = by (greatest_child-most measure client name rows most (λ i row there child. each (suc i) row there child)) (is_child client name first) refl
  where
    by : greatest_child measure client name rows ≤ most → (b : Bool) → is_child client name first ≡ b → max (cond b (measure first.name) 0) (greatest_child measure client name rows) ≤ most
    by rest true child = let own : measure first.name ≤ most = each zero first refl child in omega arith
    by rest false child = omega arith

-- one step up
ends_within-top : (most : ℕ) (rows : List Row) (client : ℕ) (name : List ℕ) → parent_of rows client name ≡ None → ends_within (suc most) rows client name ≡ true
ends_within-top most rows client name alone = ap (λ (o : Option (List ℕ)). option_map_or (ends_within most rows client) o true) alone

ends_within-up : (most : ℕ) (rows : List Row) (client : ℕ) (name parent : List ℕ) → parent_of rows client name ≡ Some parent → ends_within (suc most) rows client name ≡ ends_within most rows client parent
ends_within-up most rows client name parent hung = ap (λ (o : Option (List ℕ)). option_map_or (ends_within most rows client) o true) hung

-- A way up that ends within some levels ends within more.
pub ends_within-more : (few most : ℕ) (rows : List Row) (client : ℕ) (name : List ℕ) → few ≤ most → ends_within few rows client name ≡ true → ends_within most rows client name ≡ true
ends_within-more zero most rows client name less h = absurd (true≢false (sym h))
ends_within-more (suc few) zero rows client name less h = absurd (omega arith)
ends_within-more (suc few) (suc most) rows client name less h = by (λ parent up. ends_within-more few most rows client parent (omega arith) up) (parent_of rows client name) h
  where
    by : ((parent : List ℕ) → ends_within few rows client parent ≡ true → ends_within most rows client parent ≡ true) → (o : Option (List ℕ)) → option_map_or (ends_within few rows client) o true ≡ true → option_map_or (ends_within most rows client) o true ≡ true
    by rest None h = refl
    by rest (Some parent) h = rest parent h

-- Nothing that is cut loose lengthens a way up, where only such changes were made along it.
pub ends_within-fewer : (rows others : List Row) (client : ℕ) (OnWay : List ℕ → Type 0) → ((name : List ℕ) → OnWay name → (parent_of others client name ≡ None) ⊎ (parent_of others client name ≡ parent_of rows client name)) → ((name parent : List ℕ) → OnWay name → parent_of rows client name ≡ Some parent → OnWay parent) → (most : ℕ) (name : List ℕ) → OnWay name → ends_within most rows client name ≡ true → ends_within most others client name ≡ true
ends_within-fewer rows others client OnWay fewer up zero name on h = h
ends_within-fewer rows others client OnWay fewer up (suc most) name on h = by (λ parent q e. ends_within-fewer rows others client OnWay fewer up most parent (up name parent on q) e) (parent_of rows client name) refl (fewer name on) h
  where
    by : ((parent : List ℕ) → parent_of rows client name ≡ Some parent → ends_within most rows client parent ≡ true → ends_within most others client parent ≡ true) → (o : Option (List ℕ)) → parent_of rows client name ≡ o → (parent_of others client name ≡ None) ⊎ (parent_of others client name ≡ parent_of rows client name) → ends_within (suc most) rows client name ≡ true → ends_within (suc most) others client name ≡ true
    by rest o is (inl loose) h = ends_within-top most others client name loose
    by rest None is (inr same) h = ends_within-top most others client name (same ∙ is)
    by rest (Some parent) is (inr same) h = ends_within-up most others client name parent (same ∙ is) ∙ rest parent is (sym (ends_within-up most rows client name parent is) ∙ h)

-- `upper` is so many steps above the named widget
abbrev pub Climbs : List Row → ℕ → ℕ → List ℕ → List ℕ → Type 0
Climbs rows client zero name upper = upper ≡ name
Climbs rows client (suc steps) name upper = (parent : List ℕ) × (parent_of rows client name ≡ Some parent) × Climbs rows client steps parent upper

-- the last step up
Climbs-last : (rows : List Row) (client steps : ℕ) (name upper : List ℕ) → Climbs rows client (suc steps) name upper → (lower : List ℕ) × (parent_of rows client lower ≡ Some upper) × Climbs rows client steps name lower
Climbs-last rows client zero name upper way = (name, way.1 ∙ ap Some (sym way.2), refl)
Climbs-last rows client (suc steps) name upper way =
    let last = Climbs-last rows client steps way.0 upper way.2 in
    (last.0, last.1, (way.0, way.1, last.2))

Climbs-short : (rows : List Row) (client most steps : ℕ) (name upper : List ℕ) → ends_within most rows client name ≡ true → Climbs rows client steps name upper → steps < most
Climbs-short rows client zero steps name upper h way = absurd (true≢false (sym h))
Climbs-short rows client (suc most) zero name upper h way = omega arith
Climbs-short rows client (suc most) (suc steps) name upper h way =
    let rest = Climbs-short rows client most steps way.0 upper (sym (ends_within-up most rows client name way.0 way.1) ∙ h) way.2 in
    omega arith

-- a widget has the height of each way that leads up to it
Climbs-height : (rows : List Row) (client most steps : ℕ) (name upper : List ℕ) → steps < most → Climbs rows client steps name upper → suc steps ≤ height_in most rows client upper
Climbs-height rows client zero steps name upper less way = absurd (omega arith)
Climbs-height rows client (suc most) zero name upper less way = omega arith
Climbs-height rows client (suc most) (suc steps) name upper less way =
    let last = Climbs-last rows client steps name upper way in
    let rest = Climbs-height rows client most steps name last.0 (omega arith) last.2 in
    let lower = HangsIn-from rows client last.0 upper last.1 in
    let each = greatest_child-each (height_in most rows client) client upper rows lower.i lower.row lower.there (HangsIn-child rows client last.0 upper lower) in
    let measured : height_in most rows client last.0 ≤ greatest_child (height_in most rows client) client upper rows = rw (← lower.named.name_is) each in
    omega arith

-- The child, which stood alone, was hung in the parent, and nothing else was changed.
pub record IsHung (rows others : List Row) (client : ℕ) (child parent : List ℕ) : Type 0 where
  pub alone : parent_of rows client child ≡ None
  pub hung : parent_of others client child ≡ Some parent
  pub same : (name : List ℕ) → bytes_eq child name ≡ false → parent_of others client name ≡ parent_of rows client name

-- A way up that doesn't meet the child is as it was.
Climbs-or_ends : (rows others : List Row) (client : ℕ) (child parent : List ℕ) → IsHung rows others client child parent → (most : ℕ) (name : List ℕ) → ends_within most rows client name ≡ true → ((steps : ℕ) × Climbs rows client steps name child) ⊎ (ends_within most others client name ≡ true)
Climbs-or_ends rows others client child parent is zero name h = inr h
Climbs-or_ends rows others client child parent is (suc most) name h = by (λ above e. Climbs-or_ends rows others client child parent is most above e) (bytes_eq child name) refl (parent_of rows client name) refl
  where
    further : (above : List ℕ) → parent_of rows client name ≡ Some above → parent_of others client name ≡ Some above → ((steps : ℕ) × Climbs rows client steps above child) ⊎ (ends_within most others client above ≡ true) → ((steps : ℕ) × Climbs rows client steps name child) ⊎ (ends_within (suc most) others client name ≡ true)
    further above old new (inl way) = inl (suc way.0, (above, old, way.1))
    further above old new (inr e) = inr (ends_within-up most others client name above new ∙ e)

    by : ((above : List ℕ) → ends_within most rows client above ≡ true → ((steps : ℕ) × Climbs rows client steps above child) ⊎ (ends_within most others client above ≡ true)) → (b : Bool) → bytes_eq child name ≡ b → (o : Option (List ℕ)) → parent_of rows client name ≡ o → ((steps : ℕ) × Climbs rows client steps name child) ⊎ (ends_within (suc most) others client name ≡ true)
    by rest true met o old = inl (zero, (bytes_eq-Decides child name).0 met)
    by rest false met None old = inr (ends_within-top most others client name (is.same name met ∙ old))
    by rest false met (Some above) old = further above old (is.same name met ∙ old) (rest above (sym (ends_within-up most rows client name above old) ∙ h))

-- One that meets it goes on from the parent.
Climbs-hung : (rows others : List Row) (client : ℕ) (child parent : List ℕ) → IsHung rows others client child parent → (deep most steps : ℕ) (name : List ℕ) → suc steps + deep ≤ most → Climbs rows client steps name child → ends_within deep others client parent ≡ true → ends_within most others client name ≡ true
Climbs-hung rows others client child parent is deep zero steps name less way h = absurd (omega arith)
Climbs-hung rows others client child parent is deep (suc most) zero name less way h =
    let new : parent_of others client name ≡ Some parent = rw (← way) is.hung in
    ends_within-up most others client name parent new ∙ ends_within-more deep most others client parent (omega arith) h
Climbs-hung rows others client child parent is deep (suc most) (suc steps) name less way h =
    by (bytes_eq child name) refl (Climbs-hung rows others client child parent is deep most steps way.0 (omega arith) way.2 h)
  where
    by : (b : Bool) → bytes_eq child name ≡ b → ends_within most others client way.0 ≡ true → ends_within (suc most) others client name ≡ true
    by true met rest =
        let here : child ≡ name = (bytes_eq-Decides child name).0 met in
        let alone : parent_of rows client name ≡ None = rw (← here) is.alone in
        absurd (cc (way.1, alone))
    by false met rest = ends_within-up most others client name way.0 (is.same name met ∙ way.1) ∙ rest

-- Where the child isn't above the parent, the parent is as deep as it was.
parent-depth : (rows others : List Row) (client : ℕ) (child parent : List ℕ) → IsHung rows others client child parent → (most deep : ℕ) (name : List ℕ) → depth_in most rows client name ≤ deep → is_above_in most rows client child name ≡ false → ends_within most rows client name ≡ true → ends_within deep others client name ≡ true
parent-depth rows others client child parent is zero deep name less free h = absurd (true≢false (sym h))
parent-depth rows others client child parent is (suc most) zero name less free h = absurd (omega arith)
parent-depth rows others client child parent is (suc most) (suc deep) name less free h =
    by (parent-depth rows others client child parent is most deep) (or_parts (bytes_eq child name) (option_map_or (is_above_in most rows client child) (parent_of rows client name) false) free) (parent_of rows client name) refl
  where
    by : ((above : List ℕ) → depth_in most rows client above ≤ deep → is_above_in most rows client child above ≡ false → ends_within most rows client above ≡ true → ends_within deep others client above ≡ true) → (bytes_eq child name ≡ false) × (option_map_or (is_above_in most rows client child) (parent_of rows client name) false ≡ false) → (o : Option (List ℕ)) → parent_of rows client name ≡ o → ends_within (suc deep) others client name ≡ true
    by rest parts None old = ends_within-top deep others client name (is.same name parts.0 ∙ old)
    by rest parts (Some above) old =
        let depth : depth_in (suc most) rows client name ≡ 1 + depth_in most rows client above = ap (λ (o : Option (List ℕ)). 1 + option_map_or (depth_in most rows client) o 0) old in
        let shallow : depth_in most rows client above ≤ deep = omega arith in
        let no_cycle : is_above_in most rows client child above ≡ false = sym (ap (λ (o : Option (List ℕ)). option_map_or (is_above_in most rows client child) o false) old) ∙ parts.1 in
        ends_within-up deep others client name above (is.same name parts.0 ∙ old) ∙ rest above shallow no_cycle (sym (ends_within-up most rows client name above old) ∙ h)

-- No way up is longer than allowed where the parent's depth and the child's height together aren't.
pub ends_within-hung : (rows others : List Row) (client : ℕ) (child parent : List ℕ) (most : ℕ) → IsHung rows others client child parent → ends_within most rows client parent ≡ true → is_above_in most rows client child parent ≡ false → depth_in most rows client parent + height_in most rows client child ≤ most → (name : List ℕ) → ends_within most rows client name ≡ true → ends_within most others client name ≡ true
ends_within-hung rows others client child parent most is low free short name h = by (Climbs-or_ends rows others client child parent is most name h)
  where
    by : ((steps : ℕ) × Climbs rows client steps name child) ⊎ (ends_within most others client name ≡ true) → ends_within most others client name ≡ true
    by (inr e) = e
    by (inl way) =
        let less = Climbs-short rows client most way.0 name child h way.1 in
        let high = Climbs-height rows client most way.0 name child less way.1 in
        let deep = depth_in most rows client parent in
        let parent_low = parent-depth rows others client child parent is most deep parent (omega arith) free low in
        Climbs-hung rows others client child parent is deep most way.0 name (omega arith) way.1 parent_low

-- a widget hung in another
pub IsHung-attach : (rows : List Row) (client : ℕ) (parent child : List ℕ) (cell : Cell) (upper lower : Row) → CanHang rows client parent child cell upper lower → IsHung rows (with_named client child (hung_in parent cell) rows) client child parent
IsHung-attach rows client parent child cell upper lower can =
    record {
      alone = ap parent_in can.lower_there ∙ parent_in-loose lower (attached_of_alone lower can.stands_alone);
      hung = ap parent_in new;
      same = λ name differs. ap parent_in (row_named-changed_other rows client child (hung_in parent cell) client name leaves (rw differs (none (nat_eq client client))));
    }
  where
    leaves : LeavesNames (hung_in parent cell)
    leaves = record { client = λ row. refl; name = λ row. refl }

    none : (b : Bool) → (b && false) ≡ false
    none true = refl
    none false = refl

    new : row_named (with_named client child (hung_in parent cell) rows) client child ≡ Some (hung_in parent cell lower)
    new =
        let own : has_name client child lower ≡ true = find-passes (has_name client child) rows lower can.lower_there in
        row_named-map rows (changed client child (hung_in parent cell)) client child (LeavesNames-changed client child (hung_in parent cell) leaves)
        ∙ ap (option_map (changed client child (hung_in parent cell))) can.lower_there
        ∙ ap Some (cond-true (has_name client child lower) (hung_in parent cell lower) lower own)

-- a tree has a level at least
pub some_levels : 1 ≤ most_levels
unfolding most_levels
some_levels = omega arith

pub ends_within-alone : (most : ℕ) (rows : List Row) (client : ℕ) (name : List ℕ) → 1 ≤ most → parent_of rows client name ≡ None → ends_within most rows client name ≡ true
ends_within-alone zero rows client name some alone = absurd (omega arith)
ends_within-alone (suc most) rows client name some alone = ends_within-top most rows client name alone

-- a new last row that stands alone
pub parent_of-push : (rows : List Row) (row : Row) (client : ℕ) (name : List ℕ) → row.attached ≡ None → (parent_of (rows ++ row ∷ []) client name ≡ None) ⊎ (parent_of (rows ++ row ∷ []) client name ≡ parent_of rows client name)
parent_of-push rows row client name loose = by (row_named rows client name) refl (has_name client name row) refl
  where
    whole : row_named (rows ++ row ∷ []) client name ≡ option_or (row_named rows client name) (cond (has_name client name row) (Some row) None)
    whole = find-append (has_name client name) rows (row ∷ [])

    by : (o : Option Row) → row_named rows client name ≡ o → (b : Bool) → has_name client name row ≡ b → (parent_of (rows ++ row ∷ []) client name ≡ None) ⊎ (parent_of (rows ++ row ∷ []) client name ≡ parent_of rows client name)
    by (Some found) is b named =
        let same : row_named (rows ++ row ∷ []) client name ≡ row_named rows client name = whole ∙ rw is refl in
        inr (ap parent_in same)
    by None is true named =
        let last : row_named (rows ++ row ∷ []) client name ≡ Some row = whole ∙ rw (is, named) refl in
        inl (ap parent_in last ∙ parent_in-loose row loose)
    by None is false named =
        let absent : row_named (rows ++ row ∷ []) client name ≡ None = whole ∙ rw (is, named) refl in
        inl (ap parent_in absent)

pub parent_of-push_alone : (rows : List Row) (row : Row) (client : ℕ) (name : List ℕ) → row.attached ≡ None → row_named rows client name ≡ None → parent_of (rows ++ row ∷ []) client name ≡ None
parent_of-push_alone rows row client name loose absent = by (parent_of-push rows row client name loose)
  where
    by : (parent_of (rows ++ row ∷ []) client name ≡ None) ⊎ (parent_of (rows ++ row ∷ []) client name ≡ parent_of rows client name) → parent_of (rows ++ row ∷ []) client name ≡ None
    by (inl alone) = alone
    by (inr same) = same ∙ ap parent_in absent
