-- A Frame that is linked to a Variable, and that there is none among the client's numbers.
use Rattle.std.proofs.Common.{◌≡◌, ◌<◌, ◌≤◌, ◌+◌, ◌-◌, ◌*◌, ◌/◌, ℕ, Bool, true, false, ◌&&◌, nat_eq, List, Option, Some, None, is_some, refl, sym, ap, ap₂, ◌∙◌, arith}
use Rattle.std.proofs.lemmas.Bool.{true≢false, eqb-true, eq-eqb, ne_eqb, and_parts, and_from}
use Rattle.std.proofs.lemmas.Slice.Eq.{bytes_eq-Decides}
use Rattle.std.specs.Cmp.{nat_eq_equiv}
use Rattle.std.specs.List.{list_any}
use Rattle.std.specs.Option.{option_map, option_map_or, option_and_then}
use Rattle.std.specs.Str.{bytes_eq}
use Rattle.kind_core.specs.declared.kinds.Kind.{Kind}
use Rattle.widget_model.specs.Rows.{Row}
use Rattle.widget_model.specs.Nodes.{id_named, is_number_of}
use Rattle.widget_model.specs.Widgets.{Widgets, nodes, rows_of, row_at}
use Rattle.widget_model.specs.Links.{linked_id}
use Rattle.widget_model.specs.Forest.{IsWidgets}
use Rattle.widget_model.proofs.Naming.{id_named-row, row_named-found, row_named-parts}
use Rattle.tree_core.proofs.Listed.{any_at, any_place, listed_number, numbered_place}
use Rattle.desk_layout.proofs.Layouts.{own-number, number-ends}
use Rattle.desk_moves.specs.Stays.{is_frame, is_frame_of}

-- whether the number names a Frame that is linked to the Variable
abbrev pub is_frame_at : List (ℕ × Row) → Row → ℕ → Bool
is_frame_at entries variable id = option_map_or (is_frame_of variable) (row_at entries id) false

-- what is read of a row that is there
pub read-there : {X : Type 0} (f : Row → X) (x : X) (o : Option Row) → is_some o ≡ true → ((row : Row) → o ≡ Some row → f row ≡ x) → option_map f o ≡ Some x
read-there f x None live each = absurd (true≢false (sym live))
read-there f x (Some row) live each = ap Some (each row refl)

pub read-of : {X : Type 0} (f : Row → X) (x : X) (o : Option Row) (row : Row) → option_map f o ≡ Some x → o ≡ Some row → f row ≡ x
read-of f x o row read there =
    let both : Some (f row) ≡ Some x = sym (ap (option_map f) there) ∙ read in
    cc

module _ (w : Widgets) (variable id : ℕ) (v r : Row) (valid : IsWidgets w) (there : row_at w.entries variable ≡ Some v) (here : row_at w.entries id ≡ Some r) where
  -- whether the name is the Variable's
  abbrev is_its : List ℕ → Bool
  is_its name = nat_eq v.client r.client && bytes_eq v.name name

  its-number : (name : List ℕ) → is_its name ≡ true → id_named (nodes w.entries) r.client name ≡ Some variable
  its-number name is =
      let parts = and_parts (nat_eq v.client r.client) (bytes_eq v.name name) is in
      ap₂ (id_named (nodes w.entries)) (sym (eqb-true v.client r.client parts.0)) (sym ((bytes_eq-Decides v.name name).0 parts.1)) ∙ id_named-row w.entries variable v valid.rows.names there

  its-name : (name : List ℕ) → id_named (nodes w.entries) r.client name ≡ Some variable → is_its name ≡ true
  its-name name number =
      let named = row_named-parts (rows_of w) r.client name v (row_named-found w.entries r.client name variable valid.numbered.own_numbers number ∙ there) in
      and_from (nat_eq v.client r.client) (bytes_eq v.name name) (eq-eqb v.client r.client named.0) ((bytes_eq-Decides v.name name).1 named.1)

  is_its-number : (name : List ℕ) → is_its name ≡ option_map_or (λ (other : ℕ). nat_eq other variable) (id_named (nodes w.entries) r.client name) false
  is_its-number name = by (is_its name) refl (id_named (nodes w.entries) r.client name) refl
    where
      by : (b : Bool) → is_its name ≡ b → (o : Option ℕ) → id_named (nodes w.entries) r.client name ≡ o → is_its name ≡ option_map_or (λ (other : ℕ). nat_eq other variable) o false
      by true q o p =
          let same : Some variable ≡ o = sym (its-number name q) ∙ p in
          q ∙ sym (nat_eq_equiv.refl variable) ∙ ap (λ (found : Option ℕ). option_map_or (λ (other : ℕ). nat_eq other variable) found false) same
      by false q None p = q
      by false q (Some n) p = q ∙ sym (ne_eqb n variable (λ e. true≢false (sym (its-name name (p ∙ ap Some e)) ∙ q)))

  none-linked : (b : Bool) → (b && false) ≡ false
  none-linked true = refl
  none-linked false = refl

  pub frame-linked : is_frame r.kind ≡ true → is_frame_of v r ≡ option_map_or (λ (other : ℕ). nat_eq other variable) (linked_id w id) false
  frame-linked frame =
      ap (λ (b : Bool). b && (nat_eq v.client r.client && option_map_or (bytes_eq v.name) r.link false)) frame
      ∙ by r.link
      ∙ sym (ap (λ (o : Option Row). option_map_or (λ (other : ℕ). nat_eq other variable) (option_and_then (λ (row : Row). option_and_then (id_named (nodes w.entries) row.client) row.link) o) false) here)
    where
      by : (o : Option (List ℕ)) → (nat_eq v.client r.client && option_map_or (bytes_eq v.name) o false) ≡ option_map_or (λ (other : ℕ). nat_eq other variable) (option_and_then (id_named (nodes w.entries) r.client) o) false
      by None = none-linked (nat_eq v.client r.client)
      by (Some name) = is_its-number name

pub frame-read : (w : Widgets) (variable id : ℕ) (kind : Kind) (o : Option ℕ) → IsWidgets w → is_some (row_at w.entries variable) ≡ true → option_map (λ (row : Row). row.kind) (row_at w.entries id) ≡ Some kind → is_frame kind ≡ true → o ≡ linked_id w id
    → option_map (λ (row : Row). is_frame_at w.entries row id) (row_at w.entries variable) ≡ Some (option_map_or (λ (other : ℕ). nat_eq other variable) o false)
frame-read w variable id kind o valid live is frame linked =
    read-there (λ (row : Row). is_frame_at w.entries row id) (option_map_or (λ (other : ℕ). nat_eq other variable) o false) (row_at w.entries variable) live (λ v there. by v there (row_at w.entries id) refl)
  where
    by : (v : Row) → row_at w.entries variable ≡ Some v → (p : Option Row) → row_at w.entries id ≡ p → is_frame_at w.entries v id ≡ option_map_or (λ (other : ℕ). nat_eq other variable) o false
    by v there None here =
        let none : None ≡ Some kind = sym (ap (option_map (λ (row : Row). row.kind)) here) ∙ is in
        absurd (cc)
    by v there (Some r) here =
        ap (λ (p : Option Row). option_map_or (is_frame_of v) p false) here
        ∙ frame-linked w variable id v r valid there here (ap is_frame (read-of (λ (row : Row). row.kind) kind (row_at w.entries id) r is here) ∙ frame)
        ∙ ap (λ (p : Option ℕ). option_map_or (λ (other : ℕ). nat_eq other variable) p false) (sym linked)

-- one that is found is among the rows
pub frame-found : (w : Widgets) (v : Row) (id : ℕ) → is_frame_at w.entries v id ≡ true → list_any (is_frame_of v) (rows_of w) ≡ true
frame-found w v id is = by (row_at w.entries id) refl is
  where
    by : (o : Option Row) → row_at w.entries id ≡ o → option_map_or (is_frame_of v) o false ≡ true → list_any (is_frame_of v) (rows_of w) ≡ true
    by None p h = absurd (true≢false (sym h))
    by (Some row) p h = let place = numbered_place w.entries id row p in any_at (is_frame_of v) (rows_of w) place.0 row place.1 h

-- The numbers of one client are 128 that follow one another.
pub beside : (first a b : ℕ) → 128 * first ≤ a → a < 128 * first + 128 → 128 * first ≤ b → b < 128 * first + 128 → (a / 128 * 128 ≤ b) × (b < a / 128 * 128 + 128)
beside first a b low high least most = (omega arith, omega arith)

-- where none of the client's numbers names one, there is none
pub frame-none : (w : Widgets) (v : Row) (variable : ℕ) → IsWidgets w → row_at w.entries variable ≡ Some v → ((k : ℕ) → k < 128 → is_frame_at w.entries v (variable / 128 * 128 + k) ≡ false) → list_any (is_frame_of v) (rows_of w) ≡ false
frame-none w v variable valid there none = by (list_any (is_frame_of v) (rows_of w)) refl
  where
    by : (b : Bool) → list_any (is_frame_of v) (rows_of w) ≡ b → b ≡ false
    by false q = refl
    by true q =
        let place = any_place (is_frame_of v) (rows_of w) q in
        let row = place.1 in
        let number = listed_number w.entries place.0 row valid.numbered.own_numbers place.2 in
        let linked = and_parts (is_frame row.kind) (nat_eq v.client row.client && option_map_or (bytes_eq v.name) row.link false) place.3 in
        let owner : v.client ≡ row.client = eqb-true v.client row.client (and_parts (nat_eq v.client row.client) (option_map_or (bytes_eq v.name) row.link false) linked.1).0 in
        let own = number-ends v.client variable (own-number w variable v valid there) in
        let other = number-ends v.client number.0 (ap (λ (c : ℕ). is_number_of c number.0) owner ∙ own-number w number.0 row valid number.1) in
        let near = beside (v.client - 1) variable number.0 own.0 own.1 other.0 other.1 in
        let at : number.0 ≡ variable / 128 * 128 + (number.0 - variable / 128 * 128) = omega (arith, near.0) in
        let is : is_frame_at w.entries v number.0 ≡ true = ap (λ (o : Option Row). option_map_or (is_frame_of v) o false) number.1 ∙ place.3 in
        absurd (true≢false (sym is ∙ ap (is_frame_at w.entries v) at ∙ none (number.0 - variable / 128 * 128) (omega (arith, near.0, near.1))))

-- what the search of the numbers answers
pub frames-found : (w : Widgets) (variable id : ℕ) → is_some (row_at w.entries variable) ≡ true → option_map (λ (row : Row). is_frame_at w.entries row id) (row_at w.entries variable) ≡ Some true → option_map (λ (row : Row). list_any (is_frame_of row) (rows_of w)) (row_at w.entries variable) ≡ Some true
frames-found w variable id live is =
    read-there (λ (row : Row). list_any (is_frame_of row) (rows_of w)) true (row_at w.entries variable) live
    (λ v there. frame-found w v id (read-of (λ (row : Row). is_frame_at w.entries row id) true (row_at w.entries variable) v is there))

pub frames-none : (w : Widgets) (variable : ℕ) → IsWidgets w → is_some (row_at w.entries variable) ≡ true → ((v : Row) → row_at w.entries variable ≡ Some v → (k : ℕ) → k < 128 → is_frame_at w.entries v (variable / 128 * 128 + k) ≡ false)
    → option_map (λ (row : Row). list_any (is_frame_of row) (rows_of w)) (row_at w.entries variable) ≡ Some false
frames-none w variable valid live none =
    read-there (λ (row : Row). list_any (is_frame_of row) (rows_of w)) false (row_at w.entries variable) live (λ v there. frame-none w v variable valid there (none v there))
