-- Changes of rows that move nothing, and what then holds of the kept places.
use Rattle.std.proofs.Common.{◌≡◌, ◌⊎◌, ◌↔◌, ℕ, ℤ, pos, negsuc, zero, suc, Bool, false, IsTrue, cond, List, map, slice_get, Option, Some, None, refl, sym, ap, ap₂, ◌∙◌, subst, inl, inr}
use Rattle.std.proofs.lemmas.Bool.{true≢false, cases_eq}
use Rattle.std.specs.Option.{option_map, option_map_or, option_and_then}
use Rattle.kind_core.specs.declared.shapes.Cell.{Cell}
use Rattle.geom_core.specs.declared.rectangle.Rect.{Rect}
use Rattle.widget_model.specs.Rows.{Row}
use Rattle.widget_model.specs.Named.{has_name, row_named, is_kind_of}
use Rattle.widget_model.specs.Keys.{key_of, row_of}
use Rattle.widget_model.specs.Kinds.{is_window_kind}
use Rattle.widget_model.specs.Trees.{parent_of, root_in, root_of, most_levels}
use Rattle.widget_model.specs.Widgets.{Widgets, rows_of, row_at, place_at}
use Rattle.widget_model.specs.Forest.{IsWidgets}
use Rattle.widget_model.proofs.Hanging.{LeavesNames, row_named-map, find-element}
use Rattle.tree_core.proofs.Listed.{row_named-row}
use Rattle.scene_model.specs.DuePlaces.{due_place}
use Rattle.scene_model.specs.Still.{MovesNothing}
use Rattle.scene_model.proofs.Still.{still_places}
use Rattle.scene_model.proofs.Parents.{key_of-found}
use Rattle.desk_layout.specs.Placed.{HaveDuePlaces}
use Rattle.desk_layout.specs.Numbers.{KeepsNumbers}
use Rattle.desk_model.specs.InPlace.{due_of}
use Rattle.desk_moves.specs.Stays.{MoveNothing}
use Rattle.desk_layout.proofs.KeyNumbers.{number-named}

-- the same rows
pub unmoved-same : (rows : List Row) → MoveNothing rows rows
unmoved-same rows = record { each = λ key row there. sym (ap (option_and_then (due_place rows)) there) }

-- Places are the same or not.
int_cases : (a b : ℤ) → (a ≡ b) ⊎ (a ≡ b → ⊥)
int_cases (pos a) (pos b) = elim (cases_eq a b) [ inl e ↦ inl (ap pos e) | inr n ↦ inr (λ h. n (let same : a ≡ b = cc in same)) ]
int_cases (pos a) (negsuc b) = inr (λ h. absurd (cc))
int_cases (negsuc a) (pos b) = inr (λ h. absurd (cc))
int_cases (negsuc a) (negsuc b) = elim (cases_eq a b) [ inl e ↦ inl (ap negsuc e) | inr n ↦ inr (λ h. n (let same : a ≡ b = cc in same)) ]

-- what isn't otherwise is so
int_stable : (a b : ℤ) → ((a ≡ b → ⊥) → ⊥) → a ≡ b
int_stable a b not = elim (int_cases a b) [ inl e ↦ e | inr n ↦ absurd (not n) ]

nat_stable : (a b : ℕ) → ((a ≡ b → ⊥) → ⊥) → a ≡ b
nat_stable a b not = elim (cases_eq a b) [ inl e ↦ e | inr n ↦ absurd (not n) ]

rect_stable : (a b : Rect) → ((a ≡ b → ⊥) → ⊥) → a ≡ b
rect_stable a b not =
    let x = int_stable a.x b.x (λ n. not (λ e. n (ap (λ (r : Rect). r.x) e))) in
    let y = int_stable a.y b.y (λ n. not (λ e. n (ap (λ (r : Rect). r.y) e))) in
    let w = nat_stable a.w b.w (λ n. not (λ e. n (ap (λ (r : Rect). r.w) e))) in
    let h = nat_stable a.h b.h (λ n. not (λ e. n (ap (λ (r : Rect). r.h) e))) in
    ap₂ (λ (left up : ℤ). let r : Rect = record { x = left; y = up; w = a.w; h = a.h } in r) x y
    ∙ ap₂ (λ (across down : ℕ). let r : Rect = record { x = b.x; y = b.y; w = across; h = down } in r) w h

place_stable : (a b : Option Rect) → ((a ≡ b → ⊥) → ⊥) → a ≡ b
place_stable None None not = refl
place_stable None (Some b) not = absurd (not (λ h. absurd (cc)))
place_stable (Some a) None not = absurd (not (λ h. absurd (cc)))
place_stable (Some a) (Some b) not = ap Some (rect_stable a b (λ n. not (λ h. n (let same : a ≡ b = cc in same))))

-- rows of which it isn't told that they changed, they or something else
pub unmoved-untold : (old new : List Row) (Rest : Type 0) (changed : Bool) → (IsTrue changed ↔ ((new ≡ old) × Rest → ⊥)) → changed ≡ false → MoveNothing old new
unmoved-untold old new Rest changed tells is = record {
  each = λ key row there.
      place_stable (due_place new row) (due_of old key)
      (λ n. true≢false (sym (tells.1 (λ both. n (subst (λ (rows : List Row). due_place new row ≡ due_of rows key) both.0 (sym (ap (option_and_then (due_place new)) there))))) ∙ is));
}

-- rows that change as layout doesn't see
module _ (change : Row → Row) (rows : List Row) (still : MovesNothing change rows) where
  leaves : LeavesNames change
  leaves = record { client = still.client; name = still.name }

  parent_of-map : (client : ℕ) (name : List ℕ) → parent_of (map change rows) client name ≡ parent_of rows client name
  parent_of-map client name = ap (option_and_then (λ (row : Row). option_map (λ (attached : List ℕ × Cell). attached.0) row.attached)) (row_named-map rows change client name leaves) ∙ by (row_named rows client name)
    where
      by : (o : Option Row) → option_and_then (λ (row : Row). option_map (λ (attached : List ℕ × Cell). attached.0) row.attached) (option_map change o) ≡ option_and_then (λ (row : Row). option_map (λ (attached : List ℕ × Cell). attached.0) row.attached) o
      by None = refl
      by (Some row) = ap (option_map (λ (attached : List ℕ × Cell). attached.0)) (still.attached row)

  root_in-map : (most client : ℕ) (name : List ℕ) → root_in most (map change rows) client name ≡ root_in most rows client name
  root_in-map zero client name = refl
  root_in-map (suc most) client name =
      ap (λ (o : Option (List ℕ)). option_map_or (root_in most (map change rows) client) o name) (parent_of-map client name)
      ∙ by (λ parent. root_in-map most client parent) (parent_of rows client name)
    where
      by : ((parent : List ℕ) → root_in most (map change rows) client parent ≡ root_in most rows client parent) → (o : Option (List ℕ)) → option_map_or (root_in most (map change rows) client) o name ≡ option_map_or (root_in most rows client) o name
      by rest None = refl
      by rest (Some parent) = rest parent

  kind-map : (o : Option Row) → is_kind_of is_window_kind (option_map change o) ≡ is_kind_of is_window_kind o
  kind-map None = refl
  kind-map (Some row) = ap is_window_kind (still.kind row)

  due-map : (row : Row) (i : ℕ) → slice_get rows i ≡ Some row → due_place (map change rows) (change row) ≡ due_place rows row
  unfolding due_place
  due-map row i there =
      let root : root_of (map change rows) (change row).client (change row).name ≡ root_of rows row.client row.name =
      ap₂ (root_of (map change rows)) (still.client row) (still.name row) ∙ root_in-map most_levels row.client row.name in
      let found : row_named (map change rows) (change row).client (root_of (map change rows) (change row).client (change row).name) ≡ option_map change (row_named rows row.client (root_of rows row.client row.name)) =
      ap₂ (row_named (map change rows)) (still.client row) root ∙ row_named-map rows change row.client (root_of rows row.client row.name) leaves in
      ap₂ (λ (b : Bool) (place : Rect). cond b (Some place) None)
      (ap (is_kind_of is_window_kind) found ∙ kind-map (row_named rows row.client (root_of rows row.client row.name)))
      (still_places change rows still i row there)

  pub unmoved-map : MoveNothing rows (map change rows)
  unmoved-map = record { each = λ key row there. by key row (row_of rows key) refl (sym (row_named-map rows change key.0 key.1 leaves) ∙ there) }
    where
      by : (key : ℕ × List ℕ) (row : Row) (o : Option Row) → row_of rows key ≡ o → option_map change (row_of rows key) ≡ Some row → due_place (map change rows) row ≡ due_of rows key
      by key row None p h =
          let both : None ≡ Some row = sym (ap (option_map change) p) ∙ h in
          absurd (cc)
      by key row (Some before) p h =
          let both : Some (change before) ≡ Some row = sym (ap (option_map change) p) ∙ h in
          let same : change before ≡ row = cc in
          let at = find-element (has_name key.0 key.1) rows before p in
          ap (due_place (map change rows)) (sym same) ∙ due-map before at.0 at.1 ∙ sym (ap (option_and_then (due_place rows)) p)

-- Where nothing is moved and numbers and places stay, the places are the ones that are due.
pub unmoved-due : (old new : Widgets) → IsWidgets old → IsWidgets new → HaveDuePlaces old → KeepsNumbers old.entries new.entries
    → ((id : ℕ) (row : Row) → row_at new.entries id ≡ Some row → place_at new id ≡ place_at old id) → MoveNothing (rows_of old) (rows_of new) → HaveDuePlaces new
unmoved-due old new valid sound due numbers places unmoved = record { each = λ id row there. places id row there ∙ was id row there (row_of (rows_of old) (key_of row)) refl ∙ sym (unmoved.each (key_of row) row (row_named-row new.entries id row sound.numbered.own_numbers sound.rows.names there)) }
  where
    was : (id : ℕ) (row : Row) → row_at new.entries id ≡ Some row → (o : Option Row) → row_of (rows_of old) (key_of row) ≡ o → place_at old id ≡ due_of (rows_of old) (key_of row)
    was id row there (Some before) p =
        let key : key_of before ≡ key_of row = key_of-found (rows_of old) (key_of row) before p in
        let named : row_named (rows_of old) before.client before.name ≡ Some before = ap (row_of (rows_of old)) key ∙ p in
        let number = number-named old before valid named in
        let same : number.0 ≡ id = numbers.numbers (key_of row) number.0 id (ap (option_map key_of) number.1 ∙ ap Some key) (ap (option_map key_of) there) in
        due.each id before (ap (row_at old.entries) (sym same) ∙ number.1) ∙ sym (ap (option_and_then (due_place (rows_of old))) p)
    was id row there None p = free (row_at old.entries id) refl ∙ sym (ap (option_and_then (due_place (rows_of old))) p)
      where
        free : (o : Option Row) → row_at old.entries id ≡ o → place_at old id ≡ None
        free None q = valid.placed.live id q
        free (Some other) q =
            let key : key_of other ≡ key_of row = numbers.keys id (key_of other) (key_of row) (ap (option_map key_of) q) (ap (option_map key_of) there) in
            let here : row_of (rows_of old) (key_of row) ≡ Some other = ap (row_of (rows_of old)) (sym key) ∙ row_named-row old.entries id other valid.numbered.own_numbers valid.rows.names q in
            let both : None ≡ Some other = sym p ∙ here in
            absurd (cc)
