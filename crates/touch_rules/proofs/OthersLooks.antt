-- The look of another client's widget stays, so a client that leaves touches nothing.
use Rattle.std.proofs.Common.{◌≡◌, ℕ, Bool, true, false, ◌&&◌, not, nat_eq, List, Option, Some, None, ◌⊎◌, inl, inr, refl, sym, ap, ◌∙◌}
use Rattle.std.proofs.lemmas.Bool.{true≢false, eqb-true, eq-eqb}
use Rattle.std.specs.List.{list_all}
use Rattle.std.specs.Option.{option_map, option_map_or, option_and_then}
use Rattle.std.specs.Str.{bytes_eq}
use Rattle.kind_core.specs.declared.kinds.Attr.TheVariants.{Value}
use Rattle.widget_model.specs.Rows.{Row}
use Rattle.widget_model.specs.Keys.{key_of, same_key}
use Rattle.widget_model.specs.Named.{row_named, own_rows, rows_of_others}
use Rattle.widget_model.specs.Nodes.{Node, is_number_of}
use Rattle.widget_model.specs.Widgets.{nodes, row_at}
use Rattle.widget_model.specs.Pointer.{Grab, no_grab, on_widget, drags, Pointer}
use Rattle.widget_model.proofs.OwnRows.{row_named-agree}
use Rattle.tree_core.proofs.TreeKept.{nodes-all}
use Rattle.scene_model.specs.Scene.{Scene}
use Rattle.scene_model.specs.LookOf.{look_of, grabs}
use Rattle.scene_model.specs.Values.{number_of, linked_value}
use Rattle.desk_model.specs.OwnPart.{IsGrabOf, IsFocusOf, LeavesPointer}
use Rattle.desk_model.proofs.OthersRows.{filter-within}
use Rattle.touch_rules.specs.Touched.{Numbered}
use Rattle.touch_rules.specs.Laws.{IsNumbered, IsOwnEvent, LeavingTouchesNothing, StayingTouchesNothing}
use Rattle.touch_rules.proofs.SameLooks.{look_of-same, named-row, untouched}

-- two clients' keys are never the same
other_key : (client : ℕ) (key other : ℕ × List ℕ) → nat_eq client key.0 ≡ false → other.0 ≡ client → same_key key other ≡ false
other_key client key other differ own = by (nat_eq key.0 other.0) refl
  where
    by : (b : Bool) → nat_eq key.0 other.0 ≡ b → (b && bytes_eq key.1 other.1) ≡ false
    by false e = refl
    by true e = absurd (true≢false (sym (eq-eqb client key.0 (sym (eqb-true key.0 other.0 e ∙ own))) ∙ differ))

held-others : (client : ℕ) (old new : Pointer) (key : ℕ × List ℕ) → nat_eq client key.0 ≡ false → LeavesPointer client old new → grabs new.grab key ≡ grabs old.grab key
held-others client old new key differ leaves = by leaves.grab
  where
    none : (grab : Grab) → IsGrabOf client grab → false ≡ grabs grab key
    none no_grab own = refl
    none (on_widget widget) own = sym (other_key client key widget differ own)
    none (drags window dx dy) own = refl

    by : (new.grab ≡ old.grab) ⊎ (IsGrabOf client old.grab × (new.grab ≡ no_grab)) → grabs new.grab key ≡ grabs old.grab key
    by (inl same) = ap (λ (grab : Grab). grabs grab key) same
    by (inr left) = ap (λ (grab : Grab). grabs grab key) left.1 ∙ none old.grab left.0

focus-others : (client : ℕ) (old new : Pointer) (key : ℕ × List ℕ) → nat_eq client key.0 ≡ false → LeavesPointer client old new → option_map_or (same_key key) new.focus false ≡ option_map_or (same_key key) old.focus false
focus-others client old new key differ leaves = by leaves.focus
  where
    none : (focus : Option (ℕ × List ℕ)) → IsFocusOf client focus → false ≡ option_map_or (same_key key) focus false
    none None own = refl
    none (Some widget) own = sym (other_key client key widget differ own)

    by : (new.focus ≡ old.focus) ⊎ (IsFocusOf client old.focus × (new.focus ≡ None)) → option_map_or (same_key key) new.focus false ≡ option_map_or (same_key key) old.focus false
    by (inl same) = ap (λ (focus : Option (ℕ × List ℕ)). option_map_or (same_key key) focus false) same
    by (inr left) = ap (λ (focus : Option (ℕ × List ℕ)). option_map_or (same_key key) focus false) left.1 ∙ none old.focus left.0

-- another client's rows
own_rows-others : (client other : ℕ) (old new : List Row) → nat_eq client other ≡ false → rows_of_others client new ≡ rows_of_others client old → own_rows other new ≡ own_rows other old
own_rows-others client other old new differ same =
    let others : (x : ℕ) → nat_eq other x ≡ true → not (nat_eq client x) ≡ true = λ x e. rw (← eqb-true other x e, differ) refl in
    sym (filter-within (λ (row : Row). not (nat_eq client row.client)) (λ (row : Row). nat_eq other row.client) (λ row. others row.client) new)
    ∙ ap (own_rows other) same
    ∙ filter-within (λ (row : Row). not (nat_eq client row.client)) (λ (row : Row). nat_eq other row.client) (λ row. others row.client) old

linked-others : (old new : List Row) (row : Row) → own_rows row.client new ≡ own_rows row.client old → linked_value new row ≡ linked_value old row
unfolding linked_value
linked-others old new row same = ap (option_map (number_of Value)) (by row.link)
  where
    by : (o : Option (List ℕ)) → option_and_then (row_named new row.client) o ≡ option_and_then (row_named old row.client) o
    by None = refl
    by (Some name) = row_named-agree row.client name new old same

-- a number is one of its row's client
pub number-of-row : (es : List (ℕ × Row)) (id : ℕ) (row : Row) → list_all (λ (e : ℕ × Node). is_number_of e.1.client e.0) (nodes es) ≡ true → row_at es id ≡ Some row → is_number_of row.client id ≡ true
number-of-row es id row all there = nodes-all (λ (e : ℕ × Node). is_number_of e.1.client e.0) es id row all there

-- a number that is none of the client's is another's
others-row : (client id : ℕ) (numbered : Numbered) (row : Row) → IsNumbered numbered → is_number_of client id ≡ false → row_at numbered.widgets.entries id ≡ Some row → nat_eq client row.client ≡ false
others-row client id numbered row valid other there = by (nat_eq client row.client) refl
  where
    by : (b : Bool) → nat_eq client row.client ≡ b → b ≡ false
    by false e = refl
    by true e = absurd (true≢false (sym (number-of-row numbered.widgets.entries id row valid.widgets.numbered.numbers there) ∙ ap (λ (n : ℕ). is_number_of n id) (sym (eqb-true client row.client e)) ∙ other))

-- its look stays
look-others : (client id : ℕ) (before after : Numbered) (a b : Row) → IsNumbered before → IsNumbered after → IsOwnEvent client before after → is_number_of client id ≡ false → row_at before.widgets.entries id ≡ Some a → row_at after.widgets.entries id ≡ Some b → look_of after.scene b ≡ look_of before.scene a
look-others client id before after a b valid valid' event other at_a at_b =
    let differ : nat_eq client a.client ≡ false = others-row client id before a valid other at_a in
    let rows : own_rows a.client after.scene.rows ≡ own_rows a.client before.scene.rows = own_rows-others client a.client before.scene.rows after.scene.rows differ event.rows in
    let one : Some b ≡ Some a =
    sym (named-row after id b valid' at_b)
    ∙ ap (λ (key : ℕ × List ℕ). row_named after.scene.rows key.0 key.1) (sym (event.keys id a b at_a at_b))
    ∙ row_named-agree a.client a.name after.scene.rows before.scene.rows rows
    ∙ named-row before id a valid at_a in
    let same : b ≡ a = cc in
    look_of-same before.scene after.scene a b same
    (linked-others before.scene.rows after.scene.rows a rows)
    (held-others client before.scene.pointer after.scene.pointer (key_of a) differ event.pointer)
    (focus-others client before.scene.pointer after.scene.pointer (key_of a) differ event.pointer)

pub leaving_touches_nothing : LeavingTouchesNothing
leaving_touches_nothing client before after valid valid' event gone = record { each = λ id. sym (untouched before after id (same id)) }
  where
    same : (id : ℕ) (a b : Row) → row_at before.widgets.entries id ≡ Some a → row_at after.widgets.entries id ≡ Some b → look_of after.scene b ≡ look_of before.scene a
    same id a b at_a at_b = by (is_number_of client id) refl
      where
        by : (own : Bool) → is_number_of client id ≡ own → look_of after.scene b ≡ look_of before.scene a
        by true own = absurd (let none : row_at after.widgets.entries id ≡ None = gone id own in cc)
        by false other = look-others client id before after a b valid valid' event other at_a at_b

pub staying_touches_nothing : StayingTouchesNothing
staying_touches_nothing before after entries scene = record { each = λ id. sym (untouched before after id (same id)) }
  where
    same : (id : ℕ) (a b : Row) → row_at before.widgets.entries id ≡ Some a → row_at after.widgets.entries id ≡ Some b → look_of after.scene b ≡ look_of before.scene a
    same id a b at_a at_b =
        let one : Some b ≡ Some a = sym at_b ∙ ap (λ (es : List (ℕ × Row)). row_at es id) entries ∙ at_a in
        let row : b ≡ a = cc in
        ap (look_of after.scene) row ∙ ap (λ (s : Scene). look_of s a) scene
