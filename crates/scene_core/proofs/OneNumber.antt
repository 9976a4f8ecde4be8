-- One number for one key: numbers that are live have one key only where they are one, so the pointer holds a widget
-- exactly where it holds the widget's number.
use Rattle.std.proofs.Common.{◌≡◌, ℕ, Bool, true, false, List, refl, sym, ap, ◌∙◌}
use Rattle.std.specs.Prelude.{Option, Some, None, nat_eq}
use Rattle.std.specs.Option.{option_map, option_map_or}
use Rattle.std.specs.Cmp.Lexicographic.{nat_list_eq_equiv}
use Rattle.std.proofs.lemmas.Bool.{true≢false, eqb-true, eq-eqb, and_from}
use Rattle.widget_model.specs.Rows.{Row}
use Rattle.widget_model.specs.Keys.{key_of, same_key}
use Rattle.widget_model.specs.Widgets.{key_at, Widgets, row_at}
use Rattle.widget_model.specs.Pointer.{no_grab, on_widget}
use Rattle.widget_model.specs.Forest.{IsWidgets}
use Rattle.tree_core.proofs.Children.{own_number}
use Rattle.scene_model.specs.LookOf.{grabs}
use Rattle.scene_core.proofs.ChildNumbers.{grove_of}
use Rattle.scene_core.proofs.Finds.{same_key-true}

pub number_of-key : (widgets : Widgets) (a b : ℕ) (x y : Row) → IsWidgets widgets → row_at widgets.entries a ≡ Some x → row_at widgets.entries b ≡ Some y → key_of x ≡ key_of y → a ≡ b
number_of-key widgets a b x y valid at_a at_b same = own_number widgets.entries a b x y (grove_of widgets valid) at_a at_b (ap (λ (key : ℕ × List ℕ). key.0) same) (ap (λ (key : ℕ × List ℕ). key.1) same)

same_key-own : (key : ℕ × List ℕ) → same_key key key ≡ true
same_key-own key = and_from _ _ (eq-eqb key.0 key.0 refl) (nat_list_eq_equiv.refl key.1)

-- two rows have one key exactly where they have one number
pub same_keys : (widgets : Widgets) (id other : ℕ) (row r : Row) → IsWidgets widgets → row_at widgets.entries id ≡ Some row → row_at widgets.entries other ≡ Some r → same_key (key_of row) (key_of r) ≡ nat_eq other id
same_keys widgets id other row r valid there at = by (same_key (key_of row) (key_of r)) refl (nat_eq other id) refl
  where
    by : (a : Bool) → same_key (key_of row) (key_of r) ≡ a → (b : Bool) → nat_eq other id ≡ b → a ≡ b
    by true e true f = refl
    by true e false f = absurd (true≢false (sym (eq-eqb other id (sym (number_of-key widgets id other row r valid there at (same_key-true (key_of row) (key_of r) e)))) ∙ f))
    by false e true f =
        let rows : Some row ≡ Some r = sym there ∙ ap (row_at widgets.entries) (sym (eqb-true other id f)) ∙ at in
        let same : row ≡ r = cc in
        absurd (true≢false (sym (same_key-own (key_of row)) ∙ ap (λ (q : Row). same_key (key_of row) (key_of q)) same ∙ e))
    by false e false f = refl

-- a number has the key of the row exactly where it is the row's
pub same_number : (widgets : Widgets) (id other : ℕ) (row : Row) → IsWidgets widgets → row_at widgets.entries id ≡ Some row → option_map_or (same_key (key_of row)) (key_at widgets.entries other) false ≡ nat_eq other id
same_number widgets id other row valid there = by (row_at widgets.entries other) refl (nat_eq other id) refl
  where
    by : (o : Option Row) → row_at widgets.entries other ≡ o → (b : Bool) → nat_eq other id ≡ b → option_map_or (same_key (key_of row)) (option_map key_of o) false ≡ b
    by None at true e = absurd (let same = eqb-true other id e in let none : row_at widgets.entries id ≡ None = ap (row_at widgets.entries) (sym same) ∙ at in cc)
    by None at false e = refl
    by (Some r) at b e = same_keys widgets id other row r valid there at ∙ e

pub grabs-widget : (o : Option (ℕ × List ℕ)) (key : ℕ × List ℕ) → grabs (option_map_or on_widget o no_grab) key ≡ option_map_or (same_key key) o false
grabs-widget None key = refl
grabs-widget (Some other) key = refl
