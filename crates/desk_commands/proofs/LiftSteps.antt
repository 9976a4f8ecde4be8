-- The steps of taking a widget out of its parent, and of removing it.
use Rattle.std.proofs.Common.{◌≡◌, ℕ, Bool, true, false, not, List, [], ◌∷◌, Option, Some, None, refl, sym, ap, ◌∙◌}
use Rattle.std.proofs.lemmas.Bool.{true≢false}
use Rattle.std.proofs.lemmas.Slice.Eq.{bytes_eq-Decides}
use Rattle.std.specs.Option.{option_map, option_map_or, option_and_then}
use Rattle.std.specs.Str.{bytes_eq}
use Rattle.kind_core.specs.declared.kinds.Kind.{Kind}
use Rattle.kind_core.specs.declared.shapes.Cell.{Cell}
use Rattle.cmd_words.specs.declared.replies.Refusal.TheVariants.{NotHere}
use Rattle.widget_model.specs.Rows.{Row, with_attached}
use Rattle.widget_model.specs.Nodes.{id_named}
use Rattle.widget_model.specs.Named.{row_named}
use Rattle.widget_model.specs.Relatives.{parent_id}
use Rattle.widget_model.specs.Widgets.{Widgets, nodes, rows_of, row_at}
use Rattle.widget_model.specs.Forest.{IsWidgets}
use Rattle.desk_model.specs.Desk.{Desk}
use Rattle.desk_model.specs.Refusals.{when, first_refusal, outcome, unless_there}
use Rattle.desk_model.specs.Placement.{lift_effect, step_lift}
use Rattle.widget_model.proofs.Naming.{row_named-found, row_named-parts}
use Rattle.desk_commands.specs.Lookup.{IsFound}
use Rattle.desk_commands.proofs.Effects.{found-parts}

pub step_lift-by : (desk : Desk) (client : ℕ) (parent child : List ℕ) (upper lower : Option Row) → row_named desk.rows client parent ≡ upper → row_named desk.rows client child ≡ lower → step_lift desk client parent child ≡ outcome desk (first_refusal (unless_there upper ∷ unless_there lower ∷ when (not (option_map_or (bytes_eq parent) (option_and_then (λ row. option_map (λ attached. attached.0) row.attached) lower) false)) NotHere ∷ [])) (lift_effect desk client child)
unfolding step_lift
step_lift-by desk client parent child upper lower h k = rw (h, k) refl

abbrev parent_name : Row → Option (List ℕ)
parent_name row = option_map (λ attached. attached.0) row.attached

row_parent : (w : Widgets) (key : ℕ) (row : Row) → row_at w.entries key ≡ Some row → parent_id w key ≡ option_and_then (id_named (nodes w.entries) row.client) (parent_name row)
row_parent w key row there = rw there (by row.attached)
  where
    by : (o : Option (List ℕ × Cell)) → option_and_then (λ (attached : List ℕ × Cell). id_named (nodes w.entries) row.client attached.0) o ≡ option_and_then (id_named (nodes w.entries) row.client) (option_map (λ (attached : List ℕ × Cell). attached.0) o)
    by None = refl
    by (Some attached) = refl

parent_was : (w : Widgets) (client : ℕ) (parent child : List ℕ) (key key' : ℕ) (kind kind' : Kind) → IsFound w client parent key kind → (lower : IsFound w client child key' kind') → parent_name lower.row ≡ Some parent → parent_id w key' ≡ Some key
parent_was w client parent child key key' kind kind' upper lower name =
    row_parent w key' lower.row lower.there ∙ ap (option_and_then (id_named (nodes w.entries) lower.row.client)) name ∙ ap (λ (c : ℕ). id_named (nodes w.entries) c parent) (found-parts w client child key' kind' lower).0 ∙ upper.id

parent_is : (w : Widgets) (client : ℕ) (parent child : List ℕ) (key key' : ℕ) (kind kind' : Kind) → IsWidgets w → IsFound w client parent key kind → (lower : IsFound w client child key' kind') → parent_id w key' ≡ Some key → parent_name lower.row ≡ Some parent
parent_is w client parent child key key' kind kind' kept upper lower is = by (parent_name lower.row) (sym (row_parent w key' lower.row lower.there) ∙ is)
  where
    by : (o : Option (List ℕ)) → option_and_then (id_named (nodes w.entries) lower.row.client) o ≡ Some key → o ≡ Some parent
    by None h = absurd (cc)
    by (Some u) h =
        let there = row_named-found w.entries lower.row.client u key kept.numbered.own_numbers h ∙ upper.there in
        let name_is : upper.row.name ≡ u = (row_named-parts (rows_of w) lower.row.client u upper.row there).1 in
        ap Some (sym name_is ∙ (found-parts w client parent key kind upper).1)

-- the child hangs in the parent where its parent has that number
pub hangs_here : (w : Widgets) (client : ℕ) (parent child : List ℕ) (key key' : ℕ) (kind kind' : Kind) → IsWidgets w → IsFound w client parent key kind → (lower : IsFound w client child key' kind') → parent_id w key' ≡ Some key → option_map_or (bytes_eq parent) (parent_name lower.row) false ≡ true
hangs_here w client parent child key key' kind kind' kept upper lower is =
    let name = parent_is w client parent child key key' kind kind' kept upper lower is in
    ap (λ (o : Option (List ℕ)). option_map_or (bytes_eq parent) o false) name ∙ (bytes_eq-Decides parent parent).1 refl

pub hangs_elsewhere : (w : Widgets) (client : ℕ) (parent child : List ℕ) (key key' : ℕ) (kind kind' : Kind) → IsFound w client parent key kind → (lower : IsFound w client child key' kind') → (parent_id w key' ≡ Some key → ⊥) → option_map_or (bytes_eq parent) (parent_name lower.row) false ≡ false
hangs_elsewhere w client parent child key key' kind kind' upper lower other = by (parent_name lower.row) refl
  where
    same : (u : List ℕ) → parent_name lower.row ≡ Some u → (b : Bool) → bytes_eq parent u ≡ b → b ≡ false
    same u p true q = absurd (other (parent_was w client parent child key key' kind kind' upper lower (p ∙ ap Some (sym ((bytes_eq-Decides parent u).0 q)))))
    same u p false q = refl

    by : (o : Option (List ℕ)) → parent_name lower.row ≡ o → option_map_or (bytes_eq parent) o false ≡ false
    by None p = refl
    by (Some u) p = same u p (bytes_eq parent u) refl

-- what was taken out isn't as it was
pub lift_differs : (row : Row) (parent : List ℕ) → option_map_or (bytes_eq parent) (parent_name row) false ≡ true → with_attached None row ≡ row → ⊥
lift_differs row parent here same = true≢false (sym here ∙ ap (λ (r : Row). option_map_or (bytes_eq parent) (parent_name r) false) (sym same))
