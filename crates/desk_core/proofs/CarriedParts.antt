-- What is carried out of an input on the parts of a desk, and what they keep together after it.
use Rattle.std.proofs.Common.{◌≡◌, ℕ, Bool, true, false, ◌||◌, nat_eq, List, [], ◌∷◌, Option, None, refl, sym, ap, ap₂, ◌∙◌, subst}
use Rattle.std.proofs.lemmas.Bool.{true≢false, eqb-true, eq-eqb, or_parts}
use Rattle.std.specs.Prelude.{map}
use Rattle.std.specs.List.{fold}
use Rattle.std.specs.Option.{option_map}
use Rattle.kind_core.specs.declared.shapes.Shape.{Shape}
use Rattle.admit_core.specs.Roster.{RosterState}
use Rattle.widget_model.specs.Rows.{Row}
use Rattle.widget_model.specs.Nodes.{Node}
use Rattle.geom_core.specs.declared.rectangle.Rect.{Rect}
use Rattle.widget_model.specs.Widgets.{Widgets, nodes, rows_of, place_at}
use Rattle.widget_model.specs.Forest.{IsWidgets}
use Rattle.tree_core.specs.declared.pointer.Pointer.{Pointer}
use Rattle.input_core.specs.declared.effects.Effects.{Effects}
use Rattle.input_core.specs.Seen.{key_seen, post_seen, effects_seen}
use Rattle.desk_model.specs.Desk.{Ring}
use Rattle.desk_model.specs.LetGo.{let_go}
use Rattle.desk_model.specs.Feeding.{rows_after, with_post}
use Rattle.desk_layout.specs.Placed.{HaveDuePlaces}
use Rattle.desk_commands.specs.Parts.{desk_of, stage_of, windows_at, AreParts}
use Rattle.desk_commands.specs.Pointer.{HoldsLive}
use Rattle.desk_commands.specs.Effects.{TellsAll}
use Rattle.desk_moves.specs.Stays.{MoveNothing, effects_move}
use Rattle.desk_moves.proofs.Unmoved.{unmoved-due}
use Rattle.desk_inputs.specs.Carried.{HasRows}
use Rattle.desk_inputs.specs.Raised.{windows_after}
use Rattle.desk_inputs.proofs.CarriedDesks.{carried-desk}
use Rattle.desk_inputs.proofs.FedParts.{parts-kept, numbers-kept}
use Rattle.desk_core.specs.declared.carried.Carried.{Carried}
use Rattle.desk_core.specs.Feeding.{ChangesPlaces, IsCarried}

-- lists of keys that aren't unequal are equal
number_stable : (a b : ℕ) → ((a ≡ b → ⊥) → ⊥) → a ≡ b
number_stable a b not = by (nat_eq a b) refl
  where
    by : (t : Bool) → nat_eq a b ≡ t → a ≡ b
    by true e = eqb-true a b e
    by false e = absurd (not (λ h. true≢false (sym (eq-eqb a b h) ∙ e)))

name_stable : (a b : List ℕ) → ((a ≡ b → ⊥) → ⊥) → a ≡ b
name_stable [] [] not = refl
name_stable [] (b ∷ ys) not = absurd (not (λ h. absurd (cc)))
name_stable (a ∷ xs) [] not = absurd (not (λ h. absurd (cc)))
name_stable (a ∷ xs) (b ∷ ys) not =
    ap₂ (λ (x : ℕ) (rest : List ℕ). x ∷ rest)
    (number_stable a b (λ n. not (λ h. n (let same : a ≡ b = cc in same))))
    (name_stable xs ys (λ n. not (λ h. n (let same : xs ≡ ys = cc in same))))

windows_stable : (a b : List (ℕ × List ℕ)) → ((a ≡ b → ⊥) → ⊥) → a ≡ b
windows_stable [] [] not = refl
windows_stable [] (b ∷ ys) not = absurd (not (λ h. absurd (cc)))
windows_stable (a ∷ xs) [] not = absurd (not (λ h. absurd (cc)))
windows_stable (a ∷ xs) (b ∷ ys) not =
    let client = number_stable a.0 b.0 (λ n. not (λ h. n (let same : a ≡ b = cc in ap (λ (k : ℕ × List ℕ). k.0) same))) in
    let name = name_stable a.1 b.1 (λ n. not (λ h. n (let same : a ≡ b = cc in ap (λ (k : ℕ × List ℕ). k.1) same))) in
    let rest = windows_stable xs ys (λ n. not (λ h. n (let same : xs ≡ ys = cc in same))) in
    λ i. (client i, name i) ∷ rest i

-- where no value is given, the rows stay
rows-none : (es : List (ℕ × Row)) (effects : Effects) (rows : List Row) → effects.value ≡ None → effects.text ≡ None → effects.caret ≡ None → effects.moved ≡ None → rows_after (effects_seen es effects) rows ≡ rows
rows-none es effects rows value text caret moved = rw (value, text, caret, moved) refl

abbrev pub GivesNone : Effects → Type 0
GivesNone effects = (effects.value ≡ None) × ((effects.text ≡ None) × ((effects.caret ≡ None) × (effects.moved ≡ None)))

module _ (effects : Effects) (w given laid : Widgets) (keys keys' : List ℕ) (rings rings' : List Ring) (after : Pointer) (raised : Bool)
    (parts : AreParts w.clients w keys')
    (windows : windows_at (nodes w.entries) keys' ≡ windows_after (option_map (key_seen w.entries) effects.raise) (windows_at (nodes w.entries) keys))
    (tells : TellsAll w w keys keys' raised)
    (posted : rings' ≡ fold (with_post (rows_of w)) rings (map (post_seen w.entries) effects.posts))
    (has : HasRows w given (rows_after (effects_seen w.entries effects) (rows_of w)))
    (valid : IsWidgets given)
    (is : ChangesPlaces given laid) where
  laid_nodes : nodes laid.entries ≡ nodes w.entries
  laid_nodes = ap (λ (v : Widgets). nodes v.entries) is.same ∙ has.nodes

  laid_clients : laid.clients ≡ w.clients
  laid_clients = ap (λ (v : Widgets). v.clients) is.same ∙ has.clients

  laid_rows : rows_of laid ≡ rows_after (effects_seen w.entries effects) (rows_of w)
  laid_rows = ap (λ (v : Widgets). rows_of v) is.same ∙ has.rows

  pub laid-parts : AreParts laid.clients laid keys'
  laid-parts =
      let kept = parts-kept w.clients w given keys' (rows_after (effects_seen w.entries effects) (rows_of w)) parts valid has in
      let P : Widgets → Type 0 = λ v. IsWidgets v → AreParts v.clients v keys' in
      subst P (sym is.same) (λ tree. record { clients = refl; tree = tree; stack = kept.stack; windows = kept.windows }) is.valid

  same-windows : raised ≡ false → windows_at (nodes laid.entries) keys' ≡ windows_at (nodes w.entries) keys
  same-windows none =
      ap (λ (ns : List (ℕ × Node)). windows_at ns keys') laid_nodes
      ∙ windows_stable (windows_at (nodes w.entries) keys') (windows_at (nodes w.entries) keys) (λ n. true≢false (sym (tells.1 (λ same. n same.1)) ∙ none))

  unchanged-by : (raised ≡ false) × GivesNone effects → (rows_of laid ≡ rows_of w) × (windows_at (nodes laid.entries) keys' ≡ windows_at (nodes w.entries) keys)
  unchanged-by both =
      let none = both.1 in
      (laid_rows ∙ rows-none w.entries effects (rows_of w) none.0 none.1.0 none.1.1.0 none.1.1.1, same-windows both.0)

  module _ (gives moves : Bool) (none : gives ≡ false → GivesNone effects) (still : moves ≡ effects_move (rows_of w) (effects_seen w.entries effects)) where
    pub carried-all : (told : Carried) → told.changed ≡ (raised || gives) → told.moved ≡ (raised || moves) → HaveDuePlaces laid → HoldsLive laid.entries after
        → ((shape : Shape) (roster : RosterState) (rings : List Ring) → desk_of (stage_of shape roster rings laid after) laid keys' ≡ let_go (desk_of (stage_of shape roster rings laid effects.pointer) laid keys'))
        → IsCarried effects w laid keys keys' rings rings' after told
    carried-all told changed moved due live left = record {
      rows = laid_rows;
      same_nodes = laid_nodes;
      clients = laid_clients;
      parts = laid-parts;
      placed = due;
      held = live;
      desk = λ shape roster old.
          left shape roster rings'
          ∙ ap (λ (v : Widgets). let_go (desk_of (stage_of shape roster rings' v effects.pointer) v keys')) is.same
          ∙ ap let_go (carried-desk shape roster rings rings' w given old keys keys' effects has windows posted);
      unchanged = λ h. let parts = or_parts raised gives (sym changed ∙ h) in unchanged-by (parts.0, none parts.1);
      unmoved = λ h. let parts = or_parts raised moves (sym moved ∙ h) in (sym still ∙ parts.1, same-windows parts.0);
    }

-- where the values move nothing, the places stay due
pub given-due : (w given : Widgets) (effects : Effects) → IsWidgets w → IsWidgets given → HasRows w given (rows_after (effects_seen w.entries effects) (rows_of w)) → HaveDuePlaces w → MoveNothing (rows_of w) (rows_after (effects_seen w.entries effects) (rows_of w)) → HaveDuePlaces given
given-due w given effects sound valid has due moves =
    unmoved-due w given sound valid due (numbers-kept w given (rows_after (effects_seen w.entries effects) (rows_of w)) sound has)
    (λ id row there. ap (λ (places : List (Option Rect)). place_at (record w { places = places }) id) has.places)
    (subst (λ (rs : List Row). MoveNothing (rows_of w) rs) (sym has.rows) moves)
