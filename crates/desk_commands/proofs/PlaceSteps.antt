-- The steps of hanging a widget in another, taking it out and removing it.
use Rattle.std.proofs.Common.{◌≡◌, ℕ, ◌+◌, ℤ, Bool, true, false, cond, not, ◌&&◌, nat_lt, List, [], ◌∷◌, Option, Some, None, is_some, refl, sym, ap, ◌∙◌}
use Rattle.std.proofs.lemmas.Bool.{true≢false}
use Rattle.std.specs.Option.{option_map, option_map_or, option_and_then}
use Rattle.kind_core.specs.declared.kinds.Kind.{Kind}
use Rattle.kind_core.specs.declared.shapes.Cell.{Cell}
use Rattle.cmd_words.specs.declared.commands.PlaceOption.{PlaceOption}
use Rattle.cmd_words.specs.declared.replies.Refusal.{Refusal}
use Rattle.cmd_words.specs.declared.replies.Refusal.TheVariants.{WrongKind, HasParent, Cycle, TooDeep, CellTaken}
use Rattle.tree_core.specs.declared.refusal.AttachRefusal.{AttachRefusal}
use Rattle.tree_core.specs.declared.refusal.AttachRefusal.TheVariants as attach
use Rattle.tree_core.specs.Refusals.{attach_refusal, attach_answer}
use Rattle.widget_model.specs.Rows.{Row, with_attached}
use Rattle.widget_model.specs.Widgets.{Widgets, rows_of}
use Rattle.widget_model.specs.Named.{row_named, is_kind_of}
use Rattle.widget_model.specs.Trees.{hangs, has_children, can_be_child, child_in, depth_of, height_of, is_above, most_levels}
use Rattle.desk_model.specs.Desk.{Desk}
use Rattle.desk_model.specs.Refusals.{when, first_refusal, outcome, unless_there}
use Rattle.desk_model.specs.PlaceOptions.{cell_options_refusal, cell_given}
use Rattle.desk_model.specs.Placement.{place_effect, step_place}
use Rattle.desk_commands.specs.Effects.{with_rows}
use Rattle.desk_commands.specs.Lookup.{IsFound}
use Rattle.desk_commands.specs.TreeRefusals.{refusal_of_attach}
use Rattle.desk_commands.proofs.Effects.{found-parts}

-- the refusals that come after those of the options
abbrev pub last_refusals : List Row → ℕ → List ℕ → List ℕ → Bool → Cell → List (Option Refusal)
last_refusals rows client parent child hung cell =
    when hung HasParent
    ∷ when (is_above rows client child parent) Cycle
    ∷ when (nat_lt most_levels (depth_of rows client parent + height_of rows client child)) TooDeep
    ∷ when (is_some (child_in rows client parent cell.column cell.row)) CellTaken
    ∷ []

pub step_place-by : (desk : Desk) (client : ℕ) (parent child : List ℕ) (options : List (PlaceOption × ℤ)) (upper lower : Option Row) → row_named desk.rows client parent ≡ upper → row_named desk.rows client child ≡ lower → step_place desk client parent child options ≡ outcome desk (first_refusal (unless_there upper ∷ unless_there lower ∷ when (not (is_kind_of has_children upper && is_kind_of can_be_child lower)) WrongKind ∷ option_and_then (λ row. cell_options_refusal row.kind options) upper ∷ last_refusals desk.rows client parent child (option_map_or hangs lower false) (cell_given options))) (place_effect desk client parent child options)
unfolding step_place
step_place-by desk client parent child options upper lower h k = rw (h, k) refl

-- what the tree refuses is what comes last
pub last_refusals-attach : (rows : List Row) (client : ℕ) (parent child : List ℕ) (upper lower : Row) (cell : Cell) → (has_children upper.kind && can_be_child lower.kind) ≡ true → upper.client ≡ client → upper.name ≡ parent → lower.client ≡ client → lower.name ≡ child → first_refusal (last_refusals rows client parent child (hangs lower) cell) ≡ option_map refusal_of_attach (attach_refusal rows upper lower cell)
last_refusals-attach rows client parent child upper lower cell right uc un lc ln =
    by (hangs lower) (is_above rows client child parent) (nat_lt most_levels (depth_of rows client parent + height_of rows client child)) (is_some (child_in rows client parent cell.column cell.row))
    ∙ sym (rw (right, uc, un, lc, ln) refl)
  where
    by : (a b c d : Bool) → first_refusal (when a HasParent ∷ when b Cycle ∷ when c TooDeep ∷ when d CellTaken ∷ []) ≡ option_map refusal_of_attach (cond a (Some attach.HasParent) (cond b (Some attach.Cycle) (cond c (Some attach.TooDeep) (cond d (Some attach.CellTaken) None))))
    by true b c d = refl
    by false true c d = refl
    by false false true d = refl
    by false false false true = refl
    by false false false false = refl

pub hangs_not : (rows : List Row) (upper lower : Row) (cell : Cell) → attach_refusal rows upper lower cell ≡ None → hangs lower ≡ false
hangs_not rows upper lower cell h = by (not (has_children upper.kind && can_be_child lower.kind)) (hangs lower) _ h
  where
    by : (a b : Bool) (rest : Option AttachRefusal) → cond a (Some attach.WrongKind) (cond b (Some attach.HasParent) rest) ≡ None → b ≡ false
    by true b rest h = absurd (cc)
    by false true rest h = absurd (cc)
    by false false rest h = refl

pub attach_refusal-is : (w : Widgets) (client : ℕ) (parent child : List ℕ) (options : List (PlaceOption × ℤ)) (key key' : ℕ) (kind kind' : Kind) (upper : IsFound w client parent key kind) (lower : IsFound w client child key' kind') (cell : Cell) (answer : Option AttachRefusal) → cell ≡ cell_given options → attach_answer w key key' cell ≡ Some answer → attach_refusal (rows_of w) upper.row lower.row (cell_given options) ≡ answer
attach_refusal-is w client parent child options key key' kind kind' upper lower cell answer is answered =
    let there : attach_answer w key key' (cell_given options) ≡ Some (attach_refusal (rows_of w) upper.row lower.row (cell_given options)) = rw (upper.there, lower.there) refl in
    let some : Some (attach_refusal (rows_of w) upper.row lower.row (cell_given options)) ≡ Some answer = sym there ∙ ap (attach_answer w key key') (sym is) ∙ answered in
    cc

-- the answer of `place` where its options are within their ranges
pub place_answer : (w : Widgets) (client : ℕ) (parent child : List ℕ) (options : List (PlaceOption × ℤ)) (key key' : ℕ) (kind kind' : Kind) (upper : IsFound w client parent key kind) (lower : IsFound w client child key' kind') (cell : Cell) (answer : Option AttachRefusal) → (has_children kind && can_be_child kind') ≡ true → cell_options_refusal kind options ≡ None → cell ≡ cell_given options → attach_answer w key key' cell ≡ Some answer → (desk : Desk) → step_place (with_rows (rows_of w) desk) client parent child options ≡ outcome (with_rows (rows_of w) desk) (option_map refusal_of_attach answer) (place_effect (with_rows (rows_of w) desk) client parent child options)
place_answer w client parent child options key key' kind kind' upper lower cell answer suits fit is answered desk =
    let right : (has_children upper.row.kind && can_be_child lower.row.kind) ≡ true = rw (upper.has, lower.has) suits in
    let none : cell_options_refusal upper.row.kind options ≡ None = ap (λ (k : Kind). cell_options_refusal k options) upper.has ∙ fit in
    let one = found-parts w client parent key kind upper in
    let two = found-parts w client child key' kind' lower in
    step_place-by (with_rows (rows_of w) desk) client parent child options (Some upper.row) (Some lower.row) upper.named lower.named
    ∙ rw (right, none) refl
    ∙ ap (λ (r : Option Refusal). outcome (with_rows (rows_of w) desk) r (place_effect (with_rows (rows_of w) desk) client parent child options))
    (last_refusals-attach (rows_of w) client parent child upper.row lower.row (cell_given options) right one.0 one.1 two.0 two.1 ∙ ap (option_map refusal_of_attach) (attach_refusal-is w client parent child options key key' kind kind' upper lower cell answer is answered))

-- where the child was hung it isn't as it was
pub attached_differs : (row : Row) (parent : List ℕ) (cell : Cell) → hangs row ≡ false → with_attached (Some (parent, cell)) row ≡ row → ⊥
attached_differs row parent cell free same = true≢false (ap hangs same ∙ free)
