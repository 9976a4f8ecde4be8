-- When a call refuses, and with what: the first that holds, in the order of the tests.
use Rattle.std.specs.Prelude.{ℕ, ◌≡◌, ◌+◌, Bool, ◌&&◌, not, List, [], ◌∷◌, Option, Some, None, is_some, nat_le, nat_lt, if◌then◌else◌}
use Rattle.std.specs.Option.{option_map, option_and_then}
use Rattle.kind_core.specs.declared.kinds.Kind.{Kind}
use Rattle.kind_core.specs.declared.shapes.Cell.{Cell}
use Rattle.widget_model.specs.Rows.{Row}
use Rattle.widget_model.specs.Named.{row_named, rows_counted}
use Rattle.widget_model.specs.Kinds.{any_kind, counts_with}
use Rattle.widget_model.specs.Widgets.{Widgets, rows_of, row_at}
use Rattle.widget_model.specs.Trees.{hangs, has_children, can_be_child, child_in, depth_of, height_of, is_above, most_levels}
use Rattle.tree_core.specs.declared.refusal.AddRefusal.{AddRefusal}
use Rattle.tree_core.specs.declared.refusal.AddRefusal.TheVariants.{NameTaken, Full, NoMemory}
use Rattle.tree_core.specs.declared.refusal.AttachRefusal.{AttachRefusal}
use Rattle.tree_core.specs.declared.refusal.AttachRefusal.TheVariants.{WrongKind, HasParent, Cycle, TooDeep, CellTaken}

-- the first refusal whose condition holds, from left to right
abbrev pub first_of : {R : Type 0} → List (Bool × R) → Option R
first_of [] = None
first_of (refusal ∷ refusals) = if refusal.0 then Some refusal.1 else first_of refusals

-- A new widget is refused where the client has one of the name, then where it has 128, then where it would
-- be the ninth Window or the ninth VScreen.
abbrev pub add_refusal : List Row → ℕ → List ℕ → Kind → Option AddRefusal
add_refusal rows client name kind =
    first_of (
    (is_some (row_named rows client name), NameTaken)
    ∷ (nat_le 128 (rows_counted client any_kind rows), Full 128)
    ∷ (nat_le 8 (rows_counted client (counts_with kind) rows), Full 8)
    ∷ []
    )

-- Want of memory comes only where nothing else is refused; any other answer is the first refusal.
abbrev pub AnswersRefusal : Option AddRefusal → AddRefusal → Type 0
AnswersRefusal refusal NoMemory = refusal ≡ None
AnswersRefusal refusal NameTaken = refusal ≡ Some NameTaken
AnswersRefusal refusal (Full limit) = refusal ≡ Some (Full limit)

-- A parent refuses a child where one of the kinds doesn't suit, then where the child hangs already, then
-- where the child is above the parent, then where the tree would have too many levels, then where the cell
-- has a child.
abbrev pub attach_refusal : List Row → Row → Row → Cell → Option AttachRefusal
attach_refusal rows parent child cell =
    first_of (
    (not (has_children parent.kind && can_be_child child.kind), WrongKind)
    ∷ (hangs child, HasParent)
    ∷ (is_above rows parent.client child.name parent.name, Cycle)
    ∷ (nat_lt most_levels (depth_of rows parent.client parent.name + height_of rows child.client child.name), TooDeep)
    ∷ (is_some (child_in rows parent.client parent.name cell.column cell.row), CellTaken)
    ∷ []
    )

-- the same of two numbered rows
abbrev pub attach_answer : Widgets → ℕ → ℕ → Cell → Option (Option AttachRefusal)
attach_answer widgets parent child cell =
    option_and_then (λ upper. option_map (λ lower. attach_refusal (rows_of widgets) upper lower cell) (row_at widgets.entries child)) (row_at widgets.entries parent)
