-- The commands that hang one widget in a cell of another, and take it out.
use Rattle.std.specs.Prelude.{ℕ, ℤ, ◌+◌, ◌&&◌, not, nat_lt, false, is_some, List, [], ◌∷◌, Option, Some, None}
use Rattle.std.specs.Option.{option_map_or, option_and_then}
use Rattle.std.specs.Str.{bytes_eq}
use Rattle.cmd_words.specs.declared.commands.PlaceOption.{PlaceOption}
use Rattle.cmd_words.specs.declared.replies.Reply.{Reply}
use Rattle.cmd_words.specs.declared.replies.Reply.TheVariants.{Done}
use Rattle.cmd_words.specs.declared.replies.Refusal.{Refusal}
use Rattle.cmd_words.specs.declared.replies.Refusal.TheVariants.{WrongKind, HasParent, Cycle, TooDeep, CellTaken, NotHere}
use Rattle.widget_model.specs.Rows.{with_attached}
use Rattle.widget_model.specs.Named.{row_named, with_named, is_kind_of}
use Rattle.widget_model.specs.Trees.{hangs, has_children, can_be_child, parent_of, child_in, depth_of, height_of, is_above, most_levels}
use Rattle.desk_model.specs.Desk.{Desk}
use Rattle.desk_model.specs.Refusals.{when, first_refusal, outcome, unless_there}
use Rattle.desk_model.specs.PlaceOptions.{cell_options_refusal, cell_given}

-- `p.place(c, options)`
abbrev pub place_refusal : Desk → ℕ → List ℕ → List ℕ → List (PlaceOption × ℤ) → Option Refusal
place_refusal desk client parent child options =
    let upper = row_named desk.rows client parent in
    let lower = row_named desk.rows client child in
    let cell = cell_given options in
    first_refusal (
    unless_there upper
    ∷ unless_there lower
    ∷ when (not (is_kind_of has_children upper && is_kind_of can_be_child lower)) WrongKind
    ∷ option_and_then (λ row. cell_options_refusal row.kind options) upper
    ∷ when (option_map_or hangs lower false) HasParent
    ∷ when (is_above desk.rows client child parent) Cycle
    ∷ when (nat_lt most_levels (depth_of desk.rows client parent + height_of desk.rows client child)) TooDeep
    ∷ when (is_some (child_in desk.rows client parent cell.column cell.row)) CellTaken
    ∷ [])

abbrev pub place_effect : Desk → ℕ → List ℕ → List ℕ → List (PlaceOption × ℤ) → Reply × Desk
place_effect desk client parent child options =
    (Done, record desk { rows = with_named client child (with_attached (Some (parent, cell_given options))) desk.rows })

unfoldable pub step_place : Desk → ℕ → List ℕ → List ℕ → List (PlaceOption × ℤ) → Reply × Desk
step_place desk client parent child options = outcome desk (place_refusal desk client parent child options) (place_effect desk client parent child options)

-- `p.lift(c)`
abbrev pub lift_refusal : Desk → ℕ → List ℕ → List ℕ → Option Refusal
lift_refusal desk client parent child =
    first_refusal (
    unless_there (row_named desk.rows client parent)
    ∷ unless_there (row_named desk.rows client child)
    ∷ when (not (option_map_or (bytes_eq parent) (parent_of desk.rows client child) false)) NotHere
    ∷ [])

abbrev pub lift_effect : Desk → ℕ → List ℕ → Reply × Desk
lift_effect desk client child = (Done, record desk { rows = with_named client child (with_attached None) desk.rows })

unfoldable pub step_lift : Desk → ℕ → List ℕ → List ℕ → Reply × Desk
step_lift desk client parent child = outcome desk (lift_refusal desk client parent child) (lift_effect desk client child)
