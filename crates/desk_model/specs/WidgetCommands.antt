-- The commands that make, change, read and remove one widget.
use Rattle.std.specs.Prelude.{ℕ, Bool, false, ◌||◌, nat_le, is_some, is_none, List, [], ◌∷◌, ◌++◌, Option, Some, None}
use Rattle.std.specs.Option.{option_map_or, option_and_then}
use Rattle.kind_core.specs.declared.kinds.Kind.{Kind}
use Rattle.kind_core.specs.declared.kinds.Attr.{Attr}
use Rattle.kind_core.specs.declared.values.Value as value
use Rattle.kind_core.specs.declared.values.Value.TheVariants.{Number as number, Words as words}
use Rattle.cmd_words.specs.declared.replies.Reply.{Reply}
use Rattle.cmd_words.specs.declared.replies.Reply.TheVariants.{Done, Number, Words, NoEvent}
use Rattle.cmd_words.specs.declared.replies.Refusal.{Refusal}
use Rattle.cmd_words.specs.declared.replies.Refusal.TheVariants.{Memory, NameTaken, WrongKind, Full, InUse}
use Rattle.widget_model.specs.Rows.{new_row, attr_of}
use Rattle.widget_model.specs.Kinds.{any_kind, counts_with}
use Rattle.widget_model.specs.Named.{row_named, with_named, without_named, rows_counted}
use Rattle.widget_model.specs.Trees.{is_used}
use Rattle.desk_model.specs.Desk.{Desk, is_open}
use Rattle.desk_model.specs.Refusals.{when, first_refusal, outcome, unless_there}
use Rattle.desk_model.specs.AttrOptions.{attrs_refusal, with_attrs}

-- `n = new K()`. `short`: there is no memory for it.
abbrev pub new_refusal : Desk → ℕ → List ℕ → Kind → Bool → Option Refusal
new_refusal desk client name kind short =
    first_refusal (
    when (is_some (row_named desk.rows client name)) NameTaken
    ∷ when (nat_le 128 (rows_counted client any_kind desk.rows)) (Full 128)
    ∷ when (nat_le 8 (rows_counted client (counts_with kind) desk.rows)) (Full 8)
    ∷ when short Memory
    ∷ [])

abbrev pub new_effect : Desk → ℕ → List ℕ → Kind → Reply × Desk
new_effect desk client name kind = (Done, record desk { rows = desk.rows ++ new_row client name kind ∷ [] })

unfoldable pub step_new : Desk → ℕ → List ℕ → Kind → Bool → Reply × Desk
step_new desk client name kind short = outcome desk (new_refusal desk client name kind short) (new_effect desk client name kind)

-- `n.set(options)`
abbrev pub set_refusal : Desk → ℕ → List ℕ → List (Attr × value.Value) → Option Refusal
set_refusal desk client name options =
    let row = row_named desk.rows client name in
    first_refusal (unless_there row ∷ option_and_then (λ row. attrs_refusal row.kind options) row ∷ [])

abbrev pub set_effect : Desk → ℕ → List ℕ → List (Attr × value.Value) → Reply × Desk
set_effect desk client name options = (Done, record desk { rows = with_named client name (with_attrs options) desk.rows })

unfoldable pub step_set : Desk → ℕ → List ℕ → List (Attr × value.Value) → Reply × Desk
step_set desk client name options = outcome desk (set_refusal desk client name options) (set_effect desk client name options)

-- `n.get(attr)`: the attribute's own value, as it was set.
abbrev pub value_of : Desk → ℕ → List ℕ → Attr → Option value.Value
value_of desk client name attr = option_and_then (λ row. attr_of row attr) (row_named desk.rows client name)

abbrev pub get_refusal : Desk → ℕ → List ℕ → Attr → Option Refusal
get_refusal desk client name attr =
    first_refusal (unless_there (row_named desk.rows client name) ∷ when (is_none (value_of desk client name attr)) WrongKind ∷ [])

abbrev pub reply_with : Option value.Value → Reply
reply_with None = NoEvent
reply_with (Some (number n)) = Number n
reply_with (Some (words text)) = Words text

abbrev pub get_effect : Desk → ℕ → List ℕ → Attr → Reply × Desk
get_effect desk client name attr = (reply_with (value_of desk client name attr), desk)

unfoldable pub step_get : Desk → ℕ → List ℕ → Attr → Reply × Desk
step_get desk client name attr = outcome desk (get_refusal desk client name attr) (get_effect desk client name attr)

-- `n.drop()`
abbrev pub drop_refusal : Desk → ℕ → List ℕ → Option Refusal
drop_refusal desk client name =
    let row = row_named desk.rows client name in
    first_refusal (
    unless_there row
    ∷ when (option_map_or (is_used desk.rows) row false || is_open desk client name) InUse
    ∷ [])

abbrev pub drop_effect : Desk → ℕ → List ℕ → Reply × Desk
drop_effect desk client name = (Done, record desk { rows = without_named client name desk.rows })

unfoldable pub step_drop : Desk → ℕ → List ℕ → Reply × Desk
step_drop desk client name = outcome desk (drop_refusal desk client name) (drop_effect desk client name)
