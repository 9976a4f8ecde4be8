-- The commands that link a widget to a Variable of the same client, and unlink it.
use Rattle.std.specs.Prelude.{ℕ, ◌&&◌, not, List, [], ◌∷◌, Option, Some, None}
use Rattle.cmd_words.specs.declared.replies.Reply.{Reply}
use Rattle.cmd_words.specs.declared.replies.Reply.TheVariants.{Done}
use Rattle.cmd_words.specs.declared.replies.Refusal.{Refusal}
use Rattle.cmd_words.specs.declared.replies.Refusal.TheVariants.{WrongKind}
use Rattle.widget_model.specs.Rows.{with_link}
use Rattle.widget_model.specs.Named.{row_named, with_named, is_kind_of}
use Rattle.widget_model.specs.Kinds.{can_link, is_variable_kind}
use Rattle.desk_model.specs.Desk.{Desk}
use Rattle.desk_model.specs.Refusals.{when, first_refusal, outcome, unless_there, unless_kind}

-- `n.link(v)`
abbrev pub link_refusal : Desk → ℕ → List ℕ → List ℕ → Option Refusal
link_refusal desk client name variable =
    let row = row_named desk.rows client name in
    let other = row_named desk.rows client variable in
    first_refusal (unless_there row ∷ unless_there other ∷ when (not (is_kind_of can_link row && is_kind_of is_variable_kind other)) WrongKind ∷ [])

abbrev pub link_effect : Desk → ℕ → List ℕ → List ℕ → Reply × Desk
link_effect desk client name variable = (Done, record desk { rows = with_named client name (with_link (Some variable)) desk.rows })

unfoldable pub step_link : Desk → ℕ → List ℕ → List ℕ → Reply × Desk
step_link desk client name variable = outcome desk (link_refusal desk client name variable) (link_effect desk client name variable)

-- `n.unlink()`
abbrev pub unlink_refusal : Desk → ℕ → List ℕ → Option Refusal
unlink_refusal desk client name =
    let row = row_named desk.rows client name in
    first_refusal (unless_there row ∷ unless_kind can_link row ∷ [])

abbrev pub unlink_effect : Desk → ℕ → List ℕ → Reply × Desk
unlink_effect desk client name = (Done, record desk { rows = with_named client name (with_link None) desk.rows })

unfoldable pub step_unlink : Desk → ℕ → List ℕ → Reply × Desk
step_unlink desk client name = outcome desk (unlink_refusal desk client name) (unlink_effect desk client name)
