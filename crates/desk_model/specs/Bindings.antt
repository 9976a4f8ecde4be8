-- The commands that bind an event of a widget to a tag, and unbind it.
use Rattle.std.specs.Prelude.{ℕ, List, [], ◌∷◌, Option}
use Rattle.kind_core.specs.declared.kinds.EventKind.{EventKind}
use Rattle.kind_core.specs.Events.{gives_event}
use Rattle.cmd_words.specs.declared.replies.Reply.{Reply}
use Rattle.cmd_words.specs.declared.replies.Reply.TheVariants.{Done}
use Rattle.cmd_words.specs.declared.replies.Refusal.{Refusal}
use Rattle.widget_model.specs.Rows.{with_binding}
use Rattle.widget_model.specs.Named.{row_named, with_named}
use Rattle.desk_model.specs.Desk.{Desk}
use Rattle.desk_model.specs.Refusals.{first_refusal, outcome, unless_there, unless_kind}

-- `n.bind(event, tag)` and `n.unbind(event)`
abbrev pub bind_refusal : Desk → ℕ → List ℕ → EventKind → Option Refusal
bind_refusal desk client name event =
    let row = row_named desk.rows client name in
    first_refusal (unless_there row ∷ unless_kind (λ kind. gives_event kind event) row ∷ [])

abbrev pub bind_effect : Desk → ℕ → List ℕ → EventKind → Option (List ℕ) → Reply × Desk
bind_effect desk client name event tag = (Done, record desk { rows = with_named client name (with_binding event tag) desk.rows })

unfoldable pub step_bind : Desk → ℕ → List ℕ → EventKind → Option (List ℕ) → Reply × Desk
step_bind desk client name event tag = outcome desk (bind_refusal desk client name event) (bind_effect desk client name event tag)
