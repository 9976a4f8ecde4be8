-- The commands on windows: `open`, `close` and `top`.
use Rattle.std.specs.Prelude.{ℕ, not, List, [], ◌∷◌, Option}
use Rattle.std.specs.List.{filter}
use Rattle.cmd_words.specs.declared.replies.Reply.{Reply}
use Rattle.cmd_words.specs.declared.replies.Reply.TheVariants.{Done}
use Rattle.cmd_words.specs.declared.replies.Refusal.{Refusal}
use Rattle.cmd_words.specs.declared.replies.Refusal.TheVariants.{AlreadyOpen, NotOpen}
use Rattle.widget_model.specs.Named.{row_named}
use Rattle.widget_model.specs.Kinds.{is_window_kind}
use Rattle.desk_model.specs.Desk.{Desk, is_open, is_window}
use Rattle.desk_model.specs.Refusals.{when, first_refusal, outcome, unless_there, unless_kind}

-- `w.open()`: the window goes on top of all.
abbrev pub open_refusal : Desk → ℕ → List ℕ → Option Refusal
open_refusal desk client name =
    let row = row_named desk.rows client name in
    first_refusal (unless_there row ∷ unless_kind is_window_kind row ∷ when (is_open desk client name) AlreadyOpen ∷ [])

abbrev pub open_effect : Desk → ℕ → List ℕ → Reply × Desk
open_effect desk client name = (Done, record desk { windows = (client, name) ∷ desk.windows })

unfoldable pub step_open : Desk → ℕ → List ℕ → Reply × Desk
step_open desk client name = outcome desk (open_refusal desk client name) (open_effect desk client name)

-- the open windows without the named one, in their order
abbrev pub without_window : ℕ → List ℕ → List (ℕ × List ℕ) → List (ℕ × List ℕ)
without_window client name windows = filter (λ window. not (is_window client name window)) windows

-- Only an open window can be closed or raised.
abbrev pub unless_open : Desk → ℕ → List ℕ → Option Refusal
unless_open desk client name =
    let row = row_named desk.rows client name in
    first_refusal (unless_there row ∷ unless_kind is_window_kind row ∷ when (not (is_open desk client name)) NotOpen ∷ [])

-- `w.close()`
abbrev pub close_effect : Desk → ℕ → List ℕ → Reply × Desk
close_effect desk client name = (Done, record desk { windows = without_window client name desk.windows })

unfoldable pub step_close : Desk → ℕ → List ℕ → Reply × Desk
step_close desk client name = outcome desk (unless_open desk client name) (close_effect desk client name)

-- the open windows with the named one on top
abbrev pub with_top : ℕ → List ℕ → List (ℕ × List ℕ) → List (ℕ × List ℕ)
with_top client name windows = (client, name) ∷ without_window client name windows

-- `w.top()`
abbrev pub top_effect : Desk → ℕ → List ℕ → Reply × Desk
top_effect desk client name = (Done, record desk { windows = with_top client name desk.windows })

unfoldable pub step_top : Desk → ℕ → List ℕ → Reply × Desk
step_top desk client name = outcome desk (unless_open desk client name) (top_effect desk client name)
