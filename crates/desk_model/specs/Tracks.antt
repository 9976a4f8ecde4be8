-- The commands that rule the tracks of a Grid: `columnconfig` its columns, across, and `rowconfig` its rows, down. A rule
-- is a size and a weight; what the options don't give stays.
use Rattle.std.specs.Prelude.{ℕ, ℤ, pos, Bool, true, false, List, [], ◌∷◌, Option, unsigned_abs}
use Rattle.kind_core.specs.declared.kinds.Kind.{Kind}
use Rattle.kind_core.specs.declared.kinds.Kind.TheVariants.{Grid}
use Rattle.cmd_words.specs.declared.commands.ConfigOption.{ConfigOption}
use Rattle.cmd_words.specs.declared.replies.Reply.{Reply}
use Rattle.cmd_words.specs.declared.replies.Reply.TheVariants.{Done}
use Rattle.cmd_words.specs.declared.replies.Refusal.{Refusal}
use Rattle.scene_model.specs.declared.axis.Axis.{Axis}
use Rattle.scene_model.specs.declared.axis.Axis.TheVariants.{Across, Down}
use Rattle.scene_model.specs.Tracks.{rules_of, rule_of}
use Rattle.widget_model.specs.Rows.{Row, with_column_rule, with_row_rule}
use Rattle.widget_model.specs.Named.{row_named, with_named}
use Rattle.desk_model.specs.Desk.{Desk}
use Rattle.desk_model.specs.Refusals.{first_refusal, outcome, unless_there, unless_kind}
use Rattle.desk_model.specs.PlaceOptions.{unless_within}
use Rattle.desk_model.specs.ConfigOptions.{rule_options_refusal, with_rule_options}

abbrev pub is_grid : Kind → Bool
is_grid Grid = true
is_grid _ = false

-- the row with a rule of its columns, or of its rows, changed
abbrev pub with_rule : Axis → ℕ → ℕ × ℕ → Row → Row
with_rule Across track rule row = with_column_rule track rule row
with_rule Down track rule row = with_row_rule track rule row

-- the rule that the row has for the track, with the options in it
abbrev pub rule_given : Axis → ℕ → List (ConfigOption × ℤ) → Row → ℕ × ℕ
rule_given axis track options row = with_rule_options options (rule_of (rules_of axis row) track)

abbrev pub with_track : Axis → ℕ → List (ConfigOption × ℤ) → Row → Row
with_track axis track options row = with_rule axis track (rule_given axis track options row) row

-- `g.columnconfig(i, options)` and `g.rowconfig(i, options)`
abbrev pub track_refusal : Desk → ℕ → List ℕ → ℤ → List (ConfigOption × ℤ) → Option Refusal
track_refusal desk client name index options =
    let row = row_named desk.rows client name in
    first_refusal (unless_there row ∷ unless_kind is_grid row ∷ unless_within (pos 1) (pos 16) index ∷ rule_options_refusal options ∷ [])

abbrev pub track_effect : Axis → Desk → ℕ → List ℕ → ℤ → List (ConfigOption × ℤ) → Reply × Desk
track_effect axis desk client name index options = (Done, record desk { rows = with_named client name (with_track axis (unsigned_abs index) options) desk.rows })

unfoldable pub step_track : Axis → Desk → ℕ → List ℕ → ℤ → List (ConfigOption × ℤ) → Reply × Desk
step_track axis desk client name index options = outcome desk (track_refusal desk client name index options) (track_effect axis desk client name index options)
