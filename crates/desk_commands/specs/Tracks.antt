-- Inner words of the proofs: the track of a Grid that a command may rule, and what is answered where it may not.
use Rattle.std.specs.Prelude.{ℕ, ℤ, ◌≡◌, List, Some, None, Result, Ok, Err, unsigned_abs}
use Rattle.kind_core.specs.declared.kinds.Kind.TheVariants.{Grid}
use Rattle.cmd_words.specs.declared.commands.ConfigOption.{ConfigOption}
use Rattle.cmd_words.specs.declared.replies.Refusal.{Refusal}
use Rattle.desk_model.specs.ConfigOptions.{rule_options_refusal}
use Rattle.desk_model.specs.Tracks.{track_refusal}
use Rattle.widget_model.specs.Widgets.{Widgets, rows_of}
use Rattle.desk_model.specs.Desk.{Desk}
use Rattle.widget_model.specs.Rows.{IsIndex}
use Rattle.desk_commands.specs.Effects.{with_rows}
use Rattle.desk_commands.specs.Lookup.{IsFound}
use Rattle.desk_commands.specs.declared.tracks.Ruled.{Ruled}

-- the Grid of that number has the column or row, and nothing is refused
pub record IsRuled (widgets : Widgets) (client : ℕ) (name : List ℕ) (index : ℤ) (options : List (ConfigOption × ℤ)) (key at : ℕ) : Type 0 where
  pub found : IsFound widgets client name key Grid
  pub allowed : (desk : Desk) → track_refusal (with_rows (rows_of widgets) desk) client name index options ≡ None
  pub same : at ≡ unsigned_abs index
  pub within : IsIndex at
  pub fit : rule_options_refusal options ≡ None

abbrev pub AnswersRuled : Widgets → ℕ → List ℕ → ℤ → List (ConfigOption × ℤ) → Result Ruled Refusal → Type 0
AnswersRuled widgets client name index options (Ok ruled) = IsRuled widgets client name index options ruled.id.key ruled.at
AnswersRuled widgets client name index options (Err refusal) = (desk : Desk) → track_refusal (with_rows (rows_of widgets) desk) client name index options ≡ Some refusal
