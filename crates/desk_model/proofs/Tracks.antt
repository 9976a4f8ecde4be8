-- A row stays fit when the rule of a track is changed by options that aren't refused.
use Rattle.std.proofs.Common.{◌≡◌, ◌≤◌, ℕ, zero, suc, ◌-◌, ℤ, unsigned_abs, true, nat_le, List, [], ◌∷◌, map, slice_index_or, None, refl}
use Rattle.std.proofs.lemmas.Bool.{le-leb, leb-true, and_parts, and_from}
use Rattle.std.specs.List.{list_all}
use Rattle.cmd_words.specs.declared.commands.ConfigOption.{ConfigOption}
use Rattle.cmd_words.specs.declared.commands.ConfigOption.TheVariants.{Size, Weight}
use Rattle.scene_model.specs.declared.axis.Axis.{Axis}
use Rattle.scene_model.specs.declared.axis.Axis.TheVariants.{Across, Down}
use Rattle.widget_model.specs.Rows.{Row, column_rule_of, row_rule_of}
use Rattle.widget_model.specs.Fitting.{fits_rule, is_fit}
use Rattle.widget_model.proofs.Fit.{IsFit-is_fit, is_fit-with_column_rule, is_fit-with_row_rule}
use Rattle.desk_model.specs.ConfigOptions.{rule_option_refusal, rule_options_refusal, with_rule_option, with_rule_options}
use Rattle.desk_model.specs.Tracks.{rule_given, with_track}
use Rattle.desk_model.proofs.Refusals.{passed, unless_within-none}

-- a rule that is read fits
pub read_fits : (rules : List (ℕ × ℕ)) (i : ℕ) → list_all fits_rule rules ≡ true → fits_rule (slice_index_or rules i (0, 0)) ≡ true
read_fits [] i h = refl
read_fits (rule ∷ rules) zero h = (and_parts (fits_rule rule) (list_all fits_rule rules) h).0
read_fits (rule ∷ rules) (suc i) h = read_fits rules i (and_parts (fits_rule rule) (list_all fits_rule rules) h).1

fits_rule_parts : (rule : ℕ × ℕ) → fits_rule rule ≡ true → (rule.0 ≤ 1024) × (rule.1 ≤ 1000)
fits_rule_parts rule fits =
    let parts = and_parts (nat_le rule.0 1024) (nat_le rule.1 1000) fits in
    (leb-true rule.0 1024 parts.0, leb-true rule.1 1000 parts.1)

-- an option that isn't refused is within its range
option_fits : (option : ConfigOption × ℤ) (rule : ℕ × ℕ) → rule_option_refusal option ≡ None → fits_rule rule ≡ true → fits_rule (with_rule_option option rule) ≡ true
option_fits (Size, n) rule h old = and_from _ _ (le-leb (unsigned_abs n) 1024 (unless_within-none 0 1024 n h).1) (and_parts (nat_le rule.0 1024) (nat_le rule.1 1000) old).1
option_fits (Weight, n) rule h old = and_from _ _ (and_parts (nat_le rule.0 1024) (nat_le rule.1 1000) old).0 (le-leb (unsigned_abs n) 1000 (unless_within-none 0 1000 n h).1)

pub options_fit : (options : List (ConfigOption × ℤ)) (rule : ℕ × ℕ) → rule_options_refusal options ≡ None → fits_rule rule ≡ true → fits_rule (with_rule_options options rule) ≡ true
options_fit [] rule none old = old
options_fit (option ∷ options) rule none old =
    let parts = passed (rule_option_refusal option) (map rule_option_refusal options) none in
    options_fit options (with_rule_option option rule) parts.1 (option_fits option rule parts.0 old)

pub is_fit-with_track : (axis : Axis) (options : List (ConfigOption × ℤ)) (track : ℕ) (row : Row) → rule_options_refusal options ≡ None → is_fit row ≡ true → is_fit (with_track axis track options row) ≡ true
is_fit-with_track Across options track row none fit =
    let new = fits_rule_parts (rule_given Across track options row) (options_fit options (column_rule_of row track) none (read_fits row.column_rules (track - 1) (IsFit-is_fit row fit).columns)) in
    is_fit-with_column_rule row track (rule_given Across track options row).0 (rule_given Across track options row).1 new.0 new.1 fit
is_fit-with_track Down options track row none fit =
    let new = fits_rule_parts (rule_given Down track options row) (options_fit options (row_rule_of row track) none (read_fits row.row_rules (track - 1) (IsFit-is_fit row fit).rows)) in
    is_fit-with_row_rule row track (rule_given Down track options row).0 (rule_given Down track options row).1 new.0 new.1 fit
