-- What ruling a track does.
use Rattle.std.proofs.Common.{◌≡◌, ℕ, ◌-◌, ℤ, Bool, true, false, cond, nat_eq, List, [], ◌∷◌, Option, Some, None, refl, sym, ap, ◌∙◌}
use Rattle.std.proofs.lemmas.Bool.{eqb-true, and_parts}
use Rattle.std.specs.List.{list_all}
use Rattle.std.specs.Option.{option_map}
use Rattle.kind_core.specs.declared.kinds.Kind.{Kind}
use Rattle.kind_core.specs.declared.kinds.Kind.TheVariants.{Grid}
use Rattle.cmd_words.specs.declared.commands.ConfigOption.{ConfigOption}
use Rattle.cmd_words.specs.declared.replies.Reply.{Reply}
use Rattle.cmd_words.specs.declared.replies.Reply.TheVariants.{Done}
use Rattle.cmd_words.specs.declared.replies.Refusal.{Refusal}
use Rattle.scene_model.specs.declared.axis.Axis.{Axis}
use Rattle.scene_model.specs.declared.axis.Axis.TheVariants.{Across, Down}
use Rattle.scene_model.specs.Tracks.{rules_of, rule_of}
use Rattle.widget_model.specs.Rows.{Row}
use Rattle.widget_model.specs.Nodes.{node_of, node_at}
use Rattle.widget_model.specs.Named.{with_named}
use Rattle.widget_model.specs.Widgets.{Widgets, nodes, rows_in, rows_of, row_at, row_kind, IsGrid, with_row, edited}
use Rattle.widget_model.specs.Forest.{HaveOwnNumbers, IsWidgets}
use Rattle.widget_model.specs.Fitting.{fits_rule, fits_rules}
use Rattle.widget_model.proofs.Hanging.{all_at}
use Rattle.widget_model.proofs.Naming.{with_row-absent}
use Rattle.tree_core.proofs.Listed.{numbered_place}
use Rattle.desk_model.specs.Desk.{Desk}
use Rattle.desk_model.specs.Refusals.{outcome}
use Rattle.desk_model.specs.ConfigOptions.{with_rule_options}
use Rattle.desk_model.specs.Tracks.{is_grid, with_rule, with_track, track_refusal, track_effect, step_track}
use Rattle.desk_model.proofs.Tracks.{read_fits, options_fit}
use Rattle.desk_commands.specs.Effects.{Did, with_rows}
use Rattle.desk_commands.specs.Tracks.{IsRuled}
use Rattle.desk_commands.proofs.Effects.{done_did}
use Rattle.desk_commands.proofs.Edits.{row_kind-with_row}
use Rattle.desk_commands.proofs.Changes.{slice_set-same}

-- each row's rules fit
row_fits : (es : List (ℕ × Row)) (id : ℕ) (row : Row) → list_all fits_rules (rows_in es) ≡ true → row_at es id ≡ Some row → fits_rules row ≡ true
row_fits es id row fits there = let place = numbered_place es id row there in all_at fits_rules (rows_in es) place.0 row fits place.1

pub grid-kind : (kind : Kind) → is_grid kind ≡ true → kind ≡ Grid
grid-kind Grid h = refl
grid-kind _ h = absurd (cc)

-- two changes that agree on the numbered row are one
agree : (es : List (ℕ × Row)) (id : ℕ) (one other : Row → Row) (row : Row) → HaveOwnNumbers (nodes es) → row_at es id ≡ Some row → one row ≡ other row → with_row id one es ≡ with_row id other es
agree [] id one other row own there same = refl
agree (e ∷ es) id one other row own there same = by (agree es id one other row own.1) (nat_eq id e.0) refl there
  where
    by : (row_at es id ≡ Some row → one row ≡ other row → with_row id one es ≡ with_row id other es) → (b : Bool) → nat_eq id e.0 ≡ b → cond b (Some e.1) (row_at es id) ≡ Some row → cond b (e.0, one e.1) e ∷ with_row id one es ≡ cond b (e.0, other e.1) e ∷ with_row id other es
    by rest true q h =
        let here : e.1 ≡ row = cc in
        let first : one e.1 ≡ other e.1 = ap one here ∙ same ∙ ap other (sym here) in
        let absent : node_at (nodes es) id ≡ None = rw (eqb-true id e.0 q) own.0 in
        rw (first, with_row-absent es id one absent, with_row-absent es id other absent) refl
    by rest false q h = rw (rest h same) refl

pub edited-agree : (w : Widgets) (id : ℕ) (one other : Row → Row) (row : Row) → IsWidgets w → row_at w.entries id ≡ Some row → one row ≡ other row → edited id one w ≡ edited id other w
edited-agree w id one other row kept there same = ap (λ (es : List (ℕ × Row)). record w { entries = es }) (agree w.entries id one other row kept.numbered.own_numbers there same)

rules-fit : (axis : Axis) (row : Row) → fits_rules row ≡ true → list_all fits_rule (rules_of axis row) ≡ true
rules-fit Across row fits = (and_parts (list_all fits_rule row.column_rules) (list_all fits_rule row.row_rules) fits).0
rules-fit Down row fits = (and_parts (list_all fits_rule row.column_rules) (list_all fits_rule row.row_rules) fits).1

pub step_track-by : (axis : Axis) (desk : Desk) (client : ℕ) (name : List ℕ) (index : ℤ) (options : List (ConfigOption × ℤ)) (refusal : Option Refusal) → track_refusal desk client name index options ≡ refusal → step_track axis desk client name index options ≡ outcome desk refusal (track_effect axis desk client name index options)
unfolding step_track
step_track-by axis desk client name index options refusal is = ap (λ (r : Option Refusal). outcome desk r (track_effect axis desk client name index options)) is

module _ (axis : Axis) (w : Widgets) (client : ℕ) (name : List ℕ) (index : ℤ) (options : List (ConfigOption × ℤ)) (key at : ℕ) (ruled : IsRuled w client name index options key at) where
  -- the rule that was read is the row's
  read_is : (before : ℕ × ℕ) → option_map (λ (row : Row). rule_of (rules_of axis row) at) (row_at w.entries key) ≡ Some before → rule_of (rules_of axis ruled.found.row) at ≡ before
  read_is before read =
      let some : Some (rule_of (rules_of axis ruled.found.row) at) ≡ Some before = ap (option_map (λ (row : Row). rule_of (rules_of axis row) at)) (sym ruled.found.there) ∙ read in
      cc

  -- the size and the weight that a rule with options has
  pub given_fits : (before : ℕ × ℕ) → list_all fits_rules (rows_of w) ≡ true → option_map (λ (row : Row). rule_of (rules_of axis row) at) (row_at w.entries key) ≡ Some before → fits_rule (with_rule_options options before) ≡ true
  given_fits before fits read =
      options_fit options before ruled.fit (ap fits_rule (sym (read_is before read)) ∙ read_fits (rules_of axis ruled.found.row) (at - 1) (rules-fit axis ruled.found.row (row_fits w.entries key ruled.found.row fits ruled.found.there)))

  -- a Grid stays one
  pub still_grid : (new : Widgets) (rule : ℕ × ℕ) → new ≡ edited key (with_rule axis at rule) w → IsGrid new key
  still_grid new rule left =
      ap (λ (v : Widgets). row_kind v.entries key) left ∙ row_kind-with_row w.entries key (with_rule axis at rule) key (by axis) ∙ ap (option_map (λ (row : Row). row.kind)) ruled.found.there ∙ ap Some ruled.found.has
    where
      by : (axis : Axis) (row : Row) → (with_rule axis at rule row).kind ≡ row.kind
      by Across row = refl
      by Down row = refl

  pub track_did : (new : Widgets) (before rule : ℕ × ℕ) (reply : Reply) → IsWidgets w → option_map (λ (row : Row). rule_of (rules_of axis row) at) (row_at w.entries key) ≡ Some before → rule ≡ with_rule_options options before → new ≡ edited key (with_rule axis at rule) w → reply ≡ Done → Did (λ desk. step_track axis desk client name index options) w new reply
  track_did new before rule reply kept read made left replied =
      let row = ruled.found.row in
      let same : with_rule axis at rule row ≡ with_track axis at options row = ap (λ (r : ℕ × ℕ). with_rule axis at r row) (made ∙ ap (with_rule_options options) (sym (read_is before read))) in
      done_did (λ desk. step_track axis desk client name index options) w new client name key (with_track axis at options) reply Done replied
      (left ∙ edited-agree w key (with_rule axis at rule) (with_track axis at options) row kept ruled.found.there same)
      kept ruled.found.id (by axis)
      (λ desk. step_track-by axis (with_rows (rows_of w) desk) client name index options None (ruled.allowed desk) ∙ ap (λ (n : ℕ). (Done, with_rows (with_named client name (with_track axis n options) (rows_of w)) desk)) (sym ruled.same))
    where
      by : (axis : Axis) (row : Row) → node_of (with_track axis at options row) ≡ node_of row
      by Across row = refl
      by Down row = refl

-- a rule that is read as it was is one that was there
pub rule-same : (axis : Axis) (at : ℕ) (rule : ℕ × ℕ) (row : Row) → rule_of (rules_of axis (with_rule axis at rule row)) at ≡ rule_of (rules_of axis row) at → with_rule axis at rule row ≡ row
rule-same Across at rule row h = ap (λ (rules : List (ℕ × ℕ)). record row { column_rules = rules }) (slice_set-same row.column_rules (at - 1) rule (0, 0) h)
rule-same Down at rule row h = ap (λ (rules : List (ℕ × ℕ)). record row { row_rules = rules }) (slice_set-same row.row_rules (at - 1) rule (0, 0) h)
