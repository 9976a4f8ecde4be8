use Rattle.std.proofs.Common.{◌≡◌, ℤ, ◌&&◌, nat_eq, nat_le, Some, ap, ◌∙◌, subst, to_z, of_z, w32}
use Rattle.std.proofs.lemmas.Int.{to_z-of_z}
use Rattle.std.proofs.lemmas.Bool.{leb-true, and_parts}
use Rattle.kind_core.specs.declared.kinds.Kind.TheVariants.{Grid}
use Rattle.scene_model.specs.Tracks.{rules_of, rule_of}
use Rattle.widget_model.specs.Rows.{Row}
use Rattle.widget_model.specs.Widgets.{rows_of}
use Rattle.widget_model.specs.Fitting.{fits_rule}
use Rattle.desk_model.specs.Desk.{Desk}
use Rattle.desk_model.specs.Tracks.{with_rule, track_refusal, step_track}
use Rattle.desk_commands.specs.Effects.{with_rows}
use Rattle.desk_commands.specs.Tracks.{IsRuled}
use Rattle.desk_commands.proofs.Effects.{refused_did}
use Rattle.desk_commands.proofs.TrackSteps.{step_track-by, given_fits, track_did, still_grid, rule-same}
use Rattle.desk_commands.proofs.Changes.{tells_read, rule_eq-true, rule_eq-false}
use Rattle.desk_commands.proofs.tracks.rule_track.Goals as goal

pub returns-in-Err-clause-did : goal.returns-in-Err-clause-did
returns-in-Err-clause-did c =
    let plain : to_z w32 (of_z w32 c.args.index) ≡ c.args.index = to_z-of_z w32 c.args.index c.ranges.index in
    let P : ℤ → Type 0 = λ index. (desk : Desk) → track_refusal (with_rows (rows_of c.args.tree.now) desk) c.args.client c.args.name.now index c.args.options.now ≡ Some c.in-Err.refusal in
    refused_did (λ desk. step_track c.args.axis desk c.args.client c.args.name.now c.args.index c.args.options.now) c.args.tree.now c.refused.result.reply c.in-Err.refusal c.refused.ensures.reply
    (λ desk. step_track-by c.args.axis (with_rows (rows_of c.args.tree.now) desk) c.args.client c.args.name.now c.args.index c.args.options.now (Some c.in-Err.refusal) (subst P plain c.in-Err.ensures.ruled desk))

pub set_track_rule-requires-clause-size : goal.set_track_rule-requires-clause-size
set_track_rule-requires-clause-size c =
    let plain : to_z w32 (of_z w32 c.args.index) ≡ c.args.index = to_z-of_z w32 c.args.index c.ranges.index in
    let P : ℤ → Type 0 = λ index. IsRuled c.args.tree.now c.args.client c.args.name.now index c.args.options.now c.in-Ok.ruled.id.key c.in-Ok.ruled.at in
    let ruled = subst P plain c.in-Ok.ensures.ruled in
    let fits = ap fits_rule c.with_rule_options-rule.ensures ∙ given_fits c.args.axis c.args.tree.now c.args.client c.args.name.now c.args.index c.args.options.now c.in-Ok.ruled.id.key c.in-Ok.ruled.at ruled c.track_rule-before.result c.requires c.track_rule-before.ensures.rule in
    leb-true c.with_rule_options-rule.result.0 1024 (and_parts (nat_le c.with_rule_options-rule.result.0 1024) (nat_le c.with_rule_options-rule.result.1 1000) fits).0

pub set_track_rule-requires-clause-weight : goal.set_track_rule-requires-clause-weight
set_track_rule-requires-clause-weight c =
    let plain : to_z w32 (of_z w32 c.args.index) ≡ c.args.index = to_z-of_z w32 c.args.index c.ranges.index in
    let P : ℤ → Type 0 = λ index. IsRuled c.args.tree.now c.args.client c.args.name.now index c.args.options.now c.in-Ok.ruled.id.key c.in-Ok.ruled.at in
    let ruled = subst P plain c.in-Ok.ensures.ruled in
    let fits = ap fits_rule c.with_rule_options-rule.ensures ∙ given_fits c.args.axis c.args.tree.now c.args.client c.args.name.now c.args.index c.args.options.now c.in-Ok.ruled.id.key c.in-Ok.ruled.at ruled c.track_rule-before.result c.requires c.track_rule-before.ensures.rule in
    leb-true c.with_rule_options-rule.result.1 1000 (and_parts (nat_le c.with_rule_options-rule.result.0 1024) (nat_le c.with_rule_options-rule.result.1 1000) fits).1

pub track_rule-requires-clause-grid : goal.track_rule-requires-clause-grid
track_rule-requires-clause-grid c =
    let plain : to_z w32 (of_z w32 c.args.index) ≡ c.args.index = to_z-of_z w32 c.args.index c.ranges.index in
    let P : ℤ → Type 0 = λ index. IsRuled c.args.tree.now c.args.client c.args.name.now index c.args.options.now c.in-Ok.ruled.id.key c.in-Ok.ruled.at in
    let ruled = subst P plain c.in-Ok.ensures.ruled in
    still_grid c.args.axis c.args.tree.now c.args.client c.args.name.now c.args.index c.args.options.now c.in-Ok.ruled.id.key c.in-Ok.ruled.at ruled c.set_track_rule.new.tree c.with_rule_options-rule.result c.set_track_rule.ensures.rule

pub returns-clause-did : goal.returns-clause-did
returns-clause-did c =
    let plain : to_z w32 (of_z w32 c.args.index) ≡ c.args.index = to_z-of_z w32 c.args.index c.ranges.index in
    let P : ℤ → Type 0 = λ index. IsRuled c.args.tree.now c.args.client c.args.name.now index c.args.options.now c.in-Ok.ruled.id.key c.in-Ok.ruled.at in
    let ruled = subst P plain c.in-Ok.ensures.ruled in
    track_did c.args.axis c.args.tree.now c.args.client c.args.name.now c.args.index c.args.options.now c.in-Ok.ruled.id.key c.in-Ok.ruled.at ruled c.set_track_rule.new.tree c.track_rule-before.result c.with_rule_options-rule.result c.done.result.reply c.grid_to_rule.ensures.valid c.track_rule-before.ensures.rule c.with_rule_options-rule.ensures c.set_track_rule.ensures.rule c.done.ensures.reply

pub returns-clause-tells : goal.returns-clause-tells
returns-clause-tells c =
    let plain : to_z w32 (of_z w32 c.args.index) ≡ c.args.index = to_z-of_z w32 c.args.index c.ranges.index in
    let P : ℤ → Type 0 = λ index. IsRuled c.args.tree.now c.args.client c.args.name.now index c.args.options.now c.in-Ok.ruled.id.key c.in-Ok.ruled.at in
    let ruled = subst P plain c.in-Ok.ensures.ruled in
    let axis = c.args.axis in
    let at = c.in-Ok.ruled.at in
    let rule = c.with_rule_options-rule.result in
    let before = c.track_rule-before.result in
    let after = c.track_rule.result in
    tells_read (λ (row : Row). rule_of (rules_of axis row) at) c.args.tree.now c.set_track_rule.new.tree c.args.client c.args.name.now c.in-Ok.ruled.id.key Grid (with_rule axis at rule) before after (nat_eq before.0 after.0 && nat_eq before.1 after.1) c.done.result.changed c.grid_to_rule.ensures.valid ruled.found c.set_track_rule.ensures.rule c.track_rule-before.ensures.rule c.track_rule.ensures.rule (c.done.ensures.changed ∙ c.ne.ensures) (rule_eq-true before after) (rule_eq-false before after) (rule-same axis at rule)
