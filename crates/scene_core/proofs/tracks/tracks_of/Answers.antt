use Rattle.std.proofs.Common.{◌≡◌, ◌∙◌, ap, arith, max, ◌+◌, ◌<◌, get_or, length, subst, take, map}
use Rattle.std.proofs.lemmas.List.{length-set}
use Rattle.std.specs.List.{range_with_len}
use Rattle.scene_model.specs.Tracks.{track_least, last_asked, last_ruled, rule_of, rules_of}
use Rattle.scene_model.proofs.Leasts.{needs_of-fit, rules_of-fit}
use Rattle.scene_model.proofs.FitWidgets.{widgets_are_fit}
use Rattle.scene_core.specs.Children.{row_for, needs_for}
use Rattle.scene_core.proofs.Numbered.{grid-live}
use Rattle.scene_core.proofs.TrackSteps.{made_more, used_more, tracks_whole}
use Rattle.scene_core.proofs.LeastSteps.{rules-sixteen, row-fit}
use Rattle.scene_core.proofs.tracks.tracks_of.Goals as goal

pub loop-index-preserved : goal.loop-index-preserved
loop-index-preserved c =
    let needs = needs_for c.args.axis c.args.tree.now c.args.id.key in
    let rules = rules_of c.args.axis (row_for c.args.tree.now c.args.id.key) in
    let live = grid-live c.args.tree.now c.args.id.key c.requires.grid in
    let sixteen = rules-sixteen c.args.tree.now c.args.id.key c.args.axis c.requires.valid live in
    let i = c.loop-index.index in
    let less : i < 16 = c.loop-index-test.true in
    let at : max c.rule_of-rule.result.0 (get_or c.args.asked.now.rooms i 0) ≡ track_least needs rules (i + 1) =
    ap (λ r. max r.0 (get_or c.args.asked.now.rooms i 0)) c.rule_of-rule.ensures ∙ ap (λ n. max (rule_of rules (i + 1)).0 n) (c.requires.asked.rooms i less) in
    record {
      long = ap length c.set_track.ensures.least ∙ length-set c.loop-index.tracks.least i _ ∙ c.loop-index.invariant.long;
      heavy = ap length c.set_track.ensures.weights ∙ length-set c.loop-index.tracks.weights i _ ∙ c.loop-index.invariant.heavy;
      least = made_more (track_least needs rules) c.loop-index.tracks.least c.set_track.new.tracks.least i _ (omega (arith, c.loop-index.invariant.long)) c.set_track.ensures.least at c.loop-index.invariant.least;
      weights = made_more (λ track. (rule_of rules track).1) c.loop-index.tracks.weights c.set_track.new.tracks.weights i _ (omega (arith, c.loop-index.invariant.heavy)) c.set_track.ensures.weights (ap (λ r. r.1) c.rule_of-rule.ensures) c.loop-index.invariant.weights;
      used = used_more (last_asked needs) rules i c.loop-index.tracks.used c.set_track.new.tracks.used c.rule_of-rule.result (omega (arith, sixteen)) c.rule_of-rule.ensures c.set_track.ensures.used c.loop-index.invariant.used;
    }

pub returns : goal.returns
returns c =
    let needs = needs_for c.args.axis c.args.tree.now c.args.id.key in
    let rules = rules_of c.args.axis (row_for c.args.tree.now c.args.id.key) in
    let live = grid-live c.args.tree.now c.args.id.key c.requires.grid in
    let sixteen = rules-sixteen c.args.tree.now c.args.id.key c.args.axis c.requires.valid live in
    let end : c.loop-index.index ≡ 16 = omega arith in
    tracks_whole needs rules c.loop-index.tracks c.loop-index.invariant.long c.loop-index.invariant.heavy sixteen
    (needs_of-fit _ c.args.axis (row_for c.args.tree.now c.args.id.key) (widgets_are_fit c.args.tree.now c.requires.valid))
    (rules_of-fit c.args.axis (row_for c.args.tree.now c.args.id.key) (row-fit c.args.tree.now c.args.id.key c.requires.valid live))
    (subst (λ n. take n c.loop-index.tracks.least ≡ map (track_least needs rules) (range_with_len 1 n)) end c.loop-index.invariant.least)
    (subst (λ n. take n c.loop-index.tracks.weights ≡ map (λ track. (rule_of rules track).1) (range_with_len 1 n)) end c.loop-index.invariant.weights)
    (subst (λ n. c.loop-index.tracks.used ≡ max (last_asked needs) (last_ruled 1 (take n rules))) end c.loop-index.invariant.used)
