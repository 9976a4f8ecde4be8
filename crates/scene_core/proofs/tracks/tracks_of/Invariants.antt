use Rattle.std.proofs.Common.{◌≡◌, max, take, map, length}
use Rattle.std.specs.List.{range_with_len}
use Rattle.scene_model.specs.Tracks.{track_least, last_asked, last_ruled, rule_of, rules_of}
use Rattle.scene_core.specs.Children.{row_for, needs_for}
use Rattle.scene_core.proofs.tracks.tracks_of.Given as goal

abbrev pub invariant-loop-index : goal.invariant-loop-index
invariant-loop-index l =
    let needs = needs_for l.axis l.tree l.id.key in
    let rules = rules_of l.axis (row_for l.tree l.id.key) in
    record {
      long : length l.tracks.least ≡ 16;
      heavy : length l.tracks.weights ≡ 16;
      least : take l.index l.tracks.least ≡ map (track_least needs rules) (range_with_len 1 l.index);
      weights : take l.index l.tracks.weights ≡ map (λ track. (rule_of rules track).1) (range_with_len 1 l.index);
      used : l.tracks.used ≡ max (last_asked needs) (last_ruled 1 (take l.index rules));
    }
