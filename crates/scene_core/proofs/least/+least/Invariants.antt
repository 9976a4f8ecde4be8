use Rattle.std.proofs.Common.{◌+◌, ◌*◌, take, map}
use Rattle.scene_model.specs.declared.axis.Axis.TheVariants.{Across, Down}
use Rattle.scene_core.specs.Children.{child_for}
use Rattle.scene_core.specs.Known.{AreKnown}
use Rattle.scene_core.specs.Measured.{AreAsked, needs_seen}
use Rattle.scene_core.proofs.least.+least.Given as goal

abbrev pub decreases-as_child : goal.decreases-as_child
decreases-as_child l = 7 * l.most + 6

abbrev pub decreases-least : goal.decreases-least
decreases-least l = 7 * l.most + 5

abbrev pub decreases-fresh : goal.decreases-fresh
decreases-fresh l = 7 * l.most + 4

abbrev pub decreases-grid_size : goal.decreases-grid_size
decreases-grid_size l = 7 * l.most + 3

abbrev pub decreases-grid_tracks : goal.decreases-grid_tracks
decreases-grid_tracks l = 7 * l.most + 2

abbrev pub decreases-fresh_tracks : goal.decreases-fresh_tracks
decreases-fresh_tracks l = 7 * l.most + 1

abbrev pub decreases-asked_by : goal.decreases-asked_by
decreases-asked_by l = 7 * l.most

abbrev pub invariant-asked_by-loop-key : goal.invariant-asked_by-loop-key
invariant-asked_by-loop-key l = record {
  across : AreAsked (needs_seen Across (map (child_for l.tree) (take l.key-index l.keys))) l.across;
  down : AreAsked (needs_seen Down (map (child_for l.tree) (take l.key-index l.keys))) l.down;
  known : AreKnown l.tree l.known;
}
