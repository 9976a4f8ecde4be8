use Rattle.std.proofs.Common.{◌∙◌, sym}
use Rattle.scene_core.proofs.Numbered.{kind-grid}
use Rattle.scene_core.proofs.least.tracks_for.Goals as goal

pub grid_tracks-requires-clause-grid : goal.grid_tracks-requires-clause-grid
grid_tracks-requires-clause-grid c = kind-grid c.args.tree.now c.args.id.key c.requires.live (sym c.kind_of.ensures ∙ c.in-Grid.is)

pub returns-in_default-clause-tracks : goal.returns-in_default-clause-tracks
returns-in_default-clause-tracks c = λ grid. absurd (c.in_default.not-Grid (c.kind_of.ensures ∙ grid))
