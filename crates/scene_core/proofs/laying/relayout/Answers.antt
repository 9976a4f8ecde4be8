use Rattle.std.proofs.Common.{◌∙◌, ℕ, subst}
use Rattle.scene_core.specs.Laid.{AreLaid}
use Rattle.scene_core.proofs.Tops.{root-window, window-open}
use Rattle.scene_core.proofs.LaySteps.{has-places}
use Rattle.scene_core.proofs.LeastSteps.{known-none}
use Rattle.scene_core.proofs.laying.relayout.Goals as goal

pub returns-clause-placed : goal.returns-clause-placed
returns-clause-placed c =
    has-places c.args.tree.now c.lay.new.tree c.args.window.key c.requires.valid
    (subst (λ (n : ℕ). AreLaid n c.args.tree.now c.args.window.key c.lay.new.tree) c.most_levels.ensures c.lay.ensures.laid)

pub returns-clause-others : goal.returns-clause-others
returns-clause-others c = λ other apart.
    c.lay.ensures.laid.replaced.others other (λ same. apart (same ∙ root-window c.args.tree.now c.args.window.key c.requires.valid (window-open c.args.tree.now c.args.window.key c.requires.window)))

pub lay-requires-clause-known : goal.lay-requires-clause-known
lay-requires-clause-known c = known-none c.args.tree.now c.new-known.result c.new-known.ensures.sizes c.new-known.ensures.tracks
