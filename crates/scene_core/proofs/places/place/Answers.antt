use Rattle.std.proofs.Common.{◌≡◌, ◌∙◌, ℕ, true, Some, sym, ap, subst}
use Rattle.std.specs.Option.{option_map}
use Rattle.widget_model.specs.Trees.{ends_within}
use Rattle.widget_model.specs.Widgets.{rows_of}
use Rattle.scene_model.specs.Placing.{place_in}
use Rattle.scene_core.specs.Children.{row_for}
use Rattle.scene_core.proofs.Numbered.{live-there}
use Rattle.scene_core.proofs.Roots.{ends-live}
use Rattle.scene_core.proofs.LeastSteps.{known-none}
use Rattle.scene_core.proofs.places.place.Goals as goal

pub place_up-requires-clause-ends : goal.place_up-requires-clause-ends
place_up-requires-clause-ends c =
    let row = row_for c.args.tree.now c.args.id.key in
    subst (λ (n : ℕ). ends_within n (rows_of c.args.tree.now) row.client row.name ≡ true) (sym c.most_levels.ensures) (ends-live c.args.tree.now c.args.id.key c.requires.valid c.requires.live)

pub returns : goal.returns
returns c = ap (option_map (place_in (rows_of c.args.tree.now))) (live-there c.args.tree.now c.args.id.key c.requires.live) ∙ ap Some (sym c.place_up.ensures.place)

pub place_up-requires-clause-known : goal.place_up-requires-clause-known
place_up-requires-clause-known c = known-none c.args.tree.now c.new-known.result c.new-known.ensures.sizes c.new-known.ensures.tracks
