use Rattle.std.proofs.Common.{sym, ap, ◌∙◌}
use Rattle.geom_core.specs.declared.rectangle.Rect.{Rect}
use Rattle.scene_model.specs.Bands.{lying_at}
use Rattle.painter_core.specs.Stage.{layers_of}
use Rattle.painter_core.proofs.RootLemmas.{kept_place}
use Rattle.painter_core.proofs.bands.film_at.Goals as goal

pub returns-in-Some-clause-place : goal.returns-in-Some-clause-place
returns-in-Some-clause-place c there =
    let view = c.args.view.now in
    let place = kept_place view c.args.id.key c.in-Some.place c.requires.kept there (sym c.in-Some.is ∙ c.place_of.ensures.place) in
    c.lying_at.ensures
    ∙ ap {B = Rect} (λ (r : Rect). lying_at r c.width-width.result c.height-height.result) place
    ∙ ap {B = Rect} (λ n. lying_at ((layers_of view).rect c.args.id.key) n c.height-height.result) c.width-width.ensures.width
    ∙ ap {B = Rect} (λ n. lying_at ((layers_of view).rect c.args.id.key) c.args.film.now.width n) c.height-height.ensures.height
