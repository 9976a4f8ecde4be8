use Rattle.std.proofs.Common.{◌∙◌, ap}
use Rattle.scene_core.specs.Children.{film_size}
use Rattle.scene_core.proofs.Numbered.{read}
use Rattle.scene_core.proofs.own.film_size.Goals as goal

pub returns-in-Some-clause-w : goal.returns-in-Some-clause-w
returns-in-Some-clause-w c = c.width.ensures.width ∙ ap (λ o. (film_size o).0) (read (λ row. row.film) c.args.tree.now c.args.id.key _ c.in-Some.ensures.film)

pub returns-in-Some-clause-h : goal.returns-in-Some-clause-h
returns-in-Some-clause-h c = c.height.ensures.height ∙ ap (λ o. (film_size o).1) (read (λ row. row.film) c.args.tree.now c.args.id.key _ c.in-Some.ensures.film)

pub returns-in-None-clause-w : goal.returns-in-None-clause-w
returns-in-None-clause-w c = ap (λ o. (film_size o).0) (read (λ row. row.film) c.args.tree.now c.args.id.key _ c.in-None.ensures.film)

pub returns-in-None-clause-h : goal.returns-in-None-clause-h
returns-in-None-clause-h c = ap (λ o. (film_size o).1) (read (λ row. row.film) c.args.tree.now c.args.id.key _ c.in-None.ensures.film)
