use Rattle.std.proofs.Common.{ℕ, ◌*◌, not, ap, ap₂, ◌∙◌}
use Rattle.desk_model.specs.Screens.{is_screen}
use Rattle.desk_commands.proofs.Films.{read-row, screen-kind}
use Rattle.desk_commands.proofs.screens.screen_of.Goals as goal

pub returns-in-Err-clause-screen : goal.returns-in-Err-clause-screen
returns-in-Err-clause-screen c = λ desk. c.in-Err.ensures.found is_screen _ screen-kind

pub returns-clause-screen : goal.returns-clause-screen
returns-clause-screen c =
    let tree = c.args.tree.now in
    let found = c.in-Ok.ensures.found in
    record {
      found = found;
      film = c.in-Some.film.now;
      has = read-row (λ row. row.film) tree c.in-Ok.id.key found.row _ found.there c.in-Some.ensures.film;
      size = c.if-got-want.false ∙ ap₂ (λ (w h : ℕ). w * h) c.width.ensures.width c.height.ensures.height;
      tells = ap not c.keeps_film-changed.ensures;
    }
