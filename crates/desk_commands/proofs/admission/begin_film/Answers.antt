use Rattle.vscreen_core.specs.Changes.{begun}
use Rattle.desk_commands.proofs.Films.{film_changed, still_screen}
use Rattle.desk_commands.proofs.admission.begin_film.Goals as goal

pub set_film-requires : goal.set_film-requires
set_film-requires c = still_screen c.args.tree.now c.take_film.new.self c.args.id.key c.requires.film c.take_film.ensures.taken

pub returns-clause-film : goal.returns-clause-film
returns-clause-film c =
    film_changed c.args.tree.now c.take_film.new.self c.set_film.new.self c.args.id.key c.requires.film c.in-Some.film c.begin.new.self (λ film. begun film c.args.period) c.requires.valid c.in-Some.ensures.film c.take_film.ensures.taken c.begin.ensures.film c.set_film.ensures.film
