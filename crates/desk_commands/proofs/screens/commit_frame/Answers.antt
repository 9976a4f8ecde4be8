use Rattle.desk_model.specs.Screens.{framed}
use Rattle.desk_commands.proofs.Films.{film_changed, still_screen}
use Rattle.desk_commands.proofs.screens.commit_frame.Goals as goal

pub set_film-requires : goal.set_film-requires
set_film-requires c = still_screen c.args.tree.now c.take_film.new.self c.args.id.key c.requires.film c.take_film.ensures.taken

pub returns-clause-film : goal.returns-clause-film
returns-clause-film c =
    film_changed c.args.tree.now c.take_film.new.self c.set_film.new.self c.args.id.key c.requires.film c.in-Some.film c.commit.new.film (framed c.args.frame.now) c.requires.valid c.in-Some.ensures.film c.take_film.ensures.taken c.commit.ensures c.set_film.ensures.film
