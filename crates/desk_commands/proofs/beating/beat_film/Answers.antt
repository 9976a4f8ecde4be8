use Rattle.vscreen_core.specs.Changes.{beaten}
use Rattle.desk_commands.proofs.Films.{film_changed, still_screen}
use Rattle.desk_commands.proofs.beating.beat_film.Goals as goal

pub set_film-requires : goal.set_film-requires
set_film-requires c = still_screen c.args.tree.now c.take_film.new.self c.args.id.key c.requires.film.own c.take_film.ensures.taken

pub returns-clause-film : goal.returns-clause-film
returns-clause-film c =
    film_changed c.args.tree.now c.take_film.new.self c.set_film.new.self c.args.id.key c.requires.film.own c.in-Some.film c.beat-band.new.self beaten c.requires.valid c.in-Some.ensures.film c.take_film.ensures.taken c.beat-band.ensures.film c.set_film.ensures.film
