use Rattle.hall_core.proofs.tape.Tape.append.Given as goal

abbrev pub ghosts-add : goal.ghosts-add
ghosts-add a = record { entry = a.entry.now }
