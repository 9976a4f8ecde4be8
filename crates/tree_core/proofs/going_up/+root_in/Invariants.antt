use Rattle.tree_core.proofs.going_up.+root_in.Given as goal

abbrev pub decreases-root_in : goal.decreases-root_in
decreases-root_in l = l.most
