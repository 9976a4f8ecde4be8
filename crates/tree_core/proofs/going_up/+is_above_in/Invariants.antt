use Rattle.tree_core.proofs.going_up.+is_above_in.Given as goal

abbrev pub decreases-is_above_in : goal.decreases-is_above_in
decreases-is_above_in l = l.most
