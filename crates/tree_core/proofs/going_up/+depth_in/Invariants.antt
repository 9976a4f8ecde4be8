use Rattle.tree_core.proofs.going_up.+depth_in.Given as goal

abbrev pub decreases-depth_in : goal.decreases-depth_in
decreases-depth_in l = l.most
