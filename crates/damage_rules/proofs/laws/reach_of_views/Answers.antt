use Rattle.damage_rules.proofs.Views.{reach_of_views}
use Rattle.damage_rules.proofs.laws.reach_of_views.Goals as goal

pub returns : goal.returns
returns c = reach_of_views
