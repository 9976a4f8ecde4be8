use Rattle.shot_core.proofs.Bare.{IsShot-window}
use Rattle.shot_core.proofs.shot.Shot.put_window.Goals as goal

pub invariant_of-self : goal.invariant_of-self
invariant_of-self c =
    IsShot-window _ c.args.self.now c.args.window c.args.place _ c.self.view_is c.push.ensures.items c.requires.few c.requires.absent c.self.invariant

pub returns-clause-valid : goal.returns-clause-valid
returns-clause-valid c =
    IsShot-window _ c.args.self.now c.args.window c.args.place _ c.self.view_is c.push.ensures.items c.requires.few c.requires.absent c.self.invariant
