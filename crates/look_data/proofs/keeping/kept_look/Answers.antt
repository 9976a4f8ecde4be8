use Rattle.look_data.specs.Data.{seen_in}
use Rattle.look_data.proofs.KeptLemmas.{kept-dead, kept-hidden, kept-shown}
use Rattle.look_data.proofs.keeping.kept_look.Goals as goal

pub returns-then-not-is_live : goal.returns-then-not-is_live
returns-then-not-is_live c = kept-dead c.args.view.now c.args.id.key c.if-not-is_live.ensures.live

pub returns-then-not-is_shown : goal.returns-then-not-is_shown
returns-then-not-is_shown c = kept-hidden c.args.view.now c.args.id.key c.if-not-is_shown.ensures

pub returns : goal.returns
returns c = kept-shown c.args.view.now c.args.id.key (seen_in c.look_data.result) c.if-not-is_shown.ensures c.look_data.ensures
