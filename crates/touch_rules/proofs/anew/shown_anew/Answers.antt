use Rattle.std.proofs.Common.{true, false}
use Rattle.touch_rules.proofs.AnewLemmas.{shown-where}
use Rattle.touch_rules.specs.Telling.{number_anew}
use Rattle.touch_rules.proofs.anew.shown_anew.Goals as goal

pub returns-then-is_shown : goal.returns-then-is_shown
returns-then-is_shown c = shown-where c.args.view.now.tree.now c.args.view.now.stack.now c.in-Some.id.key (number_anew c.args.view.now.tree.now c.args.client c.args.command.now c.args.payload.now) true c.in-Some.ensures.anew c.if-is_shown.ensures

pub returns : goal.returns
returns c = shown-where c.args.view.now.tree.now c.args.view.now.stack.now c.in-Some.id.key (number_anew c.args.view.now.tree.now c.args.client c.args.command.now c.args.payload.now) false c.in-Some.ensures.anew c.if-is_shown.ensures
