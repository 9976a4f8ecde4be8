use Rattle.std.proofs.Common.{ap, ◌∙◌}
use Rattle.cmd_words.specs.declared.replies.Reply.TheVariants.{Refused}
use Rattle.desk_commands.proofs.WidgetSteps.{make_did, make_refused}
use Rattle.desk_commands.proofs.widgets.make.Goals as goal

pub returns-in-Ok-clause-did : goal.returns-in-Ok-clause-did
returns-in-Ok-clause-did c =
    make_did c.args.tree.now c.add.new.self c.args.client c.args.name.now c.args.kind c.in-Ok.field-0.key c.done.result.reply c.done.ensures.reply c.in-Ok.ensures.ok c.in-Ok.ensures.allowed

pub returns-in-Err-clause-did : goal.returns-in-Err-clause-did
returns-in-Err-clause-did c =
    make_refused c.args.tree.now c.add.new.self c.args.client c.args.name.now c.args.kind c.in-Err.refusal c.refused.result.reply (c.refused.ensures.reply ∙ ap Refused c.refusal_of_add.ensures) c.in-Err.ensures.err c.in-Err.ensures.refused
