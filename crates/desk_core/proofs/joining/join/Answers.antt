use Rattle.desk_core.proofs.Comings.{added_new, joined-again}
use Rattle.desk_core.proofs.joining.join.Goals as goal

pub returns-in-Ok-join_client-clause-ok : goal.returns-in-Ok-join_client-clause-ok
returns-in-Ok-join_client-clause-ok c = (added_new c.args.clients.now c.join.new.self c.args.client c.in-Ok.events c.in-Ok.ensures.ring c.in-Ok-join.ensures.ok, c.in-Ok-join_client.ensures.ok)

pub returns-in-Err-join_client-clause-err : goal.returns-in-Err-join_client-clause-err
returns-in-Err-join_client-clause-err c =
    (joined-again c.args.clients.now c.join.new.self c.leave.new.self c.args.client c.in-Ok.events c.requires.new_client c.in-Ok-join.ensures.ok c.leave.ensures.left, c.in-Err-join_client.ensures.err)
