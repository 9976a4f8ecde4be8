use Rattle.script_lines.proofs.Telling.{asks-suits}
use Rattle.script_walk.specs.Framing.{item}
use Rattle.dope_run.proofs.Performings.{payload_size, performed_by_writing}
use Rattle.dope_run.proofs.Obeyings.{faults_later, faults_rose, faults_steady}
use Rattle.dope_run.proofs.player.PlayerPerformer.perform.Goals as goal

pub obey-requires-clause-suits : goal.obey-requires-clause-suits
obey-requires-clause-suits g c = asks-suits c.args._line.now c.args.order.now c.requires.asked

pub obey-requires-clause-payload : goal.obey-requires-clause-payload
obey-requires-clause-payload g c = payload_size (item c.args._line.now c.args.payload.now) c.args.order.now c.requires.is_item c.requires.asked

pub returns-clause-told : goal.returns-clause-told
returns-clause-told g c = performed_by_writing c.obey.result c.args.order.now (item c.args._line.now c.args.payload.now) _ _ c.obey.ensures

pub returns-clause-later : goal.returns-clause-later
returns-clause-later g c = faults_later c.obey.result _ _ c.obey.ensures.faults

pub returns-clause-cause : goal.returns-clause-cause
returns-clause-cause g c = faults_rose c.obey.result _ _ c.obey.ensures.faults

pub returns-clause-steady : goal.returns-clause-steady
returns-clause-steady g c = faults_steady c.obey.result _ _ c.obey.ensures.faults
