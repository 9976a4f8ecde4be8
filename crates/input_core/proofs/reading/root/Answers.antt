use Rattle.input_core.proofs.Keys.{key_seen-root}
use Rattle.input_core.proofs.reading.root.Goals as goal

pub returns-clause-key : goal.returns-clause-key
returns-clause-key c =
    key_seen-root c.args.tree.now c.args.id.key c.root.result c.requires.widgets c.requires.live c.root.ensures.live c.root.ensures.found
