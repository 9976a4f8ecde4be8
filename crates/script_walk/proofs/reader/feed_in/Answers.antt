use Rattle.script_walk.proofs.Keeping.{first_feed}
use Rattle.script_walk.proofs.reader.feed_in.Goals as goal

pub returns : goal.returns
returns c = first_feed c.memchr.result c.args.bytes.now c.memchr.ensures
