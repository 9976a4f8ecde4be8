use Rattle.wire_link.proofs.Feeds.{first_feed}
use Rattle.wire_link.proofs.framer.feed_in.Goals as goal

pub returns : goal.returns
returns c = first_feed c.memchr.result c.args.bytes.now c.memchr.ensures
