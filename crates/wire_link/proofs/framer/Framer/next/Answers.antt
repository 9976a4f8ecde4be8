use Rattle.std.proofs.Common.{refl, ◌∙◌, sym}
use Rattle.wire_link.proofs.Cuttings.{too_long}
use Rattle.wire_link.proofs.framer.Framer.next.Goals as goal

pub returns-then-len-eq-LINE_ROOM : goal.returns-then-len-eq-LINE_ROOM
returns-then-len-eq-LINE_ROOM c =
    (too_long c.self.inside.stage c.self.inside.line c.self.inside.payload c.self.inside.last_line c.self.inside.last_payload c.args.self.now c.self.view_is c.in-Open.is c.self.invariant (sym c.len.ensures.count ∙ c.if-len-eq-LINE_ROOM.true), refl)
