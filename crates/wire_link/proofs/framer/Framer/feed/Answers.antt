use Rattle.wire_link.proofs.Cuttings.{waits_for, whole_waits, bad_waits}
use Rattle.wire_link.proofs.framer.Framer.feed.Goals as goal

pub returns-in-Filling-clause-some : goal.returns-in-Filling-clause-some
returns-in-Filling-clause-some c = λ is some.
    c.feed_payload.ensures.some (waits_for c.self.inside.stage c.in-Filling.size c.self.inside.line c.self.inside.payload c.self.inside.last_line c.self.inside.last_payload c.args.self.now c.self.view_is c.in-Filling.is c.self.invariant is) some

pub returns-in-Whole-clause-some : goal.returns-in-Whole-clause-some
returns-in-Whole-clause-some c = λ is some.
    absurd (whole_waits c.self.inside.stage c.self.inside.line c.self.inside.payload c.self.inside.last_line c.self.inside.last_payload c.args.self.now c.self.view_is c.in-Whole.is c.self.invariant is)

pub returns-in-Bad-clause-some : goal.returns-in-Bad-clause-some
returns-in-Bad-clause-some c = λ is some.
    absurd (bad_waits c.self.inside.stage _ c.self.inside.line c.self.inside.payload c.self.inside.last_line c.self.inside.last_payload c.args.self.now c.self.view_is c.in-Bad.is c.self.invariant is)
