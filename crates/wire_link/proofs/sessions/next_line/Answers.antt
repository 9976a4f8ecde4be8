use Rattle.std.proofs.Common.{◌∙◌, ap, sym, append-nil}
use Rattle.outside_io.proofs.Gathered.{Puts-none}
use Rattle.wire_link.specs.Framing.{Framed}
use Rattle.wire_link.proofs.Goings.{went_stay, went_line, stopped_last, stopped_here, line_spelled}
use Rattle.wire_link.proofs.sessions.next_line.Goals as goal

pub returns-in-More-clause-told : goal.returns-in-More-clause-told
returns-in-More-clause-told g c =
    went_stay _ _ c.next.new.self.waiting (ap (λ (f : Framed). f.waiting) c.in-More.ensures.1 ∙ sym (append-nil c.args.framer.now.waiting))

pub returns-in-Ok-clause-told : goal.returns-in-Ok-clause-told
returns-in-Ok-clause-told g c =
    went_line _ _ c.args.framer.now.waiting c.next.new.self.waiting c.next.new.self.line c.next.new.self.payload (line_spelled c.args.framer.now c.next.new.self c.in-Line.ensures) c.in-Ok.ensures.told

pub returns-in-Err-clause-told : goal.returns-in-Err-clause-told
returns-in-Err-clause-told g c =
    stopped_last c.in-Err.end _ _ c.args.framer.now.waiting c.next.new.self.waiting c.next.new.self.line c.next.new.self.payload (line_spelled c.args.framer.now c.next.new.self c.in-Line.ensures) c.in-Err.ensures.told

pub returns-in-Ok-exchange-clause-told : goal.returns-in-Ok-exchange-clause-told
returns-in-Ok-exchange-clause-told g c =
    went_line _ _ c.args.framer.now.waiting c.next.new.self.waiting c.next.new.self.line c.next.new.self.payload c.in-Payload.ensures.spelled c.in-Ok-exchange.ensures.told

pub returns-in-Err-exchange-clause-told : goal.returns-in-Err-exchange-clause-told
returns-in-Err-exchange-clause-told g c =
    stopped_last c.in-Err-exchange.end _ _ c.args.framer.now.waiting c.next.new.self.waiting c.next.new.self.line c.next.new.self.payload c.in-Payload.ensures.spelled c.in-Err-exchange.ensures.told

pub returns-in-TooLong-clause-told : goal.returns-in-TooLong-clause-told
returns-in-TooLong-clause-told g c =
    stopped_here _ _ c.next.new.self.waiting tt (record { still = c.requires.still; long = c.in-TooLong.ensures.0; number = c.saturating_add.ensures }) (Puts-none _)

pub returns-in-BadFrame-clause-told : goal.returns-in-BadFrame-clause-told
returns-in-BadFrame-clause-told g c =
    stopped_here _ _ c.next.new.self.waiting tt (record { still = c.requires.still; bad = c.in-BadFrame.ensures.0; number = c.saturating_add-in-BadFrame.ensures }) (Puts-none _)
