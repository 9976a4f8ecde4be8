use Rattle.std.proofs.Common.{◌≡◌, ◌∷◌, [], ◌++◌, ◌+◌, None, refl, sym, ap, arith}
use Rattle.std.proofs.lemmas.Grind.{common_steps}
use Rattle.script_lines.specs.Payloads.{payload_of}
use Rattle.script_walk.specs.declared.end.End.TheVariants.{Done, WriteFault}
use Rattle.script_walk.specs.Reading.{IsReader, bare_item, kept}
use Rattle.script_walk.proofs.Keeping.{counted, reader_counted, kept-nothing, IsItem-bare, off_of_none, unread_line}
use Rattle.script_walk.proofs.Feeding.{item_done, fed_item, fed_off, fed_kept}
use Rattle.script_walk.proofs.reader.Reader.obey_line.Goals as goal

pub returns-then-wants-gt0 : goal.returns-then-wants-gt0
returns-then-wants-gt0 g c = fed_kept _ _ _ _ c.requires.ready.valid c.keep_line.ensures

pub returns-in-None : goal.returns-in-None
returns-in-None g c =
    let none = kept-nothing c.args.self.now c.requires.no_wants c.requires.no_line in
    fed_off _ _ _ _ _ c.requires.ready.valid (unread_line c.args.self.now c.args.line.now none c.requires.is_line (off_of_none c.args.line.now None refl c.in-None.ensures.all)) refl refl

pub returns-in-Ok : goal.returns-in-Ok
returns-in-Ok g c =
    let none = kept-nothing c.args.self.now c.requires.no_wants c.requires.no_line in
    let bare : payload_of c.in-Some.order ≡ 0 = grind (arith, common_steps) in
    let is = IsItem-bare c.args.line.now c.in-Some.order c.requires.is_line c.in-Some.ensures.order bare in
    let next = counted c.args.self.now (c.args.self.now.lines + 1) in
    let clear : ([] ≡ kept next) × IsReader next = (sym none, reader_counted c.args.self.now (c.args.self.now.lines + 1) c.requires.ready.reader) in
    fed_item _ Done (bare_item c.args.line.now) _ _ _ (ap (λ xs. xs ++ (c.args.line.now ++ 10 ∷ [])) none)
    (item_done _ Done (bare_item c.args.line.now) c.in-Some.order _ _ is c.in-Some.ensures.order c.in-Ok.ensures.told clear refl c.in-Ok.ensures.steady c.perform.ensures.still_valid)

pub returns-in-Err : goal.returns-in-Err
returns-in-Err g c =
    let none = kept-nothing c.args.self.now c.requires.no_wants c.requires.no_line in
    let bare : payload_of c.in-Some.order ≡ 0 = grind (arith, common_steps) in
    let is = IsItem-bare c.args.line.now c.in-Some.order c.requires.is_line c.in-Some.ensures.order bare in
    fed_item _ WriteFault (bare_item c.args.line.now) _ _ _ (ap (λ xs. xs ++ (c.args.line.now ++ 10 ∷ [])) none)
    (item_done _ WriteFault (bare_item c.args.line.now) c.in-Some.order _ _ is c.in-Some.ensures.order c.in-Err.ensures.told tt refl (c.in-Err.ensures.cause, c.perform.ensures.later) c.perform.ensures.still_valid)
