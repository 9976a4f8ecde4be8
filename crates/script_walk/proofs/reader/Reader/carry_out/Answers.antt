use Rattle.std.proofs.Common.{◌≡◌, ◌+◌, ◌∷◌, [], ◌++◌, refl, sym, ap}
use Rattle.script_walk.specs.declared.end.End.TheVariants.{Done}
use Rattle.script_walk.specs.Reading.{IsReader, bare_item, kept}
use Rattle.script_walk.proofs.Keeping.{counted, reader_counted, kept-nothing}
use Rattle.script_walk.proofs.Feeding.{fed_item, line_silent}
use Rattle.script_walk.proofs.reader.Reader.carry_out.Goals as goal

pub returns-then-is_silent : goal.returns-then-is_silent
returns-then-is_silent g c =
    let none = kept-nothing c.args.self.now c.requires.no_wants c.requires.no_line in
    let next = counted c.args.self.now (c.args.self.now.lines + 1) in
    let clear : ([] ≡ kept next) × IsReader next = (sym none, reader_counted c.args.self.now (c.args.self.now.lines + 1) c.requires.ready.reader) in
    fed_item _ Done (bare_item c.args.line.now) _ _ _ (ap (λ xs. xs ++ (c.args.line.now ++ 10 ∷ [])) none)
    (line_silent _ g.met.P.Performer.lawful c.args.line.now _ next c.requires.ready.valid c.requires.is_line (c.is_silent.ensures c.if-is_silent.true) refl clear)
