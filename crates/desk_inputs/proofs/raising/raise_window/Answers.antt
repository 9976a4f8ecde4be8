use Rattle.std.proofs.Common.{sym, refl, ◌∙◌}
use Rattle.std.proofs.lemmas.Bool.{true≢false}
use Rattle.desk_inputs.proofs.RaisedWindows.{open-held, IsRaised-held, parts-raised, tells-raised}
use Rattle.input_core.specs.Seen.{key_seen}
use Rattle.desk_inputs.proofs.raising.raise_window.Goals as goal

pub unreachable-requires : goal.unreachable-requires
unreachable-requires c =
    let held = open-held c.args.tree.now c.args.windows.now c.args.id c.requires.parts c.requires.live c.requires.opened in
    true≢false (sym held ∙ sym c.raise.ensures.found ∙ c.if-not-raise.true)

pub returns-clause-windows : goal.returns-clause-windows
returns-clause-windows c =
    let held = open-held c.args.tree.now c.args.windows.now c.args.id c.requires.parts c.requires.live c.requires.opened in
    (IsRaised-held c.args.tree.now c.args.windows.now c.raise.new.self c.args.id c.requires.parts c.requires.live held c.if-not-raise.ensures.raised).windows

pub returns-clause-parts : goal.returns-clause-parts
returns-clause-parts c =
    let held = open-held c.args.tree.now c.args.windows.now c.args.id c.requires.parts c.requires.live c.requires.opened in
    parts-raised c.args.tree.now c.args.windows.now c.raise.new.self c.args.id.key (key_seen c.args.tree.now.entries c.args.id) c.requires.parts c.raise.ensures.valid
    (IsRaised-held c.args.tree.now c.args.windows.now c.raise.new.self c.args.id c.requires.parts c.requires.live held c.if-not-raise.ensures.raised)

pub returns-clause-tells : goal.returns-clause-tells
returns-clause-tells c =
    let held = open-held c.args.tree.now c.args.windows.now c.args.id c.requires.parts c.requires.live c.requires.opened in
    tells-raised c.args.tree.now c.args.windows.now c.raise.new.self c.args.id (key_seen c.args.tree.now.entries c.args.id) c.is_on_top-on_top.result _ c.requires.parts c.requires.live
    (IsRaised-held c.args.tree.now c.args.windows.now c.raise.new.self c.args.id c.requires.parts c.requires.live held c.if-not-raise.ensures.raised)
    c.if-not-raise.ensures.raised c.is_on_top-on_top.ensures refl
