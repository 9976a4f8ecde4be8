use Rattle.std.proofs.Common.{ap, ◌∙◌, true, Some, None, []}
use Rattle.input_core.specs.declared.effects.Effects.{Effects}
use Rattle.input_core.specs.Seen.{effects_seen}
use Rattle.input_core.proofs.Steps.{grab-widget}
use Rattle.input_core.proofs.press.pressed.Goals as goal

pub returns-clause-seen : goal.returns-clause-seen
returns-clause-seen c =
    let es = c.args.tree.now.entries in
    let pointer = c.args.pointer.now in
    let grab = grab-widget es c.args.id c.requires.live in
    ap (λ (e : Effects). effects_seen es (record e { raise = Some c.root.result })) c.only_pointer-effects.ensures
    ∙ (λ i. record { pointer = record { x = pointer.x; y = pointer.y; down = true; grab = grab i; focus = c.focus_of.ensures.focus i }; raise = Some (c.root.ensures.key i); value = None; text = None; caret = None; moved = None; posts = [] })
