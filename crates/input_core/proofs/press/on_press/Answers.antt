use Rattle.std.proofs.Common.{sym, ap, ◌∙◌, subst, Option}
use Rattle.std.specs.Prelude.{IfSome}
use Rattle.widget_model.specs.Widgets.{IsLive, rows_of}
use Rattle.tree_core.specs.Holds.{pointer_seen}
use Rattle.desk_model.specs.InputEffects as input
use Rattle.desk_model.specs.InputTable.{press_on}
use Rattle.input_core.specs.declared.hit.Hit.{Hit}
use Rattle.input_core.specs.Numbered.{numbered}
use Rattle.input_core.proofs.Steps.{on_press-hit}
use Rattle.input_core.proofs.press.on_press.Goals as goal

pub returns-in-Some-clause-seen : goal.returns-in-Some-clause-seen
returns-in-Some-clause-seen c =
    let w = c.args.tree.now in
    let pointer = c.args.pointer.now in
    let row = numbered w.entries c.in-Some.hit.id.key in
    let live : IsLive w c.in-Some.hit.id.key = subst (λ (hit : Option Hit). IfSome hit (λ (h : Hit). IsLive w h.id.key)) c.in-Some.is c.requires.hit in
    c.press_on.ensures.seen
    ∙ ap (λ (e : input.Effects). press_on row.kind (rows_of w) (pointer_seen w.entries pointer) c.in-Some.hit.place row e) c.pressed-effects.ensures.seen
    ∙ sym (on_press-hit w pointer c.in-Some.hit c.args.hit c.requires.widgets live c.if-pointer.false c.in-Some.is)
