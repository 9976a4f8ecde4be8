use Rattle.std.proofs.Common.{sym, ap, ◌∙◌, Bool, Some, None, cond}
use Rattle.desk_model.specs.InputTable.{takes_keys}
use Rattle.widget_model.specs.Keys.{key_of}
use Rattle.input_core.specs.Numbered.{numbered}
use Rattle.input_core.proofs.Keys.{key_at-numbered}
use Rattle.input_core.proofs.press.focus_of.Goals as goal

pub returns-then-takes_keys-clause-focus : goal.returns-then-takes_keys-clause-focus
returns-then-takes_keys-clause-focus c =
    let row = numbered c.args.tree.now.entries c.args.id.key in
    key_at-numbered c.args.tree.now.entries c.args.id.key c.requires
    ∙ sym (ap (λ (b : Bool). cond b (Some (key_of row)) None) (ap takes_keys (sym c.kind.ensures) ∙ sym c.takes_keys.ensures ∙ c.if-takes_keys.true))
