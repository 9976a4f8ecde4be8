use Rattle.std.proofs.Common.{◌∙◌, ℕ, List, ◌∷◌, ap}
use Rattle.stack_core.specs.Stack.{holds_key}
use Rattle.damage_tests.proofs.Opened.{holds-without, shown-opened}
use Rattle.damage_tests.proofs.showing.open_window.Goals as goal

pub push_top-requires : goal.push_top-requires
push_top-requires c = ap (λ (keys : List ℕ). holds_key keys c.args.window.key) c.remove.ensures.others ∙ holds-without c.args.stack.now c.args.window.key

pub returns-in-Ok-clause-shown : goal.returns-in-Ok-clause-shown
returns-in-Ok-clause-shown c =
    shown-opened c.args.tree.now c.relayout.new.tree c.args.stack.now c.push_top.new.self c.args.window.key c.relayout.ensures.rows c.relayout.ensures.placed c.relayout.ensures.others c.requires.window c.requires.shown
    (c.in-Ok.ensures.ok ∙ ap (λ (keys : List ℕ). c.args.window.key ∷ keys) c.remove.ensures.others) c.push_top.ensures.valid
