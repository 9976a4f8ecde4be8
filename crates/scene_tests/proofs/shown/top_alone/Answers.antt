use Rattle.std.proofs.Common.{◌∙◌, ◌∷◌, ap, arith}
use Rattle.scene_tests.proofs.Alone.{windows-alone, kept-alone}
use Rattle.scene_tests.proofs.shown.top_alone.Goals as goal

pub top_at-requires-clause-view : goal.top_at-requires-clause-view
top_at-requires-clause-view c = record {
  valid = c.requires.valid;
  windows = windows-alone c.args.tree.now c.push_top.new.self c.args.window.key c.requires.window (c.in-Ok.ensures.ok ∙ ap (λ xs. c.args.window.key ∷ xs) c.new-stack.ensures.empty) c.push_top.ensures.valid;
  width_least = omega arith;
  width_most = omega arith;
  height_least = omega arith;
  height_most = omega arith;
}

pub top_at-requires-clause-kept : goal.top_at-requires-clause-kept
top_at-requires-clause-kept c = kept-alone c.args.tree.now c.push_top.new.self c.args.window.key (c.in-Ok.ensures.ok ∙ ap (λ xs. c.args.window.key ∷ xs) c.new-stack.ensures.empty) c.requires.placed
