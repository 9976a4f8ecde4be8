use Rattle.std.proofs.Common.{ℕ, ap, sym, ◌∙◌}
use Rattle.std.proofs.lemmas.Bool.{and_parts}
use Rattle.geom_core.specs.Count.{screen_of}
use Rattle.geom_core.specs.Rect.{in_rect}
use Rattle.painter_tests.proofs.painting.on_canvas.Goals as goal

pub returns : goal.returns
returns c x y e =
    let parts = and_parts (in_rect c.args.piece x y) (in_rect (screen_of c.width.result c.height.result) x y) (sym (c.meet.ensures.pixels x y) ∙ e) in
    sym (ap (λ (w : ℕ). in_rect (screen_of w c.height.result) x y) c.width.ensures.width ∙ ap (λ (h : ℕ). in_rect (screen_of c.args.canvas.now.width h) x y) c.height.ensures.height) ∙ parts.1
