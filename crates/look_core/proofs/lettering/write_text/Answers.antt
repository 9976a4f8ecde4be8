use Rattle.std.proofs.Common.{◌+◌, ◌∙◌, sym, ap, arith, cond, get_or, inl, inr, ◌<◌, ◌≤◌, ◌⊎◌}
use Rattle.look_core.proofs.LetterLemmas.{ink_row, no_ink_row}
use Rattle.look_core.proofs.lettering.write_text.Goals as goal
use Rattle.look_core.proofs.lettering.write_text.Goals.{else-y-line-via-then-y-line+else-line-y, else-y-line-via-else-y-line}

pub returns-then-line-y : goal.returns-then-line-y
returns-then-line-y c = λ i low.
    c.write_letters.ensures i low
    ∙ ap (λ b. cond b c.args.colour (get_or c.args.out.now i 0)) (sym (ink_row c.args.text.now c.args.x c.args.y (c.args.line.from + i) c.args.line.y (omega arith) (omega arith)))

pub returns-else-y-line : goal.returns-else-y-line
returns-else-y-line c = λ i low.
    let outside : (c.args.line.y < c.args.y) ⊎ (c.args.y + 8 ≤ c.args.line.y) =
    elim c.else-y-line.branch [ else-y-line-via-then-y-line+else-line-y w ↦ inr (omega arith) | else-y-line-via-else-y-line w ↦ inl (omega arith) ] in
    ap (λ b. cond b c.args.colour (get_or c.args.out.now i 0)) (sym (no_ink_row c.args.text.now c.args.x c.args.y (c.args.line.from + i) c.args.line.y outside))
