use Rattle.std.proofs.Common.{◌≡◌, ◌+◌, ◌-◌, ◌∙◌, ap, cond, nat_le, nat_lt, ◌&&◌, get_or, arith}
use Rattle.look_core.specs.Font.{glyph}
use Rattle.look_core.proofs.LetterLemmas.{glyph-by_columns, lit_column, dark_column, all_columns}
use Rattle.look_core.proofs.lettering.write_letter.Goals as goal
use Rattle.look_core.proofs.lettering.write_letter.Goals.{then-has_pixel, else-has_pixel}

pub loop-c-preserved : goal.loop-c-preserved
loop-c-preserved c =
    let pixel = glyph-by_columns c.args.byte c.loop-c.c c.args.row c.columns_of-columns.result c.has_pixel.result c.columns_of-columns.ensures c.has_pixel.ensures in
    elim c.if-has_pixel.branch [
      | then-has_pixel w ↦
          rw w.out-is (λ i low. lit_column (λ d. glyph c.args.byte d c.args.row) c.args.x c.loop-c.c (c.args.from + i) c.args.colour (get_or c.args.out.now i 0) (get_or c.loop-c.out i 0) (get_or w.lay_column.new.out i 0) (pixel ∙ w.if-has_pixel.true) (c.loop-c.invariant i (omega arith)) (w.lay_column.ensures i low))
      | else-has_pixel w ↦
          rw w.out-is (λ i low. dark_column (λ d. glyph c.args.byte d c.args.row) c.args.x c.loop-c.c (c.args.from + i) c.args.colour (get_or c.args.out.now i 0) (get_or c.loop-c.out i 0) (pixel ∙ w.if-has_pixel.false) (c.loop-c.invariant i low))
    ]

pub returns : goal.returns
returns c = λ i low.
    let last : c.loop-c.c ≡ 5 = omega arith in
    c.loop-c.invariant i low
    ∙ ap (λ n. cond (nat_le c.args.x (c.args.from + i) && (nat_lt (c.args.from + i) (c.args.x + n) && glyph c.args.byte (c.args.from + i - c.args.x) c.args.row)) c.args.colour (get_or c.args.out.now i 0)) last
    ∙ ap (λ b. cond b c.args.colour (get_or c.args.out.now i 0)) (all_columns c.args.byte c.args.row c.args.x (c.args.from + i))
