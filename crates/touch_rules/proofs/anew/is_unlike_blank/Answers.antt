use Rattle.std.proofs.Common.{◌∙◌, ap, sym, not, nat_eq, ℕ}
use Rattle.std.specs.List.{list_all}
use Rattle.touch_rules.proofs.AnewLemmas.{blank-same, blank-high, blank-wide}
use Rattle.touch_rules.proofs.anew.is_unlike_blank.Goals as goal
use Rattle.touch_rules.proofs.anew.is_unlike_blank.Goals.{then-width-w+then-height-h, then-width-w+else-height-h, else-width-w}

pub returns : goal.returns
returns c =
    elim c.if-width-w.branch [
      | then-width-w+then-height-h w ↦
          ap not (w.result-is ∙ w.is_blank.ensures ∙ ap (list_all (λ (byte : ℕ). nat_eq byte 0)) w.shown.ensures.shown
          ∙ blank-same c.args.film.now c.args.w c.args.h c.width.ensures.valid (sym c.width.ensures.width ∙ w.if-width-w.true) (sym w.height.ensures.height ∙ w.if-height-h.true))
      | then-width-w+else-height-h w ↦
          ap not (w.result-is ∙ ap (λ (n : ℕ). nat_eq n c.args.h) w.height.ensures.height ∙ blank-high c.args.film.now c.args.w c.args.h (sym c.width.ensures.width ∙ w.if-width-w.true) (λ e. w.if-height-h.false (w.height.ensures.height ∙ e)))
      | else-width-w w ↦ ap not (w.result-is ∙ ap (λ (n : ℕ). nat_eq n c.args.w) c.width.ensures.width ∙ blank-wide c.args.film.now c.args.w c.args.h (λ e. w.if-width-w.false (c.width.ensures.width ∙ e)))
    ]
