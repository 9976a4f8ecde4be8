use Rattle.std.proofs.Common.{◌≡◌, ℕ, ◌≤◌, ◌∙◌, sym, ap, [], arith}
use Rattle.look_core.specs.Seen as seen
use Rattle.look_core.specs.Seen.{Seen, in_row}
use Rattle.painter_core.proofs.LookLemmas.{look-film, no_row}
use Rattle.painter_core.proofs.looks.draw_film.Goals as goal

pub returns-then-at-h : goal.returns-then-at-h
returns-then-at-h c =
    let film = c.args.shown.now in
    let row = c.shown_row.result.now in
    let is : in_row c.args.at.y (seen.film film.width film.height film.shown) ≡ seen.film c.width-w.result c.height-h.result row =
    look-film c.args.at.y film.width film.height film.shown row c.shown_row.ensures.row
    ∙ ap (λ (n : ℕ). seen.film n film.height row) (sym c.width-w.ensures.width)
    ∙ ap (λ (n : ℕ). seen.film c.width-w.result n row) (sym c.height-h.ensures.height) in
    c.draw_film_row.ensures (seen.film film.width film.height film.shown) is

pub returns-else-at-h : goal.returns-else-at-h
returns-else-at-h c =
    let film = c.args.shown.now in
    let below : film.height ≤ c.args.at.y = omega (arith, c.if-at-h.false, c.height-h.ensures.height) in
    let is : in_row c.args.at.y (seen.film film.width film.height film.shown) ≡ seen.film c.width-w.result c.height-h.result [] =
    look-film c.args.at.y film.width film.height film.shown [] (no_row film.width film.height c.args.at.y film.shown c.width-w.ensures.valid.shown_size below)
    ∙ ap (λ (n : ℕ). seen.film n film.height []) (sym c.width-w.ensures.width)
    ∙ ap (λ (n : ℕ). seen.film c.width-w.result n []) (sym c.height-h.ensures.height) in
    c.draw_film_row-else-at-h.ensures (seen.film film.width film.height film.shown) is
