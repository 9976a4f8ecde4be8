use Rattle.std.proofs.Common.{◌≡◌, ℕ, Some, None, [], sym, ap, ◌∙◌}
use Rattle.std.specs.Prelude.{Option}
use Rattle.std.specs.Option.{option_map_or, option_copied}
use Rattle.look_core.specs.Seen as seen
use Rattle.vscreen_core.specs.FilmState.{FilmState}
use Rattle.widget_model.specs.Rows.{Row}
use Rattle.scene_core.specs.Children.{row_for}
use Rattle.scene_core.proofs.Numbered.{read}
use Rattle.look_data.specs.Data.{but_bytes}
use Rattle.look_data.proofs.looks.vscreen.Goals as goal

pub returns-in-Some : goal.returns-in-Some
returns-in-Some c =
    let widgets = c.args.view.now.tree.now in
    let shown : (row_for widgets c.args.id.key).film ≡ Some c.in-Some.film.now = sym (read (λ (row : Row). row.film) widgets c.args.id.key (option_copied c.film.result) c.film.ensures.film) ∙ ap option_copied c.in-Some.is in
    ap (λ (w : ℕ). seen.film w c.height.result []) c.width.ensures.width
    ∙ ap (λ (h : ℕ). seen.film c.in-Some.film.now.width h []) c.height.ensures.height
    ∙ sym (ap (λ (o : Option FilmState). but_bytes (option_map_or (λ (film : FilmState). seen.film film.width film.height film.shown) o seen.no_film)) shown)

pub returns-in-None : goal.returns-in-None
returns-in-None c =
    let widgets = c.args.view.now.tree.now in
    let shown : (row_for widgets c.args.id.key).film ≡ None = sym (read (λ (row : Row). row.film) widgets c.args.id.key (option_copied c.film.result) c.film.ensures.film) ∙ ap option_copied c.in-None.is in
    sym (ap (λ (o : Option FilmState). but_bytes (option_map_or (λ (film : FilmState). seen.film film.width film.height film.shown) o seen.no_film)) shown)
