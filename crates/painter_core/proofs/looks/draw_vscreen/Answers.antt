use Rattle.std.proofs.Common.{◌≡◌, ◌+◌, Some, None, sym, ap, ◌∙◌}
use Rattle.std.specs.Prelude.{Option}
use Rattle.look_core.specs.Seen as seen
use Rattle.look_core.specs.Seen.{Seen}
use Rattle.scene_model.specs.LookOf.{look_of}
use Rattle.scene_core.specs.Children.{row_for}
use Rattle.scene_core.specs.View.{scene_of}
use Rattle.scene_core.proofs.Numbered.{read}
use Rattle.std.specs.Option.{option_map_or, option_copied}
use Rattle.look_core.specs.Seen.{in_row}
use Rattle.look_core.specs.Colour.{colour_of}
use Rattle.vscreen_core.specs.FilmState.{FilmState}
use Rattle.widget_model.specs.Rows.{Row}
use Rattle.painter_core.proofs.LookLemmas.{ShowsLook-drawn, look-vscreen, look-no_film}
use Rattle.painter_core.proofs.looks.draw_vscreen.Goals as goal

pub returns-in-Some : goal.returns-in-Some
returns-in-Some c i less =
    let view = c.args.view.now in
    let widgets = view.tree.now in
    let scene = scene_of view in
    let row = row_for widgets c.args.id in
    let film : row.film ≡ Some c.in-Some.shown.now = sym (read (λ (r : Row). r.film) widgets c.args.id (option_copied c.film.result) c.film.ensures.film) ∙ ap option_copied c.in-Some.is in
    let is = look-vscreen scene row c.requires.kind ∙ ap (λ (o : Option FilmState). option_map_or (λ (film : FilmState). seen.film film.width film.height film.shown) o seen.no_film) film in
    c.draw_film.ensures i less ∙ ap (λ (look : Seen). colour_of look c.args.at.w c.args.at.h (c.args.at.from + i) c.args.at.y) (sym is)

pub returns-in-None : goal.returns-in-None
returns-in-None c =
    let view = c.args.view.now in
    let widgets = view.tree.now in
    let scene = scene_of view in
    let row = row_for widgets c.args.id in
    let film : row.film ≡ None = sym (read (λ (r : Row). r.film) widgets c.args.id (option_copied c.film.result) c.film.ensures.film) ∙ ap option_copied c.in-None.is in
    let is = look-vscreen scene row c.requires.kind ∙ ap (λ (o : Option FilmState). option_map_or (λ (film : FilmState). seen.film film.width film.height film.shown) o seen.no_film) film in
    ShowsLook-drawn (look_of scene row) seen.no_film c.args.at c.args.out.now c.row_span.new.out c.requires.line c.row_span.auto.out (ap (in_row c.args.at.y) is ∙ look-no_film c.args.at.y) c.row_span.ensures.whole
