use Rattle.std.proofs.Common.{◌≡◌, ◌*◌, sym, ap, subst, ◌∙◌, arith}
use Rattle.std.specs.Option.{option_copied}
use Rattle.canvas_core.proofs.Span.{risen-none}
use Rattle.geom_core.specs.Count.{screen_of}
use Rattle.geom_core.specs.Pieces.{AreDisjoint}
use Rattle.widget_model.specs.Widgets.{row_at}
use Rattle.painter_core.specs.Banding.{view_shows_band}
use Rattle.painter_core.proofs.PaintedLemmas.{risen_by-none}
use Rattle.painter_core.proofs.StageLemmas.{IsPaintable-view}
use Rattle.painter_core.proofs.RootLemmas.{row_there}
use Rattle.painter_core.proofs.SceneLemmas.{ShowsScene-nothing}
use Rattle.painter_core.proofs.PartLemmas.{total_area-most}
use Rattle.painter_core.proofs.BandLemmas.{IsBanded-film, ShowsScene-band, band_counted, parts_on_screen, no_film, nothing_shown, nothing_counted}
use Rattle.painter_core.proofs.bands.paint_band.Goals as goal

pub paint_parts-requires-clause-stage : goal.paint_parts-requires-clause-stage
paint_parts-requires-clause-stage c = IsPaintable-view c.args.view.now c.requires.view c.requires.places

pub paint_parts-requires-clause-count_fits : goal.paint_parts-requires-clause-count_fits
paint_parts-requires-clause-count_fits c =
    let view = c.args.view.now in
    let canvas = c.args.canvas.now in
    let parts = c.as_slice.result.now in
    let banded = IsBanded-film view c.args.id.key c.args.band parts c.band_parts-parts.result.items c.in-Some.film.now (option_copied c.film.result) c.film_at.result c.requires.live c.film.ensures.film (ap option_copied c.in-Some.is) c.film_at.ensures.place c.band_parts-parts.ensures.pixels c.as_slice.ensures.value in
    let apart = subst AreDisjoint (sym c.as_slice.ensures.value) c.band_parts-parts.ensures.disjoint in
    let few = total_area-most parts (screen_of view.width view.height) apart (λ x y e. parts_on_screen view c.args.id.key c.args.band parts x y banded e) in
    let areas : view.width * view.height ≡ canvas.width * canvas.height = ap (λ n. n * view.height) (sym c.requires.width) ∙ ap (λ n. canvas.width * n) (sym c.requires.height) in
    omega (arith, c.requires.count_fits, few, areas)

pub returns-in-Some-clause-pixels : goal.returns-in-Some-clause-pixels
returns-in-Some-clause-pixels c =
    let view = c.args.view.now in
    let parts = c.as_slice.result.now in
    let banded = IsBanded-film view c.args.id.key c.args.band parts c.band_parts-parts.result.items c.in-Some.film.now (option_copied c.film.result) c.film_at.result c.requires.live c.film.ensures.film (ap option_copied c.in-Some.is) c.film_at.ensures.place c.band_parts-parts.ensures.pixels c.as_slice.ensures.value in
    ShowsScene-band view c.args.id.key c.args.band parts c.paint_parts.result c.args.canvas.now c.paint_parts.new.canvas c.requires.view.valid c.requires.view banded c.requires.width c.requires.height c.paint_parts.ensures

pub returns-in-Some-clause-count : goal.returns-in-Some-clause-count
returns-in-Some-clause-count c =
    let view = c.args.view.now in
    let parts = c.as_slice.result.now in
    let banded = IsBanded-film view c.args.id.key c.args.band parts c.band_parts-parts.result.items c.in-Some.film.now (option_copied c.film.result) c.film_at.result c.requires.live c.film.ensures.film (ap option_copied c.in-Some.is) c.film_at.ensures.place c.band_parts-parts.ensures.pixels c.as_slice.ensures.value in
    band_counted view c.args.id.key c.args.band parts c.paint_parts.result c.args.canvas.now c.paint_parts.new.canvas c.requires.view.valid c.requires.view banded c.paint_parts.ensures

pub returns-in-None-clause-pixels : goal.returns-in-None-clause-pixels
returns-in-None-clause-pixels c =
    let view = c.args.view.now in
    let row = row_there (row_at view.tree.now.entries c.args.id.key) c.requires.live in
    let none = no_film view c.args.id.key row.0 (option_copied c.film.result) row.1 c.film.ensures.film (ap option_copied c.in-None.is) in
    ShowsScene-nothing view (view_shows_band view c.args.id.key c.args.band) c.args.canvas.now (λ x y. nothing_shown view c.args.id.key row.0 c.args.band x y c.requires.view.valid row.1 none)

pub returns-in-None-clause-count : goal.returns-in-None-clause-count
returns-in-None-clause-count c =
    let view = c.args.view.now in
    let row = row_there (row_at view.tree.now.entries c.args.id.key) c.requires.live in
    let none = no_film view c.args.id.key row.0 (option_copied c.film.result) row.1 c.film.ensures.film (ap option_copied c.in-None.is) in
    nothing_counted view c.args.id.key row.0 c.args.band c.requires.view.valid row.1 none

pub returns-in-None-clause-all_writes : goal.returns-in-None-clause-all_writes
returns-in-None-clause-all_writes c = risen-none c.args.canvas.now.all_writes c.requires.valid.all_writes_fit

pub returns-in-None-clause-all_spans : goal.returns-in-None-clause-all_spans
returns-in-None-clause-all_spans c = risen_by-none c.args.canvas.now.all_spans c.args.canvas.now.spans c.requires.valid.all_spans_fit
