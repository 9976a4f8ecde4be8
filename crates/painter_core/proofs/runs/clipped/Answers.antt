use Rattle.std.proofs.Common.{◌≡◌, ◌*◌, min, ap, ◌∙◌}
use Rattle.scene_model.specs.Bands.{in_band}
use Rattle.painter_core.proofs.RunLemmas.{in_band-clipped}
use Rattle.painter_core.proofs.runs.clipped.Goals as goal

pub returns-clause-same : goal.returns-clause-same
returns-clause-same c x y =
    let film = c.args.film in
    let band = c.args.band in
    let to : c.min-to.result ≡ min band.to (film.w * film.h) = c.min-to.ensures in
    let from : c.min.result ≡ min band.from (min band.to (film.w * film.h)) = c.min.ensures ∙ ap (min band.from) to in
    ap (λ n. in_band film (record { from = c.min.result; to = n }) x y) to
    ∙ ap (λ n. in_band film (record { from = n; to = min band.to (film.w * film.h) }) x y) from
    ∙ in_band-clipped film band x y
