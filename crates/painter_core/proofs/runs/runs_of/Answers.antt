use Rattle.std.proofs.Common.{◌≡◌, ◌+◌, ◌-◌, ◌/◌, ◌%◌, sym, ap, ◌∙◌}
use Rattle.std.proofs.Math.Nat.{mod-lt}
use Rattle.std.proofs.lemmas.Nat.{div-add-mod'}
use Rattle.geom_core.specs.declared.rectangle.Rect.{Rect}
use Rattle.painter_core.specs.Runs.{part_of}
use Rattle.painter_core.proofs.RunLemmas.{IsBandAt, AreRuns-band, AreRuns-same, first_run, middle_run, last_run}
use Rattle.painter_core.proofs.runs.runs_of.Goals as goal

pub returns : goal.returns
returns c =
    let film = c.args.film in
    let band = c.args.band in
    let upper = band.from / film.w in
    let start = band.from % film.w in
    let lower = band.to / film.w in
    let end = band.to % film.w in
    let at : IsBandAt film band upper start lower end = record {
      from = sym (div-add-mod' band.from film.w);
      to = sym (div-add-mod' band.to film.w);
      start_within = mod-lt band.from c.requires.wide;
      end_within = mod-lt band.to c.requires.wide;
      order = c.requires.order;
      within = c.requires.within;
    } in
    let rows : c.saturating_sub.result ≡ lower - (upper + 1) = c.saturating_sub.ensures in
    AreRuns-same film band c.part_of.result c.part_of-2.result c.part_of-3.result (first_run film upper start lower end) (middle_run film upper lower) (last_run film upper lower end)
    (c.part_of.ensures ∙ ap {B = Rect} (λ n. part_of film start upper (n - start) 1) c.ends-first_end.ensures.first)
    (c.part_of-2.ensures ∙ ap {B = Rect} (λ n. part_of film 0 (upper + 1) film.w n) rows)
    (c.part_of-3.ensures ∙ ap {B = Rect} (λ n. part_of film 0 lower n 1) c.ends-first_end.ensures.last)
    (AreRuns-band film band upper start lower end at)
