use Rattle.std.proofs.Common.{◌≡◌, ◌*◌, ◌<◌, length, take, ap, sym, ◌∙◌, arith}
use Rattle.drawing_core.proofs.BandingLemmas.{BandsDrawn-none, BandsDrawn-then, bands-few}
use Rattle.drawing_core.proofs.banding.draw_bands.Goals as goal

pub loop-entry-init : goal.loop-entry-init
loop-entry-init c = BandsDrawn-none c.args.view.now c.args.canvas.now c.requires.screen

pub paint_band-count-requires-clause-count_fits : goal.paint_band-count-requires-clause-count_fits
paint_band-count-requires-clause-count_fits c =
    let view = c.args.view.now in
    let old = c.args.canvas.now in
    let now = c.loop-entry.canvas in
    let drawn = c.loop-entry.invariant in
    let few = bands-few view (take c.loop-entry.entry-index c.args.bands.now) c.loop-entry.count old now drawn in
    let seen : view.width * view.height ≡ old.width * old.height = ap (λ n. n * view.height) (sym c.requires.width) ∙ ap (λ n. old.width * n) (sym c.requires.height) in
    let same : now.width * now.height ≡ old.width * old.height = ap (λ n. n * now.height) drawn.width ∙ ap (λ n. old.width * n) drawn.height in
    omega (arith, c.requires.count_fits, few, seen, same, drawn.writes)

pub loop-entry-preserved : goal.loop-entry-preserved
loop-entry-preserved c =
    let within : c.loop-entry.entry-index < length c.args.bands.now = omega (arith, c.loop-entry-test.true) in
    BandsDrawn-then c.args.view.now c.args.bands.now c.loop-entry.entry-index _ c.loop-entry.count c.paint_band-count.result c.args.canvas.now c.loop-entry.canvas c.paint_band-count.new.canvas c.requires.view.valid c.requires.one_each within c.loop-entry.invariant
    c.paint_band-count.ensures.pixels c.paint_band-count.ensures.count c.paint_band-count.ensures.writes c.paint_band-count.ensures.all_writes c.paint_band-count.ensures.spans_grow c.paint_band-count.ensures.all_spans c.paint_band-count.ensures.width c.paint_band-count.ensures.height c.paint_band-count.ensures.valid
