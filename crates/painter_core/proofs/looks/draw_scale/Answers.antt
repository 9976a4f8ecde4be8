use Rattle.look_core.specs.Seen as seen
use Rattle.scene_model.specs.LookOf.{look_of}
use Rattle.scene_core.specs.Children.{row_for}
use Rattle.scene_core.specs.View.{scene_of}
use Rattle.scene_core.proofs.Numbered.{live-there}
use Rattle.painter_core.proofs.KeyLemmas.{row_of-number}
use Rattle.painter_core.proofs.LookLemmas.{ShowsLook-drawn, look-scale, drawable}
use Rattle.painter_core.proofs.looks.draw_scale.Goals as goal

pub row_span-requires-clause-drawable : goal.row_span-requires-clause-drawable
row_span-requires-clause-drawable c =
    let view = c.args.view.now in
    let widgets = view.tree.now in
    let row = row_for widgets c.args.id in
    let found = row_of-number widgets c.args.id row c.requires.stage.widgets (live-there widgets c.args.id c.requires.there.live) in
    drawable (scene_of view) row c.args.at.y (seen.scale c.scale_value.result c.count_of.result c.is_vertical.result c.is_held.result) c.requires.stage.fit found
    (look-scale (scene_of view) row c.args.at.y c.scale_value.result c.count_of.result c.is_vertical.result c.is_held.result c.requires.kind c.scale_value.ensures c.count_of.ensures c.is_vertical.ensures c.is_held.ensures)

pub returns : goal.returns
returns c =
    let scene = scene_of c.args.view.now in
    let row = row_for c.args.view.now.tree.now c.args.id in
    ShowsLook-drawn (look_of scene row) (seen.scale c.scale_value.result c.count_of.result c.is_vertical.result c.is_held.result) c.args.at c.args.out.now c.row_span.new.out c.requires.line c.row_span.auto.out
    (look-scale scene row c.args.at.y c.scale_value.result c.count_of.result c.is_vertical.result c.is_held.result c.requires.kind c.scale_value.ensures c.count_of.ensures c.is_vertical.ensures c.is_held.ensures) c.row_span.ensures.whole
