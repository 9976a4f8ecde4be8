use Rattle.look_core.specs.Seen as seen
use Rattle.look_core.specs.Seen.{Seen}
use Rattle.scene_model.specs.LookOf.{look_of}
use Rattle.scene_core.specs.Children.{row_for}
use Rattle.scene_core.specs.View.{scene_of}
use Rattle.painter_core.proofs.LookLemmas.{ShowsLook-drawn, look-window}
use Rattle.painter_core.proofs.looks.draw_window.Goals as goal

pub returns : goal.returns
returns c =
    let scene = scene_of c.args.view.now in
    let row = row_for c.args.view.now.tree.now c.args.id in
    let title = c.text_of-title.result in
    ShowsLook-drawn (look_of scene row) (seen.window title) c.args.at c.args.out.now c.row_span.new.out c.requires.line c.row_span.auto.out
    (look-window scene row c.args.at.y title c.requires.kind c.text_of-title.ensures) c.row_span.ensures.whole
