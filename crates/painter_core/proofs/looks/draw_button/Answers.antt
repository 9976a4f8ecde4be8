use Rattle.look_core.specs.Seen as seen
use Rattle.look_core.specs.Seen.{Seen}
use Rattle.scene_model.specs.LookOf.{look_of}
use Rattle.scene_core.specs.Children.{row_for}
use Rattle.scene_core.specs.View.{scene_of}
use Rattle.painter_core.proofs.LookLemmas.{ShowsLook-drawn, look-button}
use Rattle.painter_core.proofs.looks.draw_button.Goals as goal

pub returns : goal.returns
returns c =
    let scene = scene_of c.args.view.now in
    let row = row_for c.args.view.now.tree.now c.args.id in
    let text = c.text_of-text.result in
    ShowsLook-drawn (look_of scene row) (seen.button text c.is_held.result) c.args.at c.args.out.now c.row_span.new.out c.requires.line c.row_span.auto.out
    (look-button scene row c.args.at.y text c.is_held.result c.requires.kind c.text_of-text.ensures c.is_held.ensures) c.row_span.ensures.whole
