use Rattle.std.proofs.Common.{◌∙◌, ap₂}
use Rattle.kind_core.specs.Effective.{label_text}
use Rattle.look_core.specs.Seen as seen
use Rattle.look_core.specs.Seen.{Seen}
use Rattle.scene_model.specs.LookOf.{look_of}
use Rattle.scene_core.specs.Children.{row_for}
use Rattle.scene_core.specs.View.{scene_of}
use Rattle.painter_core.proofs.LookLemmas.{ShowsLook-drawn, look-label}
use Rattle.painter_core.proofs.looks.draw_label.Goals as goal

pub returns : goal.returns
returns c =
    let scene = scene_of c.args.view.now in
    let row = row_for c.args.view.now.tree.now c.args.id in
    let shown = c.as_slice.result.now in
    ShowsLook-drawn (look_of scene row) (seen.label shown) c.args.at c.args.out.now c.row_span.new.out c.requires.line c.row_span.auto.out
    (look-label scene row c.args.at.y shown c.requires.kind (c.as_slice.ensures.value ∙ c.label_text-shown.ensures ∙ ap₂ label_text c.text_of-text.ensures c.linked_value.ensures)) c.row_span.ensures.whole
