use Rattle.std.proofs.Common.{◌≡◌, ℕ, List, length, ap, ◌∙◌, arith}
use Rattle.look_core.specs.Seen as seen
use Rattle.look_core.specs.Seen.{Seen}
use Rattle.scene_model.specs.LookOf.{look_of}
use Rattle.scene_core.specs.Children.{row_for}
use Rattle.scene_core.specs.View.{scene_of}
use Rattle.painter_core.proofs.LookLemmas.{ShowsLook-drawn, look-entry}
use Rattle.scene_model.specs.Values.{caret_of}
use Rattle.painter_core.proofs.looks.draw_entry.Goals as goal

pub returns : goal.returns
returns c =
    let scene = scene_of c.args.view.now in
    let row = row_for c.args.view.now.tree.now c.args.id in
    let text = c.text_of-text.result in
    let size = ap (λ (bytes : List ℕ). length bytes) (c.as_slice.ensures.bytes ∙ c.text_of-text.ensures) in
    let caret : c.min.result ≡ caret_of row = omega (arith, c.min.ensures, c.count_of-caret.ensures, size) in
    ShowsLook-drawn (look_of scene row) (seen.entry text c.min.result c.has_focus.result) c.args.at c.args.out.now c.row_span.new.out c.requires.line c.row_span.auto.out
    (look-entry scene row c.args.at.y text c.min.result c.has_focus.result c.requires.kind c.text_of-text.ensures caret c.has_focus.ensures) c.row_span.ensures.whole
