use Rattle.std.proofs.Common.{sym, ◌∙◌}
use Rattle.look_core.specs.Seen as seen
use Rattle.look_core.specs.Seen.{Seen}
use Rattle.scene_model.specs.LookOf.{look_of}
use Rattle.scene_core.specs.Children.{row_for}
use Rattle.scene_core.specs.View.{scene_of}
use Rattle.scene_core.proofs.Numbered.{read}
use Rattle.widget_model.specs.Rows.{Row}
use Rattle.painter_core.proofs.LookLemmas.{ShowsLook-drawn, look-grid, look-frame, look-variable}
use Rattle.painter_core.proofs.looks.draw_look.Goals as goal

pub draw_window-requires-clause-kind : goal.draw_window-requires-clause-kind
draw_window-requires-clause-kind c = sym (read (λ (r : Row). r.kind) c.args.view.now.tree.now c.args.id c.kind.result c.kind.ensures.kind) ∙ c.in-Window.is

pub draw_button-requires-clause-kind : goal.draw_button-requires-clause-kind
draw_button-requires-clause-kind c = sym (read (λ (r : Row). r.kind) c.args.view.now.tree.now c.args.id c.kind.result c.kind.ensures.kind) ∙ c.in-Button.is

pub draw_label-requires-clause-kind : goal.draw_label-requires-clause-kind
draw_label-requires-clause-kind c = sym (read (λ (r : Row). r.kind) c.args.view.now.tree.now c.args.id c.kind.result c.kind.ensures.kind) ∙ c.in-Label.is

pub draw_entry-requires-clause-kind : goal.draw_entry-requires-clause-kind
draw_entry-requires-clause-kind c = sym (read (λ (r : Row). r.kind) c.args.view.now.tree.now c.args.id c.kind.result c.kind.ensures.kind) ∙ c.in-Entry.is

pub draw_scale-requires-clause-kind : goal.draw_scale-requires-clause-kind
draw_scale-requires-clause-kind c = sym (read (λ (r : Row). r.kind) c.args.view.now.tree.now c.args.id c.kind.result c.kind.ensures.kind) ∙ c.in-Scale.is

pub draw_scrollbar-requires-clause-kind : goal.draw_scrollbar-requires-clause-kind
draw_scrollbar-requires-clause-kind c = sym (read (λ (r : Row). r.kind) c.args.view.now.tree.now c.args.id c.kind.result c.kind.ensures.kind) ∙ c.in-Scrollbar.is

pub draw_vscreen-requires-clause-kind : goal.draw_vscreen-requires-clause-kind
draw_vscreen-requires-clause-kind c = sym (read (λ (r : Row). r.kind) c.args.view.now.tree.now c.args.id c.kind.result c.kind.ensures.kind) ∙ c.in-VScreen.is

pub returns-in-Grid : goal.returns-in-Grid
returns-in-Grid c =
    let view = c.args.view.now in
    let widgets = view.tree.now in
    let scene = scene_of view in
    let row = row_for widgets c.args.id in
    let kind = sym (read (λ (r : Row). r.kind) widgets c.args.id c.kind.result c.kind.ensures.kind) ∙ c.in-Grid.is in
    ShowsLook-drawn (look_of scene row) seen.grid c.args.at c.args.out.now c.row_span.new.out c.requires.line c.row_span.auto.out (look-grid scene row c.args.at.y kind) c.row_span.ensures.whole

pub returns-in-Frame : goal.returns-in-Frame
returns-in-Frame c =
    let view = c.args.view.now in
    let widgets = view.tree.now in
    let scene = scene_of view in
    let row = row_for widgets c.args.id in
    let kind = sym (read (λ (r : Row). r.kind) widgets c.args.id c.kind.result c.kind.ensures.kind) ∙ c.in-Frame.is in
    ShowsLook-drawn (look_of scene row) seen.frame c.args.at c.args.out.now c.row_span-in-Frame.new.out c.requires.line c.row_span-in-Frame.auto.out (look-frame scene row c.args.at.y kind) c.row_span-in-Frame.ensures.whole

pub returns-in-Variable : goal.returns-in-Variable
returns-in-Variable c =
    let view = c.args.view.now in
    let widgets = view.tree.now in
    let scene = scene_of view in
    let row = row_for widgets c.args.id in
    let kind = sym (read (λ (r : Row). r.kind) widgets c.args.id c.kind.result c.kind.ensures.kind) ∙ c.in-Variable.is in
    ShowsLook-drawn (look_of scene row) seen.no_film c.args.at c.args.out.now c.row_span-in-Variable.new.out c.requires.line c.row_span-in-Variable.auto.out (look-variable scene row c.args.at.y kind) c.row_span-in-Variable.ensures.whole
