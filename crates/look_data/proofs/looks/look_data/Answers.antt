use Rattle.std.proofs.Common.{refl, sym, ◌∙◌}
use Rattle.kind_core.specs.declared.kinds.Kind.TheVariants.{Window, Grid, Frame, Button, Label, Entry, Scale, Scrollbar, VScreen, Variable}
use Rattle.look_core.specs.Seen as seen
use Rattle.widget_model.specs.Rows.{Row}
use Rattle.scene_core.specs.View.{scene_of}
use Rattle.scene_core.proofs.Numbered.{read}
use Rattle.look_data.specs.Data.{seen_in}
use Rattle.look_data.proofs.LookSteps.{look-kind}
use Rattle.look_data.proofs.looks.look_data.Goals as goal

pub returns-in-Window : goal.returns-in-Window
returns-in-Window c =
    let view = c.args.view.now in
    look-kind view.tree.now (scene_of view) c.args.id.key Window (seen_in c.window.result) c.requires.live (sym (read (λ (row : Row). row.kind) view.tree.now c.args.id.key c.kind.result c.kind.ensures.kind) ∙ c.in-Window.is) c.window.ensures

pub returns-in-Grid : goal.returns-in-Grid
returns-in-Grid c =
    let view = c.args.view.now in
    look-kind view.tree.now (scene_of view) c.args.id.key Grid seen.grid c.requires.live (sym (read (λ (row : Row). row.kind) view.tree.now c.args.id.key c.kind.result c.kind.ensures.kind) ∙ c.in-Grid.is) refl

pub returns-in-Frame : goal.returns-in-Frame
returns-in-Frame c =
    let view = c.args.view.now in
    look-kind view.tree.now (scene_of view) c.args.id.key Frame seen.frame c.requires.live (sym (read (λ (row : Row). row.kind) view.tree.now c.args.id.key c.kind.result c.kind.ensures.kind) ∙ c.in-Frame.is) refl

pub returns-in-Button : goal.returns-in-Button
returns-in-Button c =
    let view = c.args.view.now in
    look-kind view.tree.now (scene_of view) c.args.id.key Button (seen_in c.button.result) c.requires.live (sym (read (λ (row : Row). row.kind) view.tree.now c.args.id.key c.kind.result c.kind.ensures.kind) ∙ c.in-Button.is) c.button.ensures

pub returns-in-Label : goal.returns-in-Label
returns-in-Label c =
    let view = c.args.view.now in
    look-kind view.tree.now (scene_of view) c.args.id.key Label (seen_in c.label.result) c.requires.live (sym (read (λ (row : Row). row.kind) view.tree.now c.args.id.key c.kind.result c.kind.ensures.kind) ∙ c.in-Label.is) c.label.ensures

pub returns-in-Entry : goal.returns-in-Entry
returns-in-Entry c =
    let view = c.args.view.now in
    look-kind view.tree.now (scene_of view) c.args.id.key Entry (seen_in c.entry.result) c.requires.live (sym (read (λ (row : Row). row.kind) view.tree.now c.args.id.key c.kind.result c.kind.ensures.kind) ∙ c.in-Entry.is) c.entry.ensures

pub returns-in-Scale : goal.returns-in-Scale
returns-in-Scale c =
    let view = c.args.view.now in
    look-kind view.tree.now (scene_of view) c.args.id.key Scale (seen_in c.scale.result) c.requires.live (sym (read (λ (row : Row). row.kind) view.tree.now c.args.id.key c.kind.result c.kind.ensures.kind) ∙ c.in-Scale.is) c.scale.ensures

pub returns-in-Scrollbar : goal.returns-in-Scrollbar
returns-in-Scrollbar c =
    let view = c.args.view.now in
    look-kind view.tree.now (scene_of view) c.args.id.key Scrollbar (seen_in c.scrollbar.result) c.requires.live (sym (read (λ (row : Row). row.kind) view.tree.now c.args.id.key c.kind.result c.kind.ensures.kind) ∙ c.in-Scrollbar.is) c.scrollbar.ensures

pub returns-in-VScreen : goal.returns-in-VScreen
returns-in-VScreen c =
    let view = c.args.view.now in
    look-kind view.tree.now (scene_of view) c.args.id.key VScreen (seen_in c.vscreen.result) c.requires.live (sym (read (λ (row : Row). row.kind) view.tree.now c.args.id.key c.kind.result c.kind.ensures.kind) ∙ c.in-VScreen.is) c.vscreen.ensures

pub returns-in-Variable : goal.returns-in-Variable
returns-in-Variable c =
    let view = c.args.view.now in
    look-kind view.tree.now (scene_of view) c.args.id.key Variable seen.no_film c.requires.live (sym (read (λ (row : Row). row.kind) view.tree.now c.args.id.key c.kind.result c.kind.ensures.kind) ∙ c.in-Variable.is) refl
