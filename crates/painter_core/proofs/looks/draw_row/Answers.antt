use Rattle.std.proofs.Common.{ℕ, pos, ◌+ℤ◌, sym, ap, subst, ◌∙◌, arith}
use Rattle.std.specs.Prelude.{Option}
use Rattle.scene_core.specs.Children.{row_for}
use Rattle.scene_core.proofs.Numbered.{live-there}
use Rattle.painter_core.proofs.KeyLemmas.{row_of-number}
use Rattle.std.specs.Prelude.{IfSome}
use Rattle.geom_core.specs.declared.rectangle.Rect.{Rect}
use Rattle.geom_core.specs.Rect.{IsInside}
use Rattle.geom_core.proofs.RectLemmas.{IsEnclosed-from_inside, area_some}
use Rattle.painter_core.specs.Stage.{layers_of, IsThere}
use Rattle.painter_core.proofs.LookLemmas.{colour-local, small_place, colour-desk}
use Rattle.painter_core.proofs.looks.draw_row.Goals as goal

pub line_in-at-requires-clause-inside : goal.line_in-at-requires-clause-inside
line_in-at-requires-clause-inside c =
    let view = c.args.view.now in
    let inside : IsInside c.args.line ((layers_of view).rect c.in-Some.id) = subst (λ (u : Option ℕ). IfSome u (λ (id : ℕ). IsInside c.args.line ((layers_of view).rect id))) c.in-Some.is c.requires.inside in
    let here : IsInside c.args.line c.place.result = subst (λ (r : Rect). IsInside c.args.line r) (sym c.place.ensures) inside in
    IsEnclosed-from_inside c.args.line c.place.result (area_some c.args.line.w c.args.line.h c.requires.filled (omega (arith, c.requires.one_row))) here

pub line_in-at-requires-clause-wide : goal.line_in-at-requires-clause-wide
line_in-at-requires-clause-wide c =
    let view = c.args.view.now in
    let widgets = view.tree.now in
    let id = c.in-Some.id in
    let there : IsThere view id = subst (λ (u : Option ℕ). IfSome u (IsThere view)) c.in-Some.is c.requires.there in
    let row = row_for widgets id in
    let at_row = live-there widgets id there.live in
    let small = small_place view id row c.requires.stage.fit (row_of-number widgets id row c.requires.stage.widgets at_row) at_row in
    omega (arith, small.0, ap (λ (r : Rect). r.w) c.place.ensures)

pub line_in-at-requires-clause-high : goal.line_in-at-requires-clause-high
line_in-at-requires-clause-high c =
    let view = c.args.view.now in
    let widgets = view.tree.now in
    let id = c.in-Some.id in
    let there : IsThere view id = subst (λ (u : Option ℕ). IfSome u (IsThere view)) c.in-Some.is c.requires.there in
    let row = row_for widgets id in
    let at_row = live-there widgets id there.live in
    let small = small_place view id row c.requires.stage.fit (row_of-number widgets id row c.requires.stage.widgets at_row) at_row in
    omega (arith, small.1, ap (λ (r : Rect). r.h) c.place.ensures)

pub returns-in-None : goal.returns-in-None
returns-in-None c i less =
    let view = c.args.view.now in
    c.lay_desk.ensures i less
    ∙ sym (colour-desk view (c.args.line.x +ℤ pos i) c.args.line.y)
    ∙ sym (ap (λ (u : Option ℕ). (layers_of view).colour u (c.args.line.x +ℤ pos i) c.args.line.y) c.in-None.is)

pub returns-in-Some : goal.returns-in-Some
returns-in-Some c i less =
    let view = c.args.view.now in
    let widgets = view.tree.now in
    let id = c.in-Some.id in
    let there : IsThere view id = subst (λ (u : Option ℕ). IfSome u (IsThere view)) c.in-Some.is c.requires.there in
    let row = row_for widgets id in
    let at_row = live-there widgets id there.live in
    let at = c.line_in-at.result in
    let line = c.args.line in
    let local = colour-local view id i row at line at_row
    (c.line_in-at.ensures.w ∙ ap (λ (r : Rect). r.w) c.place.ensures)
    (c.line_in-at.ensures.h ∙ ap (λ (r : Rect). r.h) c.place.ensures)
    (ap (λ (r : Rect). r.x +ℤ pos at.from) (sym c.place.ensures) ∙ c.line_in-at.ensures.from)
    (ap (λ (r : Rect). r.y +ℤ pos at.y) (sym c.place.ensures) ∙ c.line_in-at.ensures.y) in
    c.draw_look.ensures i less
    ∙ sym local
    ∙ sym (ap (λ (u : Option ℕ). (layers_of view).colour u (line.x +ℤ pos i) line.y) c.in-Some.is)
