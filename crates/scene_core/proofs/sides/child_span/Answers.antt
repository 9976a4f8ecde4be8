use Rattle.std.proofs.Common.{◌≡◌, ◌∙◌, ℕ, take, length, sym, ap, arith, ℤ, to_z, of_z, w32, rules}
use Rattle.std.proofs.lemmas.Int.{to_z-of_z}
use Rattle.widget_model.specs.Widgets.{rows_of}
use Rattle.std.proofs.lemmas.Int.{ints}
use Rattle.scene_model.specs.declared.axis.Span.{Span}
use Rattle.scene_model.specs.Tracks.{track_in, track_span}
use Rattle.scene_model.specs.Spans.{inset, framed}
use Rattle.scene_model.specs.Placing.{child_span, span_along}
use Rattle.scene_core.specs.Children.{row_for}
use Rattle.scene_core.specs.declared.child.Child.{Child}
use Rattle.scene_core.specs.Measured.{side}
use Rattle.scene_core.proofs.SideSteps.{whole-near, content-near, used-length, few-length, kid-measured, track-within, track-some, lengths-short, moved-between, cut-near, span-child, in-window, in-grid, in-frame, other-span, side-size}
use Rattle.scene_core.proofs.sides.child_span.Goals as goal

pub returns-in-Window : goal.returns-in-Window
returns-in-Window c =
    in-window c.args.tree.now c.args.id.key c.args.child.now.key c.args.axis c.requires.valid c.requires.live c.requires.parent c.args.whole.now.span c.inset.result c.args.child.now.cell.pad
    c.requires.side.span (ap (λ (child : Child). child.cell.pad) c.requires.child) (sym c.requires.side.kind ∙ c.in-Window.is)
    (c.inset.ensures ∙ ap (λ (s : Span). inset c.args.child.now.cell.pad s) c.content.ensures)

pub returns-in-Frame : goal.returns-in-Frame
returns-in-Frame c =
    let plain : to_z w32 (of_z w32 c.args.whole.now.offset) ≡ c.args.whole.now.offset = to_z-of_z w32 c.args.whole.now.offset (search rules) in
    in-frame c.args.tree.now c.args.id.key c.args.child.now.key c.args.axis c.requires.valid c.requires.live c.requires.parent c.args.whole.now.span c.framed.result c.args.child.now.cell.pad
    c.requires.side.span (ap (λ (child : Child). child.cell.pad) c.requires.child) c.args.whole.now.offset c.side.result (sym c.requires.side.kind ∙ c.in-Frame.is)
    (c.requires.side.offset (sym c.requires.side.kind ∙ c.in-Frame.is))
    (c.side.ensures ∙ ap (λ (child : Child). side c.args.axis child.least) c.requires.child ∙ side-size c.args.axis c.args.tree.now c.args.child.now.key)
    (c.framed.ensures ∙ ap (λ (z : ℤ). framed c.args.child.now.cell.pad z c.side.result c.args.whole.now.span) plain)

pub returns-in-Grid : goal.returns-in-Grid
returns-in-Grid c =
    let w = c.args.tree.now in
    let lengths = take c.args.whole.now.used c.args.whole.now.lengths in
    let grid = sym c.requires.side.kind ∙ c.in-Grid.is in
    let tracks = c.requires.side.tracks grid in
    in-grid w c.args.id.key c.args.child.now.key c.args.axis c.requires.valid c.requires.live c.requires.parent c.args.whole.now.span c.inset-in-Grid.result c.args.child.now.cell.pad
    c.requires.side.span (ap (λ (child : Child). child.cell.pad) c.requires.child) lengths grid tracks.lengths
    (c.inset-in-Grid.ensures ∙ ap (λ (s : Span). inset c.args.child.now.cell.pad s)
    (c.track_span.ensures ∙ ap (λ (n : ℕ). track_span lengths c.args.whole.now.span n) (c.track_of.ensures ∙ ap (λ (child : Child). track_in c.args.axis child.cell) c.requires.child)))

pub returns-in_default : goal.returns-in_default
returns-in_default c =
    let w = c.args.tree.now in
    let span = span_along (rows_of w) c.args.axis (row_for w c.args.id.key) in
    sym (span-child w c.args.id.key c.args.child.now.key c.args.axis c.requires.valid c.requires.live c.requires.parent
    ∙ ap (λ k. child_span k c.args.axis (rows_of w) (row_for w c.args.id.key) span (row_for w c.args.child.now.key)) (sym c.requires.side.kind)
    ∙ other-span c.args.whole.now.kind c.args.axis (rows_of w) (row_for w c.args.id.key) span (row_for w c.args.child.now.key) c.in_default.not-Window c.in_default.not-Grid c.in_default.not-Frame)

pub content-requires-clause-low : goal.content-requires-clause-low
content-requires-clause-low c =
    let near = whole-near c.args.tree.now c.args.id.key c.args.axis c.args.whole.now.span c.requires.valid c.requires.live c.requires.side.span in
    omega (arith, ints, near.low)

pub content-requires-clause-high : goal.content-requires-clause-high
content-requires-clause-high c =
    let near = whole-near c.args.tree.now c.args.id.key c.args.axis c.args.whole.now.span c.requires.valid c.requires.live c.requires.side.span in
    omega (arith, ints, near.high)

pub inset-requires-clause-pad : goal.inset-requires-clause-pad
inset-requires-clause-pad c =
    let kid = kid-measured c.args.tree.now c.args.id.key c.args.child.now c.requires.valid c.requires.parent c.requires.child in
    kid.pad

pub inset-requires-clause-low : goal.inset-requires-clause-low
inset-requires-clause-low c =
    let near = whole-near c.args.tree.now c.args.id.key c.args.axis c.args.whole.now.span c.requires.valid c.requires.live c.requires.side.span in
    let inner = content-near c.args.axis c.args.whole.now.span near in
    rw c.content.ensures inner.low

pub inset-requires-clause-high : goal.inset-requires-clause-high
inset-requires-clause-high c =
    let near = whole-near c.args.tree.now c.args.id.key c.args.axis c.args.whole.now.span c.requires.valid c.requires.live c.requires.side.span in
    let inner = content-near c.args.axis c.args.whole.now.span near in
    rw c.content.ensures inner.high

pub track_span-requires-clause-first : goal.track_span-requires-clause-first
track_span-requires-clause-first c =
    let kid = kid-measured c.args.tree.now c.args.id.key c.args.child.now c.requires.valid c.requires.parent c.requires.child in
    rw c.track_of.ensures (track-some c.args.axis c.args.child.now kid)

pub track_span-requires-clause-last : goal.track_span-requires-clause-last
track_span-requires-clause-last c =
    let tracks = c.requires.side.tracks (sym c.requires.side.kind ∙ c.in-Grid.is) in
    let within = track-within c.args.axis c.args.tree.now c.args.id.key c.args.child.now c.args.whole.now c.requires.valid c.requires.parent c.requires.child tracks in
    omega (arith, within, c.track_of.ensures, used-length c.args.whole.now tracks.few (let e : length c.args.whole.now.lengths ≡ 16 = search rules in e))

pub track_span-requires-clause-short : goal.track_span-requires-clause-short
track_span-requires-clause-short c =
    let tracks = c.requires.side.tracks (sym c.requires.side.kind ∙ c.in-Grid.is) in
    lengths-short c.args.axis c.args.tree.now c.args.id.key c.args.whole.now c.requires.valid c.requires.live c.requires.side.span tracks

pub track_span-requires-clause-low : goal.track_span-requires-clause-low
track_span-requires-clause-low c =
    let near = whole-near c.args.tree.now c.args.id.key c.args.axis c.args.whole.now.span c.requires.valid c.requires.live c.requires.side.span in
    omega (arith, ints, near.low)

pub track_span-requires-clause-high : goal.track_span-requires-clause-high
track_span-requires-clause-high c =
    let near = whole-near c.args.tree.now c.args.id.key c.args.axis c.args.whole.now.span c.requires.valid c.requires.live c.requires.side.span in
    omega (arith, ints, near.high)

pub inset-requires-in-Grid-clause-pad : goal.inset-requires-in-Grid-clause-pad
inset-requires-in-Grid-clause-pad c =
    let kid = kid-measured c.args.tree.now c.args.id.key c.args.child.now c.requires.valid c.requires.parent c.requires.child in
    kid.pad

pub inset-requires-in-Grid-clause-low : goal.inset-requires-in-Grid-clause-low
inset-requires-in-Grid-clause-low c =
    let tracks = c.requires.side.tracks (sym c.requires.side.kind ∙ c.in-Grid.is) in
    let near = whole-near c.args.tree.now c.args.id.key c.args.axis c.args.whole.now.span c.requires.valid c.requires.live c.requires.side.span in
    let lengths = take c.args.whole.now.used c.args.whole.now.lengths in
    let short = lengths-short c.args.axis c.args.tree.now c.args.id.key c.args.whole.now c.requires.valid c.requires.live c.requires.side.span tracks in
    let cut = cut-near lengths c.args.whole.now.span c.track_of.result (few-length c.args.whole.now tracks.few) short near in
    rw c.track_span.ensures cut.low

pub inset-requires-in-Grid-clause-high : goal.inset-requires-in-Grid-clause-high
inset-requires-in-Grid-clause-high c =
    let tracks = c.requires.side.tracks (sym c.requires.side.kind ∙ c.in-Grid.is) in
    let near = whole-near c.args.tree.now c.args.id.key c.args.axis c.args.whole.now.span c.requires.valid c.requires.live c.requires.side.span in
    let lengths = take c.args.whole.now.used c.args.whole.now.lengths in
    let short = lengths-short c.args.axis c.args.tree.now c.args.id.key c.args.whole.now c.requires.valid c.requires.live c.requires.side.span tracks in
    let cut = cut-near lengths c.args.whole.now.span c.track_of.result (few-length c.args.whole.now tracks.few) short near in
    rw c.track_span.ensures cut.high

pub framed-requires-clause-pad : goal.framed-requires-clause-pad
framed-requires-clause-pad c =
    let kid = kid-measured c.args.tree.now c.args.id.key c.args.child.now c.requires.valid c.requires.parent c.requires.child in
    kid.pad

pub framed-requires-clause-left : goal.framed-requires-clause-left
framed-requires-clause-left c =
    let frame = sym c.requires.side.kind ∙ c.in-Frame.is in
    let plain : to_z w32 (of_z w32 c.args.whole.now.offset) ≡ c.args.whole.now.offset = to_z-of_z w32 c.args.whole.now.offset (search rules) in
    let moved = moved-between c.args.axis c.args.tree.now c.args.id.key c.args.whole.now.offset c.requires.valid c.requires.live frame (c.requires.side.offset frame) in
    rw plain moved.low

pub framed-requires-clause-right : goal.framed-requires-clause-right
framed-requires-clause-right c =
    let frame = sym c.requires.side.kind ∙ c.in-Frame.is in
    let plain : to_z w32 (of_z w32 c.args.whole.now.offset) ≡ c.args.whole.now.offset = to_z-of_z w32 c.args.whole.now.offset (search rules) in
    let moved = moved-between c.args.axis c.args.tree.now c.args.id.key c.args.whole.now.offset c.requires.valid c.requires.live frame (c.requires.side.offset frame) in
    rw plain moved.high

pub framed-requires-clause-low : goal.framed-requires-clause-low
framed-requires-clause-low c =
    let near = whole-near c.args.tree.now c.args.id.key c.args.axis c.args.whole.now.span c.requires.valid c.requires.live c.requires.side.span in
    omega (arith, ints, near.low)

pub framed-requires-clause-high : goal.framed-requires-clause-high
framed-requires-clause-high c =
    let near = whole-near c.args.tree.now c.args.id.key c.args.axis c.args.whole.now.span c.requires.valid c.requires.live c.requires.side.span in
    omega (arith, ints, near.high)
