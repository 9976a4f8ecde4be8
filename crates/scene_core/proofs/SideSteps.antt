-- The span of a child, from its parent's span, kind and tracks.
use Rattle.std.proofs.Common.{◌≡◌, ℕ, ◌-◌, ◌≤◌, ℤ, pos, ◌≤ℤ◌, neg_ℤ, take, length, List, map, All, Some, refl, sym, ap, ◌∙◌, arith, subst, length-take}
use Rattle.std.proofs.lemmas.Int.{ints}
use Rattle.std.specs.Option.{option_map}
use Rattle.kind_core.specs.declared.kinds.Kind.{Kind}
use Rattle.kind_core.specs.declared.kinds.Kind.TheVariants.{Window, Grid, Frame, Button, Label, Entry, Scale, Scrollbar, Variable, VScreen}
use Rattle.widget_model.specs.Rows.{Row}
use Rattle.widget_model.specs.Widgets.{Widgets, rows_of, IsLive}
use Rattle.widget_model.specs.Forest.{IsWidgets}
use Rattle.widget_model.specs.Relatives.{parent_id}
use Rattle.scene_model.specs.declared.axis.Axis.{Axis}
use Rattle.scene_model.specs.declared.axis.Axis.TheVariants.{Across, Down}
use Rattle.scene_model.specs.declared.axis.Span.{Span}
use Rattle.scene_model.specs.Spans.{no_span, inset, content, framed}
use Rattle.scene_model.specs.Tracks.{Need, cell_of, track_in, need_of, rules_of, tracks_used, track_leasts, track_lengths, track_span, greatest, children_of}
use Rattle.widget_model.specs.Trees.{is_child}
use Rattle.scene_model.specs.Least.{least_of}
use Rattle.scene_model.specs.Placing.{child_span, grid_span, span_along}
use Rattle.scene_model.specs.Values.{offset_of}
use Rattle.scene_model.proofs.LevelLaws.{spans_come_from_parents}
use Rattle.scene_model.proofs.FitRows.{IsBetween}
use Rattle.scene_model.proofs.Ranges.{spans_are_small, tracks_are_small, offset-between}
use Rattle.grid_layout.specs.Spread.{widths_of}
use Rattle.scene_model.proofs.FitWidgets.{widgets_are_fit}
use Rattle.scene_core.specs.declared.tracks.Tracks.{Tracks}
use Rattle.scene_core.specs.Measured.{IsMeasured, AreTracks, side}
use Rattle.scene_core.specs.Sides.{HasTracks}
use Rattle.scene_core.specs.declared.sides.Side.{Side}
use Rattle.scene_core.specs.declared.child.Child.{Child}
use Rattle.scene_core.specs.Children.{row_for, size_for, child_for, needs_for}
use Rattle.scene_core.proofs.Lengths.{sum_take_small}
use Rattle.scene_core.proofs.Numbered.{parent_read}
use Rattle.scene_core.proofs.ChildNeeds.{child-at, le-greatest-filter, map-twice}
use Rattle.scene_core.proofs.LeastSteps.{key-found, child-live, child-measured, row-fit}

-- a span of a numbered widget begins near the screen
pub record BeginsNear (span : Span) : Type 0 where
  pub low : neg_ℤ (pos 1048576) ≤ℤ span.from
  pub high : span.from ≤ℤ pos 1048576
  pub len : span.len ≤ 4128

pub span-near : (widgets : Widgets) (id : ℕ) (axis : Axis) → IsWidgets widgets → IsLive widgets id → BeginsNear (span_along (rows_of widgets) axis (row_for widgets id))
span-near widgets id axis valid live =
    let small = spans_are_small (rows_of widgets) axis (row_for widgets id) (widgets_are_fit widgets valid) (key-found widgets id valid live) in
    record { low = small.near.least; high = small.near.start; len = small.length }

-- a child's span comes from its parent's
pub span-child : (widgets : Widgets) (id kid : ℕ) (axis : Axis) → IsWidgets widgets → IsLive widgets id → parent_id widgets kid ≡ Some id
    → span_along (rows_of widgets) axis (row_for widgets kid) ≡ child_span (row_for widgets id).kind axis (rows_of widgets) (row_for widgets id) (span_along (rows_of widgets) axis (row_for widgets id)) (row_for widgets kid)
span-child widgets id kid axis valid live parent =
    let below = child-live widgets id kid valid parent in
    spans_come_from_parents (rows_of widgets) axis (row_for widgets kid) (row_for widgets id) valid.rows.planted (key-found widgets kid valid below)
    (parent_read widgets kid valid below ∙ ap (option_map (row_for widgets)) parent)

-- a child's track is in use
pub track-used : (widgets : Widgets) (id kid : ℕ) (axis : Axis) → IsWidgets widgets → parent_id widgets kid ≡ Some id
    → track_in axis (cell_of (row_for widgets kid)) ≤ tracks_used (needs_for axis widgets id) (rules_of axis (row_for widgets id))
unfolding tracks_used
track-used widgets id kid axis valid parent =
    let at = child-at widgets id kid valid parent in
    let need : Row → Need = need_of (least_of (rows_of widgets) axis) axis in
    let track : Need → ℕ = λ asked. asked.track in
    let kids = children_of (rows_of widgets) (row_for widgets id) in
    let bound : track_in axis (cell_of (row_for widgets kid)) ≤ greatest (map (λ (row : Row). (need row).track) kids) =
    le-greatest-filter (λ (row : Row). (need row).track) (is_child (row_for widgets id).client (row_for widgets id).name) (rows_of widgets) at.index (row_for widgets kid) at.there at.is in
    let same : greatest (map track (map need kids)) ≡ greatest (map (λ (row : Row). (need row).track) kids) = ap greatest (map-twice track need kids) in
    omega (arith, bound, same)

-- the span of a child of a Window, of a Grid and of a Frame
module _ (widgets : Widgets) (id kid : ℕ) (axis : Axis) (valid : IsWidgets widgets) (live : IsLive widgets id) (parent : parent_id widgets kid ≡ Some id) (span result : Span) (pad : ℕ)
    (whole : span ≡ span_along (rows_of widgets) axis (row_for widgets id)) (padded : pad ≡ (cell_of (row_for widgets kid)).pad) where
  by-kind : (kind : Kind) → (row_for widgets id).kind ≡ kind → span_along (rows_of widgets) axis (row_for widgets kid) ≡ child_span kind axis (rows_of widgets) (row_for widgets id) span (row_for widgets kid)
  by-kind kind is =
      span-child widgets id kid axis valid live parent
      ∙ ap (λ (k : Kind). child_span k axis (rows_of widgets) (row_for widgets id) (span_along (rows_of widgets) axis (row_for widgets id)) (row_for widgets kid)) is
      ∙ ap (λ (s : Span). child_span kind axis (rows_of widgets) (row_for widgets id) s (row_for widgets kid)) (sym whole)

  pub in-window : (row_for widgets id).kind ≡ Window → result ≡ inset pad (content axis span) → result ≡ span_along (rows_of widgets) axis (row_for widgets kid)
  in-window is e = e ∙ ap (λ (n : ℕ). inset n (content axis span)) padded ∙ sym (by-kind Window is)

  pub in-grid : (lengths : List ℕ) → (row_for widgets id).kind ≡ Grid → lengths ≡ track_lengths (needs_for axis widgets id) (rules_of axis (row_for widgets id)) span.len
      → result ≡ inset pad (track_span lengths span (track_in axis (cell_of (row_for widgets kid)))) → result ≡ span_along (rows_of widgets) axis (row_for widgets kid)
  unfolding grid_span
  in-grid lengths is all e =
      e ∙ ap (λ (n : ℕ). inset n (track_span lengths span (track_in axis (cell_of (row_for widgets kid))))) padded
      ∙ ap (λ (ns : List ℕ). inset (cell_of (row_for widgets kid)).pad (track_span ns span (track_in axis (cell_of (row_for widgets kid))))) all
      ∙ sym (by-kind Grid is)

  pub in-frame : (offset : ℤ) (least : ℕ) → (row_for widgets id).kind ≡ Frame → offset ≡ offset_of axis (rows_of widgets) (row_for widgets id) → least ≡ least_of (rows_of widgets) axis (row_for widgets kid)
      → result ≡ framed pad offset least span → result ≡ span_along (rows_of widgets) axis (row_for widgets kid)
  in-frame offset least is moved needs e =
      e ∙ ap (λ (n : ℕ). framed n offset least span) padded
      ∙ ap (λ (z : ℤ). framed (cell_of (row_for widgets kid)).pad z least span) moved
      ∙ ap (λ (n : ℕ). framed (cell_of (row_for widgets kid)).pad (offset_of axis (rows_of widgets) (row_for widgets id)) n span) needs
      ∙ sym (by-kind Frame is)

-- a widget of another kind has nothing for children
pub other-span : (kind : Kind) (axis : Axis) (rows : List Row) (parent : Row) (span : Span) (child : Row) → (kind ≡ Window → ⊥) → (kind ≡ Grid → ⊥) → (kind ≡ Frame → ⊥) → child_span kind axis rows parent span child ≡ no_span
other-span Window axis rows parent span child w g f = absurd (w refl)
other-span Grid axis rows parent span child w g f = absurd (g refl)
other-span Frame axis rows parent span child w g f = absurd (f refl)
other-span Button axis rows parent span child w g f = refl
other-span Label axis rows parent span child w g f = refl
other-span Entry axis rows parent span child w g f = refl
other-span Scale axis rows parent span child w g f = refl
other-span Scrollbar axis rows parent span child w g f = refl
other-span Variable axis rows parent span child w g f = refl
other-span VScreen axis rows parent span child w g f = refl

-- the lengths of the tracks, from their least lengths and weights
pub lengths-read : (needs : List Need) (rules : List (ℕ × ℕ)) (tracks : Tracks) (lengths : List ℕ) (room : ℕ) → AreTracks needs rules tracks
    → take tracks.used lengths ≡ widths_of (take tracks.used tracks.least) (take tracks.used tracks.weights) room → take tracks.used lengths ≡ track_lengths needs rules room
unfolding track_lengths
lengths-read needs rules tracks lengths room are is =
    is ∙ ap (λ (xs : List ℕ). widths_of xs (take tracks.used tracks.weights) room) are.least ∙ ap (λ (ys : List ℕ). widths_of (track_leasts needs rules) ys room) are.weights

pub side-size : (axis : Axis) (widgets : Widgets) (id : ℕ) → side axis (size_for widgets id) ≡ least_of (rows_of widgets) axis (row_for widgets id)
side-size Across widgets id = refl
side-size Down widgets id = refl

-- a numbered widget's own span begins near the screen
pub whole-near : (widgets : Widgets) (id : ℕ) (axis : Axis) (span : Span) → IsWidgets widgets → IsLive widgets id → span ≡ span_along (rows_of widgets) axis (row_for widgets id) → BeginsNear span
whole-near widgets id axis span valid live is = subst BeginsNear (sym is) (span-near widgets id axis valid live)

-- a measured child of a numbered widget is in range
pub kid-measured : (widgets : Widgets) (id : ℕ) (child : Child) → IsWidgets widgets → parent_id widgets child.key ≡ Some id → child ≡ child_for widgets child.key → IsMeasured child
kid-measured widgets id child valid parent is = subst IsMeasured (sym is) (child-measured widgets id child.key valid parent)

-- its track is one of those in use
pub track-within : (axis : Axis) (widgets : Widgets) (id : ℕ) (child : Child) (side : Side) → IsWidgets widgets → parent_id widgets child.key ≡ Some id → child ≡ child_for widgets child.key → HasTracks axis widgets id side → track_in axis child.cell ≤ side.used
track-within axis widgets id child side valid parent is tracks =
    let used = track-used widgets id child.key axis valid parent in
    let same : track_in axis child.cell ≡ track_in axis (cell_of (row_for widgets child.key)) = ap (λ (c : Child). track_in axis c.cell) is in
    omega (arith, used, same, tracks.used)

pub track-some : (axis : Axis) (child : Child) → IsMeasured child → 1 ≤ track_in axis child.cell
track-some Across child is = is.column.0
track-some Down child is = is.line.0

-- the lengths of the tracks in use
pub lengths-short : (axis : Axis) (widgets : Widgets) (id : ℕ) (side : Side) → IsWidgets widgets → IsLive widgets id → side.span ≡ span_along (rows_of widgets) axis (row_for widgets id) → HasTracks axis widgets id side → All (λ n. n ≤ 4128) (take side.used side.lengths)
lengths-short axis widgets id side valid live is tracks =
    let near = whole-near widgets id axis side.span valid live is in
    let small = tracks_are_small (rows_of widgets) axis (row_for widgets id) (widgets_are_fit widgets valid) (key-found widgets id valid live) in
    subst (λ (xs : List ℕ). All (λ n. n ≤ 4128) xs) (sym tracks.lengths) (small.lengths side.span.len near.len)

-- how far a Frame moves its child
pub moved-between : (axis : Axis) (widgets : Widgets) (id : ℕ) (offset : ℤ) → IsWidgets widgets → IsLive widgets id → (row_for widgets id).kind ≡ Frame → offset ≡ offset_of axis (rows_of widgets) (row_for widgets id) → IsBetween (pos 0) (pos 4096) offset
moved-between axis widgets id offset valid live frame is = subst (λ (z : ℤ). IsBetween (pos 0) (pos 4096) z) (sym is) (offset-between (rows_of widgets) axis (row_for widgets id) frame (row-fit widgets id valid live))

-- the span of a child's track begins near the span that it is cut from
pub cut-near : (lengths : List ℕ) (span : Span) (track : ℕ) → length lengths ≤ 16 → All (λ n. n ≤ 4128) lengths → BeginsNear span → IsBetween (neg_ℤ (pos 2000000)) (pos 2000000) (track_span lengths span track).from
unfolding track_span
cut-near lengths span track few each near =
    let before = sum_take_small (track - 1) lengths few each in
    record { low = omega (arith, ints, near.low, before); high = omega (arith, ints, near.high, before) }

pub content-near : (axis : Axis) (span : Span) → BeginsNear span → IsBetween (neg_ℤ (pos 2000000)) (pos 2000000) (content axis span).from
content-near Across span near = record { low = omega (arith, ints, near.low); high = omega (arith, ints, near.high) }
content-near Down span near = record { low = omega (arith, ints, near.low); high = omega (arith, ints, near.high) }

-- how many lengths are in use
pub used-length : (side : Side) → side.used ≤ 16 → length side.lengths ≡ 16 → length (take side.used side.lengths) ≡ side.used
used-length side few all = omega (arith, length-take side.used side.lengths)

pub few-length : (side : Side) → side.used ≤ 16 → length (take side.used side.lengths) ≤ 16
few-length side few = omega (arith, length-take side.used side.lengths)
