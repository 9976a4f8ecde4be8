-- The sizes that widgets need by themselves, and what bounds them.
use Rattle.std.proofs.Common.{◌≡◌, ℕ, ◌+◌, ◌≤◌, List, length, Some, None, ℤ, arith, length-append}
use Rattle.std.specs.Fmt.{signed_decimal}
use Rattle.kind_core.specs.declared.kinds.Kind.{Kind}
use Rattle.kind_core.specs.declared.kinds.Attr.TheVariants.{Text}
use Rattle.widget_model.specs.Rows.{Row}
use Rattle.widget_model.specs.Widgets.{Widgets, rows_of, IsLive}
use Rattle.tree_core.proofs.Listed.{numbered_place}
use Rattle.scene_model.specs.declared.axis.Axis.TheVariants.{Across, Down}
use Rattle.scene_model.specs.Least.{own_size}
use Rattle.scene_model.specs.Values.{label_of, text_of, linked_value}
use Rattle.scene_model.proofs.FitRows.{label_of-text}
use Rattle.scene_model.proofs.Leasts.{own_size-most, IsFitRow-at}
use Rattle.widget_model.specs.Forest.{IsWidgets}
use Rattle.scene_model.proofs.FitWidgets.{widgets_are_fit}
use Rattle.scene_core.specs.Children.{row_for}
use Rattle.scene_core.proofs.Numbered.{live-there}

pub label_parts : (rows : List Row) (row : Row) (own shown : ℕ) (value : ℤ) → linked_value rows row ≡ Some value → own ≡ length (text_of Text row) → shown ≡ length (signed_decimal value) → own + shown ≡ length (label_of rows row)
label_parts rows row own shown value linked o s = rw linked (omega (arith, length-append (text_of Text row) (signed_decimal value)))

pub label_small : (widgets : Widgets) (id : ℕ) → IsWidgets widgets → IsLive widgets id → length (label_of (rows_of widgets) (row_for widgets id)) ≤ 72
label_small widgets id valid live =
    let row = row_for widgets id in
    let place = numbered_place widgets.entries id row (live-there widgets id live) in
    let fit = IsFitRow-at (rows_of widgets) place.0 row (widgets_are_fit widgets valid) place.1 in
    (label_of-text (rows_of widgets) row (widgets_are_fit widgets valid).values fit.values).length

pub label_plain : (rows : List Row) (row : Row) (own : ℕ) → linked_value rows row ≡ None → own ≡ length (text_of Text row) → own ≡ length (label_of rows row)
label_plain rows row own linked o = rw linked o

pub record IsSmallOwn (widgets : Widgets) (id : ℕ) (kind : Kind) : Type 0 where
  pub width : (own_size kind (rows_of widgets) (row_for widgets id)).0 ≤ 4096
  pub height : (own_size kind (rows_of widgets) (row_for widgets id)).1 ≤ 4096

pub own_small : (widgets : Widgets) (id : ℕ) (kind : Kind) → IsWidgets widgets → IsLive widgets id → kind ≡ (row_for widgets id).kind → IsSmallOwn widgets id kind
own_small widgets id kind valid live is =
    let row = row_for widgets id in
    let place = numbered_place widgets.entries id row (live-there widgets id live) in
    let fit = IsFitRow-at (rows_of widgets) place.0 row (widgets_are_fit widgets valid) place.1 in
    record {
      width = rw is (own_size-most (rows_of widgets) Across row (widgets_are_fit widgets valid).values fit);
      height = rw is (own_size-most (rows_of widgets) Down row (widgets_are_fit widgets valid).values fit);
    }
