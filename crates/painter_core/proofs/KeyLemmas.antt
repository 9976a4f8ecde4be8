-- From numbers to keys: the row and the place of a numbered widget, and its children in their slots.
use Rattle.std.proofs.Common.{◌≡◌, ℕ, ◌+◌, ◌-◌, ◌*◌, ◌/◌, ◌%◌, ◌<◌, pos, sym, ap, ◌∙◌, arith}
use Rattle.std.specs.Prelude.{Option, Some}
use Rattle.std.specs.Option.{option_map, option_map_or}
use Rattle.geom_core.specs.declared.rectangle.Rect.{Rect}
use Rattle.widget_model.specs.Rows.{Row, IsIndex}
use Rattle.widget_model.specs.Keys.{key_of, row_of}
use Rattle.widget_model.specs.Widgets.{Widgets, rows_of, row_at}
use Rattle.widget_model.specs.Forest.{IsWidgets}
use Rattle.widget_model.specs.Relatives.{child_id, parent_id}
use Rattle.tree_core.specs.Children.{cells_of}
use Rattle.tree_core.proofs.Listed.{row_named-row}
use Rattle.scene_model.specs.Placing.{place_in}
use Rattle.scene_model.specs.Showing.{place_of}
use Rattle.scene_core.specs.declared.view.View.{View}
use Rattle.scene_core.specs.View.{scene_of}
use Rattle.scene_core.proofs.ChildNumbers.{parent_id-found}
use Rattle.painter_core.specs.Stage.{rect_at, child_in_slot, slots_of}

-- the row of a number is the one of its key
pub row_of-number : (widgets : Widgets) (id : ℕ) (row : Row) → IsWidgets widgets → row_at widgets.entries id ≡ Some row → row_of (rows_of widgets) (key_of row) ≡ Some row
row_of-number widgets id row valid there = row_named-row widgets.entries id row valid.numbered.own_numbers valid.rows.names there

-- its place is that of its key
pub place_of-number : (view : View) (id : ℕ) (row : Row) → IsWidgets view.tree.now → row_at view.tree.now.entries id ≡ Some row → place_of (scene_of view) (key_of row) ≡ rect_at view.tree.now id
unfolding place_of rect_at
place_of-number view id row valid there =
    let rows = rows_of view.tree.now in
    let none : Rect = record { x = pos 0; y = pos 0; w = 0; h = 0 } in
    ap (λ (o : Option Row). option_map_or (place_in rows) o none) (row_of-number view.tree.now id row valid there)
    ∙ sym (ap (λ (o : Option Row). option_map_or (place_in rows) o none) there)

slot_column : (column line : ℕ) → IsIndex column → IsIndex line → ((column - 1) * 16 + (line - 1)) / 16 + 1 ≡ column
slot_column column line c l = omega (arith, c.0, c.1, l.0, l.1)

slot_line : (column line : ℕ) → IsIndex column → IsIndex line → ((column - 1) * 16 + (line - 1)) % 16 + 1 ≡ line
slot_line column line c l = omega (arith, c.0, c.1, l.0, l.1)

-- what hangs in a numbered widget is in one of its slots
pub record HasSlot (widgets : Widgets) (id kid : ℕ) : Type 0 where
  pub slot : ℕ
  pub within : slot < slots_of widgets id
  pub found : child_in_slot widgets id slot ≡ Some kid

pub HasSlot-child : (widgets : Widgets) (id kid : ℕ) → IsWidgets widgets → parent_id widgets kid ≡ Some id → HasSlot widgets id kid
HasSlot-child widgets id kid valid parent =
    let at = parent_id-found widgets id kid valid parent in
    let slots : slots_of widgets id ≡ cells_of at.upper.kind = ap (λ (o : Option Row). option_map_or cells_of (option_map (λ (row : Row). row.kind) o) 0) at.upper_there in
    record {
      slot = (at.cell.column - 1) * 16 + (at.cell.row - 1);
      within = omega (arith, at.cell_is.within, slots);
      found =
          ap (λ (n : ℕ). child_id widgets id n (((at.cell.column - 1) * 16 + (at.cell.row - 1)) % 16 + 1)) (slot_column at.cell.column at.cell.row at.cell_is.column at.cell_is.line)
          ∙ ap (child_id widgets id at.cell.column) (slot_line at.cell.column at.cell.row at.cell_is.column at.cell_is.line)
          ∙ at.found;
    }
