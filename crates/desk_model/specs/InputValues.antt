-- The value that a Scale or Scrollbar takes from the pointer: the one at which its knob's middle is nearest to it.
use Rattle.std.specs.Prelude.{ℕ, ℤ, pos, ◌-◌, ◌*◌, ◌/◌, ◌-ℤ◌, nat_le, unsigned_abs, List, Some, if◌then◌else◌}
use Rattle.std.specs.Option.{option_map_or}
use Rattle.std.specs.Ordering.{int_eq}
use Rattle.kind_core.specs.declared.kinds.Kind.{Kind}
use Rattle.kind_core.specs.declared.kinds.Kind.TheVariants.{Scrollbar}
use Rattle.kind_core.specs.declared.kinds.Attr.TheVariants.{Max, Real, View}
use Rattle.kind_core.specs.declared.kinds.EventKind.TheVariants.{Change}
use Rattle.kind_core.specs.Effective.{clamp}
use Rattle.geom_core.specs.declared.rectangle.Rect.{Rect}
use Rattle.look_core.specs.Knob.{trough_length, scale_knob, scrollbar_knob_length}
use Rattle.widget_model.specs.Rows.{Row}
use Rattle.widget_model.specs.Keys.{key_of}
use Rattle.widget_model.specs.Pointer.{Pointer}
use Rattle.scene_model.specs.Values.{count_of, scale_of, scrollbar_of, is_vertical}
use Rattle.desk_model.specs.InputEffects.{Effects, local_x, local_y, posted}

-- Where a knob of that length begins in a trough whose place t is to be its middle, as far as it fits.
abbrev pub knob_start : (trough knob : ℕ) → (t : ℤ) → ℕ
knob_start trough knob t = unsigned_abs (clamp (t -ℤ pos (knob / 2)) (pos 0) (pos (trough - knob)))

-- A knob at the trough's one end has the value 0, at its other end `most`; where it can't move the value is 0.
unfoldable pub value_at : (trough knob most : ℕ) → (t : ℤ) → ℕ
value_at trough knob most t = if nat_le trough knob then 0 else knob_start trough knob t * most / (trough - knob)

-- The length of the knob that is drawn: a Scale's is 8 at each value.
abbrev pub knob_length : Kind → ℕ → Row → ℕ
knob_length Scrollbar trough row = scrollbar_knob_length trough (count_of Real row) (count_of View row)
knob_length _ trough row = (scale_knob trough 0 (count_of Max row)).len

-- The greatest value: a Scale's max, and what a Scrollbar's view leaves of its real length, 0 where it shows all.
abbrev pub greatest_value : Kind → Row → ℕ
greatest_value Scrollbar row = count_of Real row - count_of View row
greatest_value _ row = count_of Max row

-- The pointer's place in the trough.
abbrev pub pointed_place : Pointer → Rect → Row → ℤ
pointed_place pointer place row = if is_vertical row then local_y pointer place else local_x pointer place

-- the value that the pointer gives
unfoldable pub pointed_value : Pointer → Rect → Row → ℤ
pointed_value pointer place row =
    let trough = trough_length (is_vertical row) place.w place.h in
    pos (value_at trough (knob_length row.kind trough row) (greatest_value row.kind row) (pointed_place pointer place row))

-- the value that the widget shows
abbrev pub shown_value : List Row → Row → ℤ
shown_value rows row = shown_by row.kind
  where
    shown_by : Kind → ℤ
    shown_by Scrollbar = scrollbar_of rows row
    shown_by _ = scale_of rows row

-- whose `value` the widget shows: the Variable that it is linked to, or its own
abbrev pub value_key : Row → ℕ × List ℕ
value_key row = option_map_or (λ name. (row.client, name)) row.link (key_of row)

-- Where the value from the pointer differs from the one that the widget shows, the Variable or the widget takes it and
-- `change` is posted with it; else nothing more happens.
unfoldable pub valued : List Row → Rect → Row → Effects → Effects
valued rows place row effects =
    let value = pointed_value effects.pointer place row in
    if int_eq value (shown_value rows row) then effects
    else record effects { value = Some (value_key row, value); posts = posted Change value (pos 0) row }
