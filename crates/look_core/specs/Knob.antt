-- The trough of a Scale or Scrollbar and its knob. The trough is the whole widget; its length is the widget's
-- width, or its height where it stands upright, and a pixel's place in it is its column or its row.
use Rattle.std.specs.Prelude.{ℕ, ◌+◌, ◌-◌, ◌*◌, ◌/◌, min, max, nat_le, nat_lt, Bool, ◌&&◌, ◌==◌, if◌then◌else◌}
use Rattle.look_core.specs.declared.knob.Knob.{Knob}

abbrev pub trough_length : Bool → ℕ → ℕ → ℕ
trough_length vert w h = if vert then h else w

abbrev pub trough_place : Bool → ℕ → ℕ → ℕ
trough_place vert u v = if vert then v else u

-- whether a place of the trough is under the knob
abbrev pub is_on_knob : Knob → ℕ → Bool
is_on_knob knob t = nat_le knob.from t && nat_lt t (knob.from + knob.len)

-- A Scale's knob is 8 long. It goes from the trough's one end at the value 0 to the other at the value max, and
-- stands at 0 where the trough is shorter than 8 (subtraction stops at 0).
abbrev pub scale_knob : ℕ → ℕ → ℕ → Knob
scale_knob length value max = record { from = (length - 8) * value / max; len = 8 }

-- The line of a Scale: the middle row, or the middle column where it stands upright.
abbrev pub is_on_line : Bool → ℕ → ℕ → ℕ → ℕ → Bool
is_on_line vert w h u v = if vert then u == w / 2 else v == h / 2

-- How long a Scrollbar's knob is: as much of the trough as the view is of the real length, at least 8, and
-- never more than the trough.
abbrev pub scrollbar_knob_length : ℕ → ℕ → ℕ → ℕ
scrollbar_knob_length length real view = min length (max 8 (length * view / real))

-- A Scrollbar's knob fills the trough where the view shows all. Else it goes from the trough's one end at the
-- value 0 to the other at the value real - view.
abbrev pub scrollbar_knob : ℕ → ℕ → ℕ → ℕ → Knob
scrollbar_knob length value real view =
    let len = scrollbar_knob_length length real view in
    if nat_le real view
    then record { from = 0; len = length }
    else record { from = (length - len) * value / (real - view); len = len }
