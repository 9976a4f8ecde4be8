-- What the desk says of the looks that its last call touched.
use Rattle.desk_model.specs.Seen as seen
use Rattle.touch_rules.specs.Touched.{Numbered, TellsLooks}
use Rattle.desk_core.specs.View.{DeskView}

-- the widgets and open windows by their numbers, and what they show
abbrev pub numbered_of : DeskView → Numbered
numbered_of view = record { widgets = view.widgets; windows = view.windows; scene = seen.scene_of view.desk }

-- The told numbers are exactly those of the widgets that were shown before the call, are shown after it and look
-- different.
abbrev pub TellsTouched : DeskView → DeskView → Type 0
TellsTouched old new = TellsLooks (numbered_of old) (numbered_of new) new.touched
