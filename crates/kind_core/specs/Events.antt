-- Which events a kind gives.
use Rattle.std.specs.Prelude.{Bool, true, false}
use Rattle.kind_core.specs.declared.kinds.Kind.{Kind}
use Rattle.kind_core.specs.declared.kinds.Kind.TheVariants.{Window, Button, Entry, Scale, Scrollbar, VScreen}
use Rattle.kind_core.specs.declared.kinds.EventKind.{EventKind}
use Rattle.kind_core.specs.declared.kinds.EventKind.TheVariants.{Press, Release, Click, Key, Change, Motion, Move}

-- A Window tells when it was moved, a Button of the pointer, an Entry of keys and of its new text, a Scale
-- or Scrollbar of its new value, and a VScreen of all that happens over it. The other kinds give none.
abbrev pub gives_event : Kind → EventKind → Bool
gives_event Window Move = true
gives_event Button Press = true
gives_event Button Release = true
gives_event Button Click = true
gives_event Entry Key = true
gives_event Entry Change = true
gives_event Scale Change = true
gives_event Scrollbar Change = true
gives_event VScreen Press = true
gives_event VScreen Release = true
gives_event VScreen Motion = true
gives_event VScreen Key = true
gives_event _ _ = false
