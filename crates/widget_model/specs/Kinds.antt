-- Kinds: which can be linked, which are Variables or Windows, and which are counted together.
use Rattle.std.specs.Prelude.{Bool, true, false, Option, Some, None}
use Rattle.kind_core.specs.declared.kinds.Kind.{Kind}
use Rattle.kind_core.specs.declared.kinds.Kind.TheVariants.{Window, Frame, Label, Scale, Scrollbar, Variable, VScreen}

-- A Label, Scale, Scrollbar or Frame shows a Variable.
abbrev pub can_link : Kind → Bool
can_link Label = true
can_link Scale = true
can_link Scrollbar = true
can_link Frame = true
can_link _ = false

abbrev pub is_variable_kind : Kind → Bool
is_variable_kind Variable = true
is_variable_kind _ = false

abbrev pub is_window_kind : Kind → Bool
is_window_kind Window = true
is_window_kind _ = false

-- every kind passes
abbrev pub any_kind : Kind → Bool
any_kind kind = true

-- Windows are counted together, and so are VScreens.
abbrev pub counts_with : Kind → Kind → Bool
counts_with Window Window = true
counts_with VScreen VScreen = true
counts_with _ _ = false

-- All kinds are counted, or those that are counted with the given one.
abbrev pub counted : Option Kind → Kind → Bool
counted None kind = true
counted (Some kind) other = counts_with kind other
