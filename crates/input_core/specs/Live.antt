-- The numbers that a pointer and effects hold are live: each names a widget.
use Rattle.std.specs.Prelude.{IfSome}
use Rattle.std.specs.List.{All}
use Rattle.widget_model.specs.Widgets.{Widgets, IsLive}
use Rattle.tree_core.specs.declared.pointer.Grab.{Grab}
use Rattle.tree_core.specs.declared.pointer.Grab.TheVariants.{Nothing, Widget, Drag}
use Rattle.tree_core.specs.declared.pointer.Pointer.{Pointer}
use Rattle.input_core.specs.declared.effects.Effects.{Effects}

abbrev pub IsLiveGrab : Widgets → Grab → Type 0
IsLiveGrab widgets Nothing = Unit {0}
IsLiveGrab widgets (Widget id) = IsLive widgets id.key
IsLiveGrab widgets (Drag id dx dy) = IsLive widgets id.key

pub record HoldsLive (widgets : Widgets) (pointer : Pointer) : Type 0 where
  pub grab : IsLiveGrab widgets pointer.grab
  pub focus : IfSome pointer.focus (λ id. IsLive widgets id.key)

pub record AreLive (widgets : Widgets) (effects : Effects) : Type 0 where
  pub pointer : HoldsLive widgets effects.pointer
  pub raise : IfSome effects.raise (λ id. IsLive widgets id.key)
  pub value : IfSome effects.value (λ set. IsLive widgets set.0.key)
  pub text : IfSome effects.text (λ set. IsLive widgets set.0.key)
  pub caret : IfSome effects.caret (λ set. IsLive widgets set.0.key)
  pub moved : IfSome effects.moved (λ set. IsLive widgets set.0.key)
  pub posts : All (λ post. IsLive widgets post.id.key) effects.posts
