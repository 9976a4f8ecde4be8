-- The tag that a live widget's event is bound to.
use Rattle.std.proofs.Common.{◌≡◌, ℕ, List, Option, Some, ap, ◌∙◌}
use Rattle.std.specs.Option.{option_map, option_and_then}
use Rattle.kind_core.specs.declared.kinds.EventKind.{EventKind}
use Rattle.widget_model.specs.Rows.{Row, binding_of}
use Rattle.widget_model.specs.Widgets.{Widgets, IsLive, row_at, rows_of}
use Rattle.widget_model.specs.Forest.{IsWidgets}
use Rattle.desk_model.specs.Feeding.{tag_of}
use Rattle.tree_core.specs.declared.id.Id.{Id}
use Rattle.input_core.specs.Seen.{key_seen}
use Rattle.input_core.proofs.Numbers.{numbered_by}
use Rattle.input_core.proofs.Keys.{key_seen-numbered, row_of-numbered}

pub tag_of-live : (w : Widgets) (id : Id) (event : EventKind) (tag : Option (List ℕ)) → IsWidgets w → IsLive w id.key → option_map (λ (row : Row). binding_of row event) (row_at w.entries id.key) ≡ Some tag → tag_of (rows_of w) (key_seen w.entries id) event ≡ tag
tag_of-live w id event tag kept live has =
    ap (λ (key : ℕ × List ℕ). tag_of (rows_of w) key event) (key_seen-numbered w.entries id live)
    ∙ ap (option_and_then (λ (row : Row). binding_of row event)) (row_of-numbered w id.key kept live)
    ∙ numbered_by (λ (row : Row). binding_of row event) w.entries id.key tag has
