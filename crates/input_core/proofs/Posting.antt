-- What is posted, by whether the event is bound.
use Rattle.std.proofs.Common.{ℕ, ℤ, ◌≡◌, true, List, [], ◌∷◌, Some, None, is_some, refl}
use Rattle.std.specs.Option.{option_map}
use Rattle.kind_core.specs.declared.kinds.EventKind.{EventKind}
use Rattle.widget_model.specs.Rows.{Row, binding_of}
use Rattle.widget_model.specs.Widgets.{row_at}
use Rattle.tree_core.specs.declared.id.Id.{Id}
use Rattle.desk_model.specs.InputEffects.{posted}
use Rattle.input_core.specs.Numbered.{numbered}
use Rattle.input_core.specs.Seen.{key_seen}
use Rattle.input_core.proofs.Numbers.{numbered_by}
use Rattle.input_core.proofs.Keys.{key_seen-numbered}

pub posted-bound : (es : List (ℕ × Row)) (id : Id) (event : EventKind) (a b : ℤ) (tag : List ℕ) → is_some (row_at es id.key) ≡ true → option_map (λ (row : Row). binding_of row event) (row_at es id.key) ≡ Some (Some tag) → (key_seen es id, event, a, b) ∷ [] ≡ posted event a b (numbered es id.key)
unfolding posted
posted-bound es id event a b tag live h =
    let bound : binding_of (numbered es id.key) event ≡ Some tag = numbered_by (λ (row : Row). binding_of row event) es id.key (Some tag) h in
    rw (bound, key_seen-numbered es id live) refl

pub posted-unbound : (es : List (ℕ × Row)) (id : ℕ) (event : EventKind) (a b : ℤ) → option_map (λ (row : Row). binding_of row event) (row_at es id) ≡ Some None → [] ≡ posted event a b (numbered es id)
unfolding posted
posted-unbound es id event a b h =
    let unbound : binding_of (numbered es id) event ≡ None = numbered_by (λ (row : Row). binding_of row event) es id None h in
    rw unbound refl
