-- Rows by number: what the tree says of a live number is said of its row.
use Rattle.std.proofs.Common.{ℕ, ◌≡◌, Bool, true, List, [], Option, Some, None, is_some, refl, sym}
use Rattle.std.specs.List.{list_all}
use Rattle.std.specs.Option.{option_map, unwrap_or}
use Rattle.kind_core.specs.declared.kinds.Kind.{Kind}
use Rattle.kind_core.specs.declared.kinds.Kind.TheVariants.{Window}
use Rattle.widget_model.specs.Rows.{Row, new_row}
use Rattle.widget_model.specs.Widgets.{Widgets, rows_of, row_at}
use Rattle.widget_model.proofs.Hanging.{all_at}
use Rattle.tree_core.proofs.Listed.{numbered_place}
use Rattle.input_core.specs.Numbered.{numbered}

-- what is said of the row of the number
pub numbered_by : {T : Type 0} (f : Row → T) (es : List (ℕ × Row)) (id : ℕ) (t : T) → option_map f (row_at es id) ≡ Some t → f (numbered es id) ≡ t
unfolding numbered
numbered_by f es id t h = by (row_at es id) h
  where
    by : (o : Option Row) → option_map f o ≡ Some t → f (unwrap_or o (new_row 0 [] Window)) ≡ t
    by None k = absurd (cc)
    by (Some row) k = cc

pub numbered_kind : (es : List (ℕ × Row)) (id : ℕ) (kind : Kind) → option_map (λ (row : Row). row.kind) (row_at es id) ≡ Some kind → kind ≡ (numbered es id).kind
numbered_kind es id kind h = sym (numbered_by (λ (row : Row). row.kind) es id kind h)

-- a live number's row
pub numbered_row : (es : List (ℕ × Row)) (id : ℕ) → is_some (row_at es id) ≡ true → row_at es id ≡ Some (numbered es id)
unfolding numbered
numbered_row es id h = by (row_at es id) h
  where
    by : (o : Option Row) → is_some o ≡ true → o ≡ Some (unwrap_or o (new_row 0 [] Window))
    by None k = absurd (cc)
    by (Some row) k = refl

-- what holds of all rows holds of a live number's
pub all_numbered : (test : Row → Bool) (w : Widgets) (id : ℕ) → list_all test (rows_of w) ≡ true → is_some (row_at w.entries id) ≡ true → test (numbered w.entries id) ≡ true
all_numbered test w id all live =
    let place = numbered_place w.entries id (numbered w.entries id) (numbered_row w.entries id live) in
    all_at test (rows_of w) place.0 (numbered w.entries id) all place.1
