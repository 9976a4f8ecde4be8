-- A client's least lengths and places depend on its own rows alone.
use Rattle.std.proofs.Common.{◌≡◌, ℕ, zero, suc, ◌+◌, ◌*◌, ℤ, false, cond, nat_eq, List, map, length, Option, Some, None, refl, sym, ap, ◌∙◌}
use Rattle.std.specs.Option.{option_map, option_map_or, option_and_then}
use Rattle.std.specs.Str.{bytes_eq}
use Rattle.kind_core.specs.declared.kinds.Kind.{Kind}
use Rattle.kind_core.specs.declared.kinds.Kind.TheVariants.{Window, Grid, Frame, Button, Label, Entry, Scale, Scrollbar, Variable, VScreen}
use Rattle.kind_core.specs.declared.kinds.Attr.TheVariants.{Value, Text, Y}
use Rattle.kind_core.specs.declared.shapes.Cell.{Cell}
use Rattle.kind_core.specs.Effective.{label_text, frame_offset}
use Rattle.widget_model.specs.Rows.{Row}
use Rattle.widget_model.specs.Named.{row_named, own_rows}
use Rattle.widget_model.specs.Trees.{is_child, most_levels}
use Rattle.widget_model.proofs.OwnRows.{row_named-agree}
use Rattle.scene_model.specs.declared.axis.Axis.{Axis}
use Rattle.scene_model.specs.declared.axis.Axis.TheVariants.{Across, Down}
use Rattle.scene_model.specs.declared.axis.Span.{Span}
use Rattle.scene_model.specs.Spans.{along, rect_of}
use Rattle.scene_model.specs.Values.{number_of, text_of, linked_value, offset_of}
use Rattle.scene_model.specs.Tracks.{Need, need_of, needs_of, children_of, rules_of, grid_least}
use Rattle.scene_model.specs.Least.{own_size, is_grid, least_by, least_in, least_of}
use Rattle.scene_model.specs.Placing.{child_span, root_span, parent_row, span_in, span_along, place_in}
use Rattle.scene_model.specs.DependLaws.{PlacesDependOnOwnRows}
use Rattle.scene_model.proofs.FromParents.{child_span-alike}
use Rattle.scene_model.proofs.Lists.{map-filter-same, filter-agree}
use Rattle.scene_model.proofs.Parents.{HangsFrom-parent_row, IsChildOf-is_child}

module _ (client : ℕ) (a b : List Row) (same : own_rows client a ≡ own_rows client b) where
  linked_value-agree : (row : Row) → row.client ≡ client → linked_value a row ≡ linked_value b row
  unfolding linked_value
  linked_value-agree row own = by row.link
    where
      by : (o : Option (List ℕ)) → option_map (number_of Value) (option_and_then (row_named a row.client) o) ≡ option_map (number_of Value) (option_and_then (row_named b row.client) o)
      by None = refl
      by (Some name) =
          ap (λ (owner : ℕ). option_map (number_of Value) (row_named a owner name)) own
          ∙ ap (option_map (number_of Value)) (row_named-agree client name a b same)
          ∙ ap (λ (owner : ℕ). option_map (number_of Value) (row_named b owner name)) (sym own)

  own_size-agree : (kind : Kind) (row : Row) → row.client ≡ client → own_size kind a row ≡ own_size kind b row
  own_size-agree Label row own = ap (λ (linked : Option ℤ). (6 * length (label_text (text_of Text row) linked) + 4, 12)) (linked_value-agree row own)
  own_size-agree Button row own = refl
  own_size-agree Entry row own = refl
  own_size-agree Scale row own = refl
  own_size-agree Scrollbar row own = refl
  own_size-agree VScreen row own = refl
  own_size-agree Frame row own = refl
  own_size-agree Window row own = refl
  own_size-agree Grid row own = refl
  own_size-agree Variable row own = refl

  -- the children of a client's widget are its own
  children_of-agree : (row : Row) → row.client ≡ client → children_of a row ≡ children_of b row
  children_of-agree row own =
      filter-agree (λ (child : Row). nat_eq row.client child.client) (λ (child : Row). option_map_or (λ (attached : List ℕ × Cell). bytes_eq row.name attached.0) child.attached false) a b
      (ap (λ (owner : ℕ). own_rows owner a) own ∙ same ∙ ap (λ (owner : ℕ). own_rows owner b) (sym own))

  needs_of-agree : (f g : Row → ℕ) (axis : Axis) (row : Row) → row.client ≡ client → ((child : Row) → child.client ≡ client → f child ≡ g child) → needs_of f axis a row ≡ needs_of g axis b row
  needs_of-agree f g axis row own each =
      map-filter-same (need_of f axis) (need_of g axis) (is_child row.client row.name) a
      (λ i child there is. ap (λ (least : ℕ). need_of (λ other. least) axis child) (each child ((IsChildOf-is_child row.client row.name child is).owner ∙ own)))
      ∙ ap (map (need_of g axis)) (children_of-agree row own)

  least_in-agree : (most : ℕ) (axis : Axis) (row : Row) → row.client ≡ client → least_in most a axis row ≡ least_in most b axis row
  unfolding least_by
  least_in-agree zero axis row own = refl
  least_in-agree (suc most) axis row own =
      ap (λ (needs : List Need). cond (is_grid row.kind) (grid_least needs (rules_of axis row)) (along axis (own_size row.kind a row).0 (own_size row.kind a row).1))
      (needs_of-agree (least_in most a axis) (least_in most b axis) axis row own (λ child owned. least_in-agree most axis child owned))
      ∙ ap (λ (size : ℕ × ℕ). cond (is_grid row.kind) (grid_least (needs_of (least_in most b axis) axis b row) (rules_of axis row)) (along axis size.0 size.1)) (own_size-agree row.kind row own)

  least_of-agree : (axis : Axis) (row : Row) → row.client ≡ client → least_of a axis row ≡ least_of b axis row
  unfolding least_of
  least_of-agree axis row own = least_in-agree most_levels axis row own

  offset_of-agree : (axis : Axis) (row : Row) → row.client ≡ client → offset_of axis a row ≡ offset_of axis b row
  offset_of-agree Across row own = refl
  offset_of-agree Down row own = ap (λ (linked : Option ℤ). frame_offset linked (number_of Y row)) (linked_value-agree row own)

  child_span-agree : (kind : Kind) (axis : Axis) (parent : Row) (span : Span) (row : Row) → parent.client ≡ client → row.client ≡ client → child_span kind axis a parent span row ≡ child_span kind axis b parent span row
  child_span-agree kind axis parent span row upper own =
      child_span-alike a b kind axis parent span row
      (record {
        needs = needs_of-agree (least_of a axis) (least_of b axis) axis parent upper (λ child owned. least_of-agree axis child owned);
        least = least_of-agree axis row own;
        offset = offset_of-agree axis parent upper;
      })

  parent_row-agree : (row : Row) → row.client ≡ client → parent_row a row ≡ parent_row b row
  parent_row-agree row own = by row.attached
    where
      by : (o : Option (List ℕ × Cell)) → option_and_then (λ (attached : List ℕ × Cell). row_named a row.client attached.0) o ≡ option_and_then (λ (attached : List ℕ × Cell). row_named b row.client attached.0) o
      by None = refl
      by (Some attached) =
          ap (λ (owner : ℕ). row_named a owner attached.0) own
          ∙ row_named-agree client attached.0 a b same
          ∙ ap (λ (owner : ℕ). row_named b owner attached.0) (sym own)

  span_in-agree : (most : ℕ) (axis : Axis) (row : Row) → row.client ≡ client → span_in most a axis row ≡ span_in most b axis row
  span_in-agree zero axis row own = refl
  span_in-agree (suc most) axis row own =
      by (λ parent owned. span_in-agree most axis parent owned) (parent_row a row) refl
      ∙ ap (λ (o : Option Row). option_map_or (λ (parent : Row). child_span parent.kind axis b parent (span_in most b axis parent) row) o (root_span row.kind axis row)) (parent_row-agree row own)
    where
      by : ((parent : Row) → parent.client ≡ client → span_in most a axis parent ≡ span_in most b axis parent) → (o : Option Row) → parent_row a row ≡ o
          → option_map_or (λ (parent : Row). child_span parent.kind axis a parent (span_in most a axis parent) row) o (root_span row.kind axis row)
          ≡ option_map_or (λ (parent : Row). child_span parent.kind axis b parent (span_in most b axis parent) row) o (root_span row.kind axis row)
      by rest None is = refl
      by rest (Some parent) is =
          let owned : parent.client ≡ client = (HangsFrom-parent_row a row parent is).client ∙ own in
          child_span-agree parent.kind axis parent (span_in most a axis parent) row owned own
          ∙ ap (λ (span : Span). child_span parent.kind axis b parent span row) (rest parent owned)

  span_along-agree : (axis : Axis) (row : Row) → row.client ≡ client → span_along a axis row ≡ span_along b axis row
  unfolding span_along
  span_along-agree axis row own = span_in-agree most_levels axis row own

pub places_depend_on_own_rows : PlacesDependOnOwnRows
unfolding place_in
places_depend_on_own_rows a b row same =
    record {
      leasts = λ axis. least_of-agree row.client a b same axis row refl;
      spans = λ axis. span_along-agree row.client a b same axis row refl;
      places =
          ap (λ (span : Span). rect_of span (span_along a Down row)) (span_along-agree row.client a b same Across row refl)
          ∙ ap (rect_of (span_along b Across row)) (span_along-agree row.client a b same Down row refl);
    }
