-- The values of a row fit its kind's table: an attribute that the kind has is a number in its range or a text of at most
-- 64 bytes that print, and one that it hasn't has no value. The rules of its columns and rows are in their range, and only a VScreen has a
-- film.
use Rattle.std.specs.Prelude.{◌≡◌, ℕ, Bool, ◌&&◌, nat_eq, nat_le, List, length, Option, Some, None, IfSome, is_none, is_ok}
use Rattle.std.specs.List.{list_all, All}
use Rattle.kind_core.specs.declared.kinds.Kind.{Kind}
use Rattle.kind_core.specs.declared.kinds.Kind.TheVariants.{VScreen}
use Rattle.kind_core.specs.declared.kinds.Attr.{Attr}
use Rattle.kind_core.specs.declared.values.Value as value
use Rattle.kind_core.specs.Attributes.{domain_of, first_value, judged}
use Rattle.vscreen_core.specs.FilmState.{IsFilm}
use Rattle.widget_model.specs.Rows.{Row, all_attrs, attr_of}

-- whether the table lets the kind's attribute have that value, or none
abbrev pub fits_attr : Kind → Attr → Option value.Value → Bool
fits_attr kind attr None = is_none (first_value (domain_of kind attr))
fits_attr kind attr (Some v) = is_ok (judged (domain_of kind attr) v)

abbrev pub fits_table : Row → Bool
fits_table row = nat_eq (length row.values) 13 && list_all (λ attr. fits_attr row.kind attr (attr_of row attr)) all_attrs

-- A rule has a size of at most 1,024 pixels and a weight of at most 1,000.
abbrev pub fits_rule : ℕ × ℕ → Bool
fits_rule rule = nat_le rule.0 1024 && nat_le rule.1 1000

abbrev pub fits_rules : Row → Bool
fits_rules row = list_all fits_rule row.column_rules && list_all fits_rule row.row_rules

-- A row has a rule for each of 16 columns and 16 rows, and a slot for the tag of each of the seven events.
abbrev pub has_slots : Row → Bool
has_slots row = nat_eq (length row.column_rules) 16 && (nat_eq (length row.row_rules) 16 && nat_eq (length row.bindings) 7)

-- all that holds of a row by itself
abbrev pub is_fit : Row → Bool
is_fit row = fits_table row && (fits_rules row && has_slots row)

-- a film is a whole one, of its size, and its row is a VScreen
abbrev pub IsFitFilm : Row → Type 0
IsFitFilm row = IfSome row.film (λ film. (row.kind ≡ VScreen) × IsFilm film)

abbrev pub HaveFitFilms : List Row → Type 0
HaveFitFilms rows = All IsFitFilm rows
