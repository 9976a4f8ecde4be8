-- A row is one widget of a client: its name and kind, the values of its attributes, where it is attached,
-- the rules of its columns and rows, the Variable that it is linked to, the tags of its bindings, and the film of a
-- VScreen that has one. Other rows of the same client are named by their names.
use Rattle.std.specs.Prelude.{ℕ, ◌-◌, ◌≤◌, List, [], ◌∷◌, Option, Some, None, map, replicate, slice_index_or, slice_set}
use Rattle.kind_core.specs.declared.kinds.Kind.{Kind}
use Rattle.kind_core.specs.declared.kinds.Attr.{Attr}
use Rattle.kind_core.specs.declared.kinds.Attr.TheVariants.{X, Y, W, H, Title, Text, Caret, Cols, Value, Max, Real, View, Vert}
use Rattle.kind_core.specs.declared.kinds.EventKind.{EventKind}
use Rattle.kind_core.specs.declared.kinds.EventKind.TheVariants.{Press, Release, Click, Key, Change, Motion, Move}
use Rattle.kind_core.specs.declared.values.Value as value
use Rattle.kind_core.specs.declared.shapes.Cell.{Cell}
use Rattle.kind_core.specs.Attributes.{domain_of, first_value}
use Rattle.vscreen_core.specs.FilmState.{FilmState}

-- `attached` is the parent's name and the cell in it, none for a row without a parent. A rule is a size and a
-- weight; the rules are those of columns and rows 1 to 16.
pub record Row : Type 0 where
  pub client : ℕ
  pub name : List ℕ
  pub kind : Kind
  pub values : List (Option value.Value)
  pub attached : Option (List ℕ × Cell)
  pub column_rules : List (ℕ × ℕ)
  pub row_rules : List (ℕ × ℕ)
  pub link : Option (List ℕ)
  pub bindings : List (Option (List ℕ))
  pub film : Option FilmState

-- The attributes in their order, and the slot of each, from 0: a row's values stand in it.
abbrev pub all_attrs : List Attr
all_attrs = X ∷ Y ∷ W ∷ H ∷ Title ∷ Text ∷ Caret ∷ Cols ∷ Value ∷ Max ∷ Real ∷ View ∷ Vert ∷ []

abbrev pub attr_slot : Attr → ℕ
attr_slot X = 0
attr_slot Y = 1
attr_slot W = 2
attr_slot H = 3
attr_slot Title = 4
attr_slot Text = 5
attr_slot Caret = 6
attr_slot Cols = 7
attr_slot Value = 8
attr_slot Max = 9
attr_slot Real = 10
attr_slot View = 11
attr_slot Vert = 12

-- The slot of each kind of event, from 0: a row's bindings stand in it.
abbrev pub event_slot : EventKind → ℕ
event_slot Press = 0
event_slot Release = 1
event_slot Click = 2
event_slot Key = 3
event_slot Change = 4
event_slot Motion = 5
event_slot Move = 6

-- At first each attribute has the default of the kind's table, and none where the kind has it not.
unfoldable pub default_at : Kind → Attr → Option value.Value
default_at kind attr = first_value (domain_of kind attr)

unfoldable pub first_values : Kind → List (Option value.Value)
first_values kind = map (default_at kind) all_attrs

-- A new row stands alone: no parent, rules of 0, no link, no binding, no film.
unfoldable pub new_row : ℕ → List ℕ → Kind → Row
new_row client name kind =
    record {
      client = client;
      name = name;
      kind = kind;
      values = first_values kind;
      attached = None;
      column_rules = replicate 16 (0, 0);
      row_rules = replicate 16 (0, 0);
      link = None;
      bindings = replicate 7 None;
      film = None;
    }

-- the value of the attribute, none where the kind hasn't it
abbrev pub attr_of : Row → Attr → Option value.Value
attr_of row attr = slice_index_or row.values (attr_slot attr) None

abbrev pub with_attr : Attr → value.Value → Row → Row
with_attr attr value row = record row { values = slice_set row.values (attr_slot attr) (Some value) }

-- columns and rows are 1 to 16
abbrev pub IsIndex : ℕ → Type 0
IsIndex index = (1 ≤ index) × (index ≤ 16)

-- the rule of the column, which counts from 1
abbrev pub column_rule_of : Row → ℕ → ℕ × ℕ
column_rule_of row index = slice_index_or row.column_rules (index - 1) (0, 0)

abbrev pub with_column_rule : ℕ → ℕ × ℕ → Row → Row
with_column_rule index rule row = record row { column_rules = slice_set row.column_rules (index - 1) rule }

abbrev pub row_rule_of : Row → ℕ → ℕ × ℕ
row_rule_of row index = slice_index_or row.row_rules (index - 1) (0, 0)

abbrev pub with_row_rule : ℕ → ℕ × ℕ → Row → Row
with_row_rule index rule row = record row { row_rules = slice_set row.row_rules (index - 1) rule }

-- the tag that the event is bound to, none where it isn't bound
abbrev pub binding_of : Row → EventKind → Option (List ℕ)
binding_of row event = slice_index_or row.bindings (event_slot event) None

abbrev pub with_binding : EventKind → Option (List ℕ) → Row → Row
with_binding event tag row = record row { bindings = slice_set row.bindings (event_slot event) tag }

abbrev pub with_link : Option (List ℕ) → Row → Row
with_link variable row = record row { link = variable }

abbrev pub with_attached : Option (List ℕ × Cell) → Row → Row
with_attached attached row = record row { attached = attached }

abbrev pub with_film : Option FilmState → Row → Row
with_film film row = record row { film = film }
