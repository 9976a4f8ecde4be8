-- What each change makes of a row.
use Rattle.widget_model.specs.Rows.{Row, IsIndex, with_attr, with_column_rule, with_row_rule, with_link, with_binding, with_attached}
use Rattle.row_store.specs.declared.change.Change.{Change}
use Rattle.row_store.specs.declared.change.Change.TheVariants.{Attribute, ColumnRule, RowRule, Link, Binding, Attached}

abbrev pub changed_by : Change → Row → Row
changed_by (Attribute attr value) row = with_attr attr value row
changed_by (ColumnRule index rule) row = with_column_rule index rule row
changed_by (RowRule index rule) row = with_row_rule index rule row
changed_by (Link variable) row = with_link variable row
changed_by (Binding event tag) row = with_binding event tag row
changed_by (Attached attached) row = with_attached attached row

-- a change of a rule names a column or row that there is
abbrev pub CanBeMade : Change → Type 0
CanBeMade (ColumnRule index rule) = IsIndex index
CanBeMade (RowRule index rule) = IsIndex index
CanBeMade _ = Unit {0}
