-- How many widgets each client has: a list has a slot for each client, 1 to 16, at its number.
use Rattle.std.specs.Prelude.{ℕ, ◌≡◌, ◌<◌, ◌+◌, ◌-◌, List, length, replicate, slice_index_or, slice_set, Option, Some, None}
use Rattle.kind_core.specs.declared.kinds.Kind.{Kind}
use Rattle.kind_core.specs.declared.kinds.Kind.TheVariants.{Window, VScreen}
use Rattle.widget_model.specs.Rows.{Row}
use Rattle.widget_model.specs.Named.{rows_counted}
use Rattle.widget_model.specs.Kinds.{any_kind, counts_with}
use Rattle.row_store.specs.declared.count.Count.{Count}

abbrev pub no_count : Count
no_count = record { widgets = 0; windows = 0; screens = 0 }

-- how many are counted: all widgets, or those that are counted with a kind
abbrev pub number_alike : Option Kind → Count → ℕ
number_alike None count = count.widgets
number_alike (Some Window) count = count.windows
number_alike (Some VScreen) count = count.screens
number_alike (Some _) count = 0

-- the count with one more widget of the kind, and with one less
abbrev pub one_more : Kind → Count → Count
one_more Window count = record count { widgets = count.widgets + 1; windows = count.windows + 1 }
one_more VScreen count = record count { widgets = count.widgets + 1; screens = count.screens + 1 }
one_more _ count = record count { widgets = count.widgets + 1 }

abbrev pub one_less : Kind → Count → Count
one_less Window count = record count { widgets = count.widgets - 1; windows = count.windows - 1 }
one_less VScreen count = record count { widgets = count.widgets - 1; screens = count.screens - 1 }
one_less _ count = record count { widgets = count.widgets - 1 }

abbrev pub no_counts : List Count
no_counts = replicate 17 no_count

-- the count of the client
abbrev pub count_in : List Count → ℕ → Count
count_in counts client = slice_index_or counts client no_count

-- the counts after the client gained a widget of the kind, lost one of the kind, or lost all of its widgets
abbrev pub gained : ℕ → Kind → List Count → List Count
gained client kind counts = slice_set counts client (one_more kind (count_in counts client))

abbrev pub lost : ℕ → Kind → List Count → List Count
lost client kind counts = slice_set counts client (one_less kind (count_in counts client))

abbrev pub forgotten : ℕ → List Count → List Count
forgotten client counts = slice_set counts client no_count

-- Each client's count says how many rows it has, how many of them are Windows and how many are VScreens.
-- There are slots 0 to 16.
pub record AreCounts (counts : List Count) (rows : List Row) : Type 0 where
  pub slots : length counts ≡ 17
  pub widgets : (client : ℕ) → client < 17 → (count_in counts client).widgets ≡ rows_counted client any_kind rows
  pub windows : (client : ℕ) → client < 17 → (count_in counts client).windows ≡ rows_counted client (counts_with Window) rows
  pub screens : (client : ℕ) → client < 17 → (count_in counts client).screens ≡ rows_counted client (counts_with VScreen) rows
