-- What holds of the rows at every moment, whatever numbers they have.
use Rattle.std.specs.Prelude.{ℕ, ◌≡◌, ◌≤◌, Bool, true, List}
use Rattle.std.specs.List.{list_all}
use Rattle.std.specs.Option.{option_map_or}
use Rattle.kind_core.specs.declared.kinds.Kind.{Kind}
use Rattle.widget_model.specs.Rows.{Row}
use Rattle.widget_model.specs.Named.{row_named, rows_counted, is_kind_of, AreNamedApart}
use Rattle.widget_model.specs.Kinds.{any_kind, counts_with, is_variable_kind}
use Rattle.widget_model.specs.Clients.{is_joined}
use Rattle.widget_model.specs.Planted.{IsPlanted}
use Rattle.widget_model.specs.Fitting.{is_fit, HaveFitFilms}

-- A link leads to a Variable of the same client.
abbrev pub links_right : List Row → Row → Bool
links_right rows row = option_map_or (λ name. is_kind_of is_variable_kind (row_named rows row.client name)) row.link true

-- Each row's client is one of these and has no other row of its name. A client has at most 128 widgets, 8 Windows and
-- 8 VScreens. Rows hang right in one another, links lead to Variables, each row's values and rules fit, and only a
-- VScreen has a film, a whole one.
pub record AreRows (clients : List ℕ) (rows : List Row) : Type 0 where
  pub owners : list_all (λ row. is_joined clients row.client) rows ≡ true
  pub names : AreNamedApart rows
  pub most : (client : ℕ) → rows_counted client any_kind rows ≤ 128
  pub most_alike : (client : ℕ) (kind : Kind) → rows_counted client (counts_with kind) rows ≤ 8
  pub planted : IsPlanted rows
  pub linked : list_all (links_right rows) rows ≡ true
  pub fitting : list_all is_fit rows ≡ true
  pub films : HaveFitFilms rows
