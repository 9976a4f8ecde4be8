-- The rows of widgets are within their limits.
use Rattle.std.proofs.lemmas.Bool.{and_from}
use Rattle.std.specs.List.{list_all}
use Rattle.widget_model.specs.Widgets.{rows_of}
use Rattle.widget_model.specs.Fitting.{fits_table, fits_rule, fits_rules, is_fit}
use Rattle.widget_model.proofs.Fit.{IsFit-is_fit}
use Rattle.widget_model.proofs.Hanging.{all_at, all_from}
use Rattle.scene_model.specs.FitLaws.{WidgetsAreFit}

pub widgets_are_fit : WidgetsAreFit
widgets_are_fit widgets is =
    record {
      planted = is.rows.planted;
      values = all_from fits_table (rows_of widgets) (λ i row there. (IsFit-is_fit row (all_at is_fit (rows_of widgets) i row is.rows.fitting there)).table);
      rules = all_from fits_rules (rows_of widgets)
          (λ i row there.
          let fit = IsFit-is_fit row (all_at is_fit (rows_of widgets) i row is.rows.fitting there) in
          and_from (list_all fits_rule row.column_rules) (list_all fits_rule row.row_rules) fit.columns fit.rows);
      films = is.rows.films;
    }
