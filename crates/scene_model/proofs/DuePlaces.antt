-- Which of a client's widgets have a place, and where, depends on that client's rows alone.
use Rattle.std.proofs.Common.{◌≡◌, ℕ, Bool, cond, List, Option, Some, None, refl, sym, ap, ap₂, ◌∙◌}
use Rattle.geom_core.specs.declared.rectangle.Rect.{Rect}
use Rattle.widget_model.specs.Rows.{Row}
use Rattle.widget_model.specs.Named.{own_rows, row_named, is_kind_of}
use Rattle.widget_model.specs.Kinds.{is_window_kind}
use Rattle.widget_model.specs.Keys.{key_of, row_of, root_key}
use Rattle.widget_model.specs.Trees.{root_of, most_levels}
use Rattle.widget_model.proofs.OwnRows.{row_named-agree, root_in-agree}
use Rattle.scene_model.specs.Placing.{place_in}
use Rattle.scene_model.specs.DuePlaces.{due_place}
use Rattle.scene_model.proofs.OwnRows.{places_depend_on_own_rows}

pub due_place-agree : (a b : List Row) (row : Row) → own_rows row.client a ≡ own_rows row.client b → due_place a row ≡ due_place b row
unfolding due_place
due_place-agree a b row same =
    let roots : root_of a row.client row.name ≡ root_of b row.client row.name = root_in-agree most_levels row.client row.name a b same in
    let found : row_named a row.client (root_of a row.client row.name) ≡ row_named b row.client (root_of b row.client row.name) =
    ap (row_named a row.client) roots ∙ row_named-agree row.client (root_of b row.client row.name) a b same in
    ap₂ (λ (root : Option Row) (place : Rect). cond (is_kind_of is_window_kind root) (Some place) None) found (places_depend_on_own_rows a b row same).places
